use Rattle.draw_check.proofs.drawing.PointDrawing.first_crossing.Goals as goal

pub returns-in-Some-crossing_of : goal.returns-in-Some-crossing_of
returns-in-Some-crossing_of c =
    let first = c.in-Some.ensures in
    record {
      before = λ r s t u less x. first.before r s less (record { first = t; second = u; cross = x });
      rest = record {
        before = λ s t u less x. first.rest.before s less (record { first = t; second = u; cross = x });
        rest = c.in-Some-crossing_of.ensures;
      };
    }

pub returns-in-None : goal.returns-in-None
returns-in-None c = λ a b e f x. c.in-None.ensures a b (record { first = e; second = f; cross = x })

use Rattle.std.proofs.Common.{arith}
use Rattle.std.proofs.lemmas.Bool.{OnTrue_from}
use Rattle.std.proofs.lemmas.Int.{ints}
use Rattle.draw_check.specs.Spans.{IsLeftOf}
use Rattle.draw_check.proofs.bounding_boxes.is_left_of.Goals as goal

pub returns : goal.returns
returns c =
    OnTrue_from c.is_not_negative.result (IsLeftOf c.args.extent.span c.args.p.point c.args.q.point)
    (λ t u inside. let up = c.is_not_negative.ensures.0 t in let least = c.far_corner.ensures.least u inside in let area = c.area2.ensures in omega (arith, ints))

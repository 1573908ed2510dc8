use Rattle.std.proofs.Common.{Some, None, rules, arith}
use Rattle.vertex_rounds.proofs.FirstLemmas.{least_pair}
use Rattle.rect_class.specs.Loops.{HasThird}
use Rattle.rect_class.proofs.upper_neighbours.Upper.first_separating.Goals as goal

pub third_between-requires : goal.third_between-requires
third_between-requires c =
    (least_pair c.args.self.now.map.now c.args.self.now.map.now.known _ (HasThird c.args.self.now.map.now.lists) 0 (Some (c.in-Some.a, c.in-Some.b)) c.in-Some.ensures (λ d live late r s. search rules) (λ a b x. (omega arith, x.separating.low))).rest.here

pub returns-in-Some : goal.returns-in-Some
returns-in-Some c =
    let first = least_pair c.args.self.now.map.now c.args.self.now.map.now.known _ (HasThird c.args.self.now.map.now.lists) 0 (Some (c.in-Some.a, c.in-Some.b)) c.in-Some.ensures (λ d live late r s. search rules) (λ a b x. (omega arith, x.separating.low)) in
    record {
      before = λ a b t less x. first.before a b less (record { third = t; separating = x });
      rest = record {
        before = λ b t less x. first.rest.before b less (record { third = t; separating = x });
        rest = c.third_between.ensures;
      };
    }

pub returns-in-None : goal.returns-in-None
returns-in-None c =
    let none = least_pair c.args.self.now.map.now c.args.self.now.map.now.known _ (HasThird c.args.self.now.map.now.lists) 0 None c.in-None.ensures (λ d live late r s. search rules) (λ a b x. (omega arith, x.separating.low)) in
    λ a b t x. none a b (record { third = t; separating = x })

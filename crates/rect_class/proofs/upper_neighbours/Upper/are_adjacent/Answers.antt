use Rattle.std.proofs.Common.{arith}
use Rattle.rect_class.proofs.UpperLemmas.{Contains-upper}
use Rattle.rect_class.proofs.upper_neighbours.Upper.are_adjacent.Goals as goal

pub returns-then-degree : goal.returns-then-degree
returns-then-degree c =
    let found = c.has_upper.ensures in
    let is = Contains-upper c.args.self.now.map.now.lists c.args.self.now.rows.now c.args.u.0 c.args.v.0 c.args.self.now.upper c.requires.u (omega (arith, c.if-degree.true)) in
    ((λ t. is.0 (found.0 t)), (λ d. found.1 (is.1 d)))

pub returns-else-degree : goal.returns-else-degree
returns-else-degree c =
    let found = c.has_upper-else-degree.ensures in
    let turned = c.args.self.now.map.now.known.simple.both_ways in
    let is = Contains-upper c.args.self.now.map.now.lists c.args.self.now.rows.now c.args.v.0 c.args.u.0 c.args.self.now.upper c.requires.v (omega (arith, c.if-degree.false)) in
    ((λ t. turned c.args.v.0 c.args.u.0 (is.0 (found.0 t))), (λ d. found.1 (is.1 (turned c.args.u.0 c.args.v.0 d))))

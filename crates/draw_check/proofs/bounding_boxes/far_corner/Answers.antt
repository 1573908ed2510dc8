use Rattle.std.proofs.Common.{◌≤ℤ◌, FitsSigned, w32, to_z-of_z, inl, inr, rules, arith}
use Rattle.std.proofs.lemmas.Int.{ints}
use Rattle.draw_check.proofs.SpanLemmas.{area-le}
use Rattle.draw_check.proofs.bounding_boxes.far_corner.Goals as goal

pub returns-then-p-q-clause-least : goal.returns-then-p-q-clause-least
returns-then-p-q-clause-least c = λ u inside.
    let p = c.args.p in let q = c.args.q in
    let fp : FitsSigned w32 p.y = search rules in let fq : FitsSigned w32 q.y = search rules in
    let side : FitsSigned w32 c.args.extent.span.right = search rules in let level : FitsSigned w32 c.far_level-level.result = search rules in
    let test = rw (to_z-of_z fp, to_z-of_z fq) at c.if-p-q.true in
    let up : p.y ≤ℤ q.y = grind (arith, ints) in
    rw (to_z-of_z side, to_z-of_z level) (area-le p q (record { x = c.args.extent.span.right; y = c.far_level-level.result }) u (c.far_level-level.ensures.far u inside) (inl (up, inside.right)))

pub returns-else-p-q-clause-least : goal.returns-else-p-q-clause-least
returns-else-p-q-clause-least c = λ u inside.
    let p = c.args.p in let q = c.args.q in
    let fp : FitsSigned w32 p.y = search rules in let fq : FitsSigned w32 q.y = search rules in
    let side : FitsSigned w32 c.args.extent.span.left = search rules in let level : FitsSigned w32 c.far_level-level.result = search rules in
    let test = rw (to_z-of_z fp, to_z-of_z fq) at c.if-p-q.false in
    let down : q.y ≤ℤ p.y = grind (arith, ints) in
    rw (to_z-of_z side, to_z-of_z level) (area-le p q (record { x = c.args.extent.span.left; y = c.far_level-level.result }) u (c.far_level-level.ensures.far u inside) (inr (down, inside.left)))

use Rattle.std.proofs.Common.{FitsSigned, w32, to_z-of_z, inl, inr, rules}
use Rattle.draw_check.proofs.bounding_boxes.is_apart.Goals as goal

pub returns-then-are_less : goal.returns-then-are_less
returns-then-are_less c =
    let p : FitsSigned w32 c.args.p.point.x = search rules in let q : FitsSigned w32 c.args.q.point.x = search rules in let bound : FitsSigned w32 c.args.span.left = search rules in
    let h = c.are_less.ensures.0 c.if-are_less.true in inl (simp to_z-of_z at h)

pub returns-then-are_greater : goal.returns-then-are_greater
returns-then-are_greater c =
    let p : FitsSigned w32 c.args.p.point.x = search rules in let q : FitsSigned w32 c.args.q.point.x = search rules in let bound : FitsSigned w32 c.args.span.right = search rules in
    let h = c.are_greater.ensures.0 c.if-are_greater.true in inr (inl (simp to_z-of_z at h))

pub returns-then-are_less-2 : goal.returns-then-are_less-2
returns-then-are_less-2 c =
    let p : FitsSigned w32 c.args.p.point.y = search rules in let q : FitsSigned w32 c.args.q.point.y = search rules in let bound : FitsSigned w32 c.args.span.bottom = search rules in
    let h = c.are_less-2.ensures.0 c.if-are_less-2.true in inr (inr (inl (simp to_z-of_z at h)))

pub returns-then-are_greater-2 : goal.returns-then-are_greater-2
returns-then-are_greater-2 c =
    let p : FitsSigned w32 c.args.p.point.y = search rules in let q : FitsSigned w32 c.args.q.point.y = search rules in let bound : FitsSigned w32 c.args.span.top = search rules in
    let h = c.are_greater-2.ensures.0 c.if-are_greater-2.true in inr (inr (inr (simp to_z-of_z at h)))

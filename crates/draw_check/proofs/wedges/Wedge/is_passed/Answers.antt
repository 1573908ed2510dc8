use Rattle.std.proofs.Common.{refl}
use Rattle.draw_check.proofs.WedgeLemmas.{left_passed, right_passed}
use Rattle.draw_check.proofs.wedges.Wedge.is_passed.Goals as goal

pub returns-then-is_left-2 : goal.returns-then-is_left-2
returns-then-is_left-2 c = λ u held.
    let w = c.args.self in
    left_passed w.apex.point w.right.point w.left.point w.turn c.args.p.point c.args.q.point u (c.if-is_left.ensures.0 refl) (c.if-is_left-2.ensures.0 refl) held

pub returns-then-is_right-2 : goal.returns-then-is_right-2
returns-then-is_right-2 c = λ u held.
    let w = c.args.self in
    right_passed w.apex.point w.right.point w.left.point w.turn c.args.p.point c.args.q.point u (c.if-is_right.ensures.0 refl) (c.if-is_right-2.ensures.0 refl) held

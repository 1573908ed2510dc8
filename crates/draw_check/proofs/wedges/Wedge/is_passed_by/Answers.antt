use Rattle.draw_check.proofs.WedgeLemmas.{left_passed, right_passed}
use Rattle.draw_check.proofs.wedges.Wedge.is_passed_by.Goals as goal

pub returns-then-is_left_of-2 : goal.returns-then-is_left_of-2
returns-then-is_left_of-2 c = λ p q u first second held.
    let w = c.args.self in
    let right = c.if-is_left_of.ensures in
    let left = c.if-is_left_of-2.ensures in
    left_passed w.apex.point w.right.point w.left.point w.turn p q u (record { first = right p first; second = left p first }) (record { first = right q second; second = left q second }) held

pub returns-then-is_left_of-4 : goal.returns-then-is_left_of-4
returns-then-is_left_of-4 c = λ p q u first second held.
    let w = c.args.self in
    let right = c.if-is_left_of-3.ensures in
    let left = c.if-is_left_of-4.ensures in
    right_passed w.apex.point w.right.point w.left.point w.turn p q u (record { first = right p first; second = left p first }) (record { first = right q second; second = left q second }) held

-- The condition of the lists is the one of the arrays.
use Rattle.std.proofs.Common.{sym, subst}
use Rattle.rect_class.specs.Refusals.{BreaksRect}
use Rattle.pigale_c.specs.Arrays.{lists_in}
use Rattle.pigale_c.specs.Failures.{Fails}
use Rattle.pigale_c.specs.RectArrays.{rects_in, IsGivenRects}
use Rattle.pigale_c.specs.declared.outcome.Failure.{Failure}
use Rattle.pigale_c.proofs.FailureLemmas.{Fails-for}
use Rattle.refusals.specs.Conditions.{IfRefused}
use Rattle.map_lists.specs.Lists.{Lists}
use Rattle.pigale_c.proofs.rects.drawn.Goals as goal

pub returns-clause-failed : goal.returns-clause-failed
returns-clause-failed c =
    let given : IsGivenRects c.args.given.now.ends.now c.args.given.now.neighbours.now (rects_in c.args.rects.now.x1.now c.args.rects.now.x2.now c.args.rects.now.y1.now c.args.rects.now.y2.now) = record { map = c.in_ok-lists.ensures.given; rects = c.are_for.ensures.0 c.if-not-are_for.false } in
    let breaks = subst (λ (lists : Lists). IfRefused (BreaksRect lists) c.in-Err.unserved) c.in_ok-lists.ensures.lists c.in-Err.ensures.refused in
    subst (λ (failure : Failure). Fails (IsGivenRects c.args.given.now.ends.now c.args.given.now.neighbours.now (rects_in c.args.rects.now.x1.now c.args.rects.now.x2.now c.args.rects.now.y1.now c.args.rects.now.y2.now)) (BreaksRect (lists_in c.args.given.now.ends.now c.args.given.now.neighbours.now)) failure)
    (sym c.from.ensures) (Fails-for _ _ c.in-Err.unserved given breaks)

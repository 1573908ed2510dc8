-- The condition of the lists is the one of the arrays.
use Rattle.std.proofs.Common.{sym, subst}
use Rattle.map_lists.specs.Lists.{Lists}
use Rattle.rect_class.specs.Refusals.{BreaksRect}
use Rattle.refusals.specs.Conditions.{IfRefused}
use Rattle.pigale_c.specs.Arrays.{lists_in, IsGivenMap}
use Rattle.pigale_c.specs.Failures.{Fails}
use Rattle.pigale_c.specs.declared.outcome.Failure.{Failure}
use Rattle.pigale_c.proofs.FailureLemmas.{Fails-for}
use Rattle.pigale_c.proofs.edge_labellings.map_of.Goals as goal

pub returns-in-Err-clause-failed : goal.returns-in-Err-clause-failed
returns-in-Err-clause-failed c =
    let breaks = subst (λ (lists : Lists). IfRefused (BreaksRect lists) c.in-Err.unserved) c.requires.lists c.in-Err.ensures.refused in
    subst (λ (failure : Failure). Fails (IsGivenMap c.args.given.now.ends.now c.args.given.now.neighbours.now) (BreaksRect (lists_in c.args.given.now.ends.now c.args.given.now.neighbours.now)) failure)
    (sym c.from.ensures) (Fails-for _ _ c.in-Err.unserved c.requires.given breaks)

-- The verdict on the drawing of the map, whose lists are those given.
use Rattle.std.proofs.Common.{sym, subst}
use Rattle.map_lists.specs.Lists.{Lists}
use Rattle.conn_parts.specs.Counted.{IsCountOf}
use Rattle.figure_verdicts.proofs.VerdictLemmas.{IsGridVerdict-drawn}
use Rattle.figure_verdicts.proofs.verdict_by_kind.grid_verdict.Goals as goal

pub invariant_of-drawing-clause-counted : goal.invariant_of-drawing-clause-counted
invariant_of-drawing-clause-counted c =
    let counted = c.in-Ok.ensures.counted in
    subst (λ (ls : Lists). IsCountOf ls c.in-Ok.found.count) (sym counted.lists_are) counted.count

pub returns-in_ok-verdict-in-Ok : goal.returns-in_ok-verdict-in-Ok
returns-in_ok-verdict-in-Ok c = IsGridVerdict-drawn c.args.job c.args.lists.now c.in-Ok.found.map.lists c.args.points.now c.in_ok-verdict-in-Ok.verdict c.in-Ok.ensures.counted.lists_are c.in-Ok.ensures.simple c.in_ok-verdict-in-Ok.ensures

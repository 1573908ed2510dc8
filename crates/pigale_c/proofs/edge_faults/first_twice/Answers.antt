-- The second of two edges between the same vertices.
use Rattle.std.proofs.Common.{sym, ◌∙◌}
use Rattle.pigale_c.proofs.EdgeFaultLemmas.{joined_at, second_joined}
use Rattle.pigale_c.proofs.edge_faults.first_twice.Goals as goal

pub returns-in-Some : goal.returns-in-Some
returns-in-Some c = second_joined c.args.n c.args.v c.args.u c.args.edges.now c.loop-i.i c.loop-i.first c.in-Some.j c.in-Some.is c.loop-i.invariant c.loop-i-test.true
    (joined_at c.args.v c.args.u c.args.edges.now c.loop-i.i _ c.loop-i-test.true (sym c.is_between.ensures ∙ c.if-is_between.true))

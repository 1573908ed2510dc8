use Rattle.pigale_c.proofs.EdgeFaultLemmas.{IsFirstJoined}
use Rattle.pigale_c.proofs.edge_faults.first_twice.Given as goal

abbrev pub invariant-loop-i : goal.invariant-loop-i
invariant-loop-i l = IsFirstJoined l.v l.u l.edges l.i l.first

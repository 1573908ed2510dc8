use Rattle.std.proofs.Common.{◌⊎◌}
use Rattle.kuratowski.specs.Faults.{Stands, StandsTwice}
use Rattle.kuratowski.specs.Inner.{IsLeastInner}
use Rattle.kuratowski.proofs.inner_vertices.wrong_inner.Given as goal

abbrev pub invariant-loop-i : goal.invariant-loop-i
invariant-loop-i l = IsLeastInner l.path (λ v. Stands l.branch v ⊎ StandsTwice l.path v) l.i l.least

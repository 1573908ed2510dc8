use Rattle.kuratowski.specs.Faults.{IsInner}
use Rattle.kuratowski.specs.Inner.{IsLeastInner}
use Rattle.kuratowski.proofs.inner_vertices.common_inner.Given as goal

abbrev pub invariant-loop-i : goal.invariant-loop-i
invariant-loop-i l = IsLeastInner l.path (IsInner l.other) l.i l.least

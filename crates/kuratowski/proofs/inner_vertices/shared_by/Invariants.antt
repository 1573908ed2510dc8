use Rattle.std.proofs.Common.{ℕ, ◌<◌}
use Rattle.kuratowski.specs.Faults.{IsShared}
use Rattle.kuratowski.proofs.inner_vertices.shared_by.Given as goal

abbrev pub invariant-loop-q : goal.invariant-loop-q
invariant-loop-q l = (k v : ℕ) → k < l.q → IsShared l.branch l.paths l.p k v → ⊥

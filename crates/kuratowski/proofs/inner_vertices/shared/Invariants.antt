use Rattle.std.proofs.Common.{ℕ, ◌<◌}
use Rattle.kuratowski.specs.Faults.{IsShared}
use Rattle.kuratowski.proofs.inner_vertices.shared.Given as goal

abbrev pub invariant-loop-first : goal.invariant-loop-first
invariant-loop-first l = (k q v : ℕ) → k < l.first → IsShared l.branch l.paths k q v → ⊥

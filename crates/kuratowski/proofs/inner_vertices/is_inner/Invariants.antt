use Rattle.std.proofs.Common.{◌≡◌, ℕ, ◌<◌}
use Rattle.kuratowski.specs.Witnesses.{vertex_at}
use Rattle.kuratowski.proofs.inner_vertices.is_inner.Given as goal

abbrev pub invariant-loop-i : goal.invariant-loop-i
invariant-loop-i l = (k : ℕ) → 0 < k → k < l.i → vertex_at l.path k ≡ l.vertex → ⊥

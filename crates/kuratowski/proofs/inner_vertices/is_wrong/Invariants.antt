use Rattle.std.proofs.Common.{◌≡◌, ◌≢◌, ℕ, ◌<◌}
use Rattle.kuratowski.specs.Witnesses.{vertex_at}
use Rattle.kuratowski.proofs.inner_vertices.is_wrong.Given as goal

abbrev pub invariant-loop-j : goal.invariant-loop-j
invariant-loop-j l = (k : ℕ) → k < l.j → k ≢ l.i → vertex_at l.path k ≡ vertex_at l.path l.i → ⊥

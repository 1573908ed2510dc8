use Rattle.std.proofs.Common.{◌≡◌, ℕ, ◌<◌}
use Rattle.kuratowski.specs.Witnesses.{vertex_at}
use Rattle.kuratowski.proofs.branches.stands.Given as goal

abbrev pub invariant-loop-j : goal.invariant-loop-j
invariant-loop-j l = (k : ℕ) → k < l.j → vertex_at l.list k ≡ l.vertex → ⊥

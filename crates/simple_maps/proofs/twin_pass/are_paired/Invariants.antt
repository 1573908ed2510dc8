use Rattle.std.proofs.Common.{ℕ, ◌<◌, ◌≤◌, get_or}
use Rattle.simple_maps.proofs.twin_pass.are_paired.Given as goal

abbrev pub invariant-loop-twin : goal.invariant-loop-twin
invariant-loop-twin l = (k : ℕ) → k < l.twin-index → get_or l.twins k 0 ≤ l.joined

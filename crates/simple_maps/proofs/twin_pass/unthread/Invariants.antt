use Rattle.std.proofs.Common.{◌≡◌, ℕ, ◌<◌, ◌≤◌, length, get_or}
use Rattle.simple_maps.proofs.twin_pass.unthread.Given as goal

abbrev pub invariant-loop-v : goal.invariant-loop-v
invariant-loop-v l = record {
  count : length l.newest ≡ length l.fn.newest;
  unset : (k : ℕ) → k < l.v → 16777216 ≤ get_or l.newest k 0;
}

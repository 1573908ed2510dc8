use Rattle.std.proofs.Common.{◌≡◌, ◌<◌, ℕ, length, get_or}
use Rattle.st_orders.proofs.orders.put_all.Given as goal

abbrev pub invariant-loop-v : goal.invariant-loop-v
invariant-loop-v l = record {
  long : length l.at ≡ length l.from;
  own : (u : ℕ) → u < l.v → get_or l.at (get_or l.from u 0) 0 ≡ u;
}

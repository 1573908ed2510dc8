use Rattle.std.proofs.Common.{◌≡◌, ◌<◌, ℕ, length}
use Rattle.drawings.specs.Bars.{IsNewHeight}
use Rattle.bar_check.specs.Tables.{AreSeen}
use Rattle.bar_check.proofs.heights_and_bars.first_bad_height_in.Given as goal

abbrev pub invariant-loop-v : goal.invariant-loop-v
invariant-loop-v l = record {
  size : length l.seen ≡ length l.map.lists;
  good : (u : ℕ) → u < l.v → IsNewHeight l.map.lists l.fig u;
  seen : AreSeen l.fig l.v l.seen;
}

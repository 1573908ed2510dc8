use Rattle.std.proofs.Common.{ℕ, ◌<◌}
use Rattle.drawings.specs.Bars.{IsBar}
use Rattle.bar_check.proofs.heights_and_bars.first_bad_bar.Given as goal

abbrev pub invariant-loop-v : goal.invariant-loop-v
invariant-loop-v l = (u : ℕ) → u < l.v → IsBar l.fig l.width u

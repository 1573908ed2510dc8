use Rattle.std.proofs.Common.{ℕ, ◌<◌}
use Rattle.drawings.specs.Bars.{IsStruck}
use Rattle.bar_check.proofs.blocked_edges.first_struck.Given as goal

abbrev pub invariant-loop-v : goal.invariant-loop-v
invariant-loop-v l = (u : ℕ) → u < l.v → ¬ IsStruck l.fig l.e.a.0 l.e.b.0 l.x u

use Rattle.std.proofs.Common.{ℕ, ◌<◌, ◌≡◌, ◌≤◌, ◌*◌}
use Rattle.drawings.specs.Bars.{edges_before}
use Rattle.bar_check.specs.Loops.{IsBlockedEdge}
use Rattle.bar_check.proofs.drawing.BarDrawing.first_blocked.Given as goal

abbrev pub invariant-loop-a : goal.invariant-loop-a
invariant-loop-a l = record {
  none : (s b : ℕ) → s < l.a → ¬ IsBlockedEdge l.self.map.now.lists l.self.fig.now s b;
  before : l.before ≡ edges_before l.self.map.now.lists l.a;
  few : l.before ≤ 65535 * l.a;
}

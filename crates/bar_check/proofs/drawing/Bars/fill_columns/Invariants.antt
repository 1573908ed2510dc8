use Rattle.std.proofs.Common.{◌≡◌, ◌<◌, ◌≤◌, ◌*◌, ℕ, length, slice_index}
use Rattle.drawings.specs.Bars.{edges_before}
use Rattle.bar_check.specs.Tables.{AreFilled, IsFirstMetBad}
use Rattle.bar_check.proofs.drawing.Bars.fill_columns.Given as goal

abbrev pub invariant-loop-v : goal.invariant-loop-v
invariant-loop-v l = record {
  size : length l.next ≡ length l.self.map.now.lists;
  before : l.before ≡ edges_before l.self.map.now.lists l.v;
  few : l.before ≤ 65535 * l.v;
  filled : (a : ℕ) → a < l.v → slice_index l.next a ≡ edges_before l.self.map.now.lists a;
}

abbrev pub invariant-loop-b : goal.invariant-loop-b
invariant-loop-b l = record {
  filled : AreFilled l.self.map.now l.self.fig.now l.b 0 l.next l.columns;
  found : IsFirstMetBad l.self.map.now.lists l.self.fig.now l.self.width l.b 0 l.bad;
}

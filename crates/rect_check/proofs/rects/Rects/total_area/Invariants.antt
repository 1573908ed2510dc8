use Rattle.std.proofs.Common.{◌≡◌, ◌*ℤ◌, ◌≤ℤ◌, pos}
use Rattle.drawings.specs.Duals.{area_of}
use Rattle.rect_check.proofs.rects.Rects.total_area.Given as goal

abbrev pub invariant-loop-v : goal.invariant-loop-v
invariant-loop-v l = record {
  total : l.total ≡ area_of l.self.fig.now l.v;
  low : pos 0 ≤ℤ l.total;
  high : l.total ≤ℤ (pos 4294836225 *ℤ pos l.v);
}

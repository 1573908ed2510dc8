use Rattle.std.proofs.Common.{ℕ, ◌<◌, ◌≤◌}
use Rattle.draw_check.specs.Spans.{IsBoxInRange}
use Rattle.draw_check.specs.Stars.{Reaches}
use Rattle.draw_check.proofs.drawing.PointDrawing.block_of.Given as goal

abbrev pub invariant-loop-v : goal.invariant-loop-v
invariant-loop-v l = record {
  range : IsBoxInRange l.span;
  reach : (w : ℕ) → l.fn.begin ≤ w → w < l.v → Reaches l.self.map.now.lists l.self.points.now l.span w;
}

-- No vertex before u shares its place with a later one, and u with none before v.
use Rattle.std.proofs.Common.{ℕ, ◌<◌, ◌≡◌}
use Rattle.plane_drawings.specs.Drawing.{place}
use Rattle.draw_check.specs.Faults.{ShareAPlace}
use Rattle.draw_check.proofs.drawing.PointDrawing.first_shared.Given as goal

abbrev pub invariant-loop-u : goal.invariant-loop-u
invariant-loop-u l = (s v : ℕ) → s < l.u → ¬ ShareAPlace l.self.map.now.lists l.self.points.now s v

abbrev pub invariant-loop-v : goal.invariant-loop-v
invariant-loop-v l = (w : ℕ) → l.u < w → w < l.v → ¬ (place l.self.points.now l.u ≡ place l.self.points.now w)

use Rattle.std.proofs.Common.{◌≡◌, ℕ, ◌<◌, length, get_or}
use Rattle.euler_faces.specs.FaceWalks.{ids_of}
use Rattle.plane_drawings.specs.Drawing.{place}
use Rattle.vertex_rounds.specs.Rounds.{dart_of}
use Rattle.convex_check.proofs.drawing.BasedDrawing.walk_points.Given as goal

abbrev pub invariant-loop-d : goal.invariant-loop-d
invariant-loop-d l = record {
  count : length l.places.items ≡ l.d-index;
  each : (i : ℕ) → i < l.d-index → place l.places.items i ≡ place l.self.points.now (dart_of l.self.map.now (get_or (ids_of l.walk) i 0)).0;
}

-- The map of a run is one of the run with its turns read off.
use Rattle.std.proofs.Common.{◌≡◌, ℕ, zero, suc, ◌+◌, refl, sym, ap, ◌∙◌, inl, inr, arith}
use Rattle.map_lists.specs.Lists.{Lists}
use Rattle.map_theory.specs.Maps.{Dart}
use Rattle.contour_runs.specs.FaceRuns.{Step, stage_after, IsDartOf, faces_made}
use Rattle.convex_counts.specs.Turns.{well_turned}
use Rattle.convex_counts.proofs.Turns.{contours_as_before}
use Rattle.convex_laws.specs.FaceDrawings.{IsRunDart}
use Rattle.convex_laws.specs.ConvexDrawings.{IsRunMap}

-- turns read off make no face more
pub faces_made-well_turned : (s : ℕ → Step) (n : ℕ) → faces_made (well_turned s) n ≡ faces_made s n
faces_made-well_turned s zero = refl
faces_made-well_turned s (suc n) = ap (λ m. m + (s n).faces) (faces_made-well_turned s n)

module _ (s : ℕ → Step) (n : ℕ) (x y face : ℕ) where
  abbrev ws : ℕ → Step
  ws = well_turned s

  vertex_at : (k j : ℕ) → (stage_after ws k).vertex j ≡ (stage_after s k).vertex j
  vertex_at k j = ap (λ (f : ℕ → ℕ). f j) (contours_as_before s k).2

  dart_as_before : (k i : ℕ) → IsDartOf (stage_after s k) (s k) i x y → IsDartOf (stage_after ws k) (ws k) i x y
  dart_as_before k i d = grind (arith, contours_as_before, vertex_at)

  run_dart_as_before : IsRunDart s n x y face → IsRunDart ws n x y face
  run_dart_as_before x0 = grind (arith, dart_as_before, faces_made-well_turned, contours_as_before, vertex_at)

pub map_as_before : (lists : Lists) (base : Dart) (s : ℕ → Step) (n : ℕ) (rank : ℕ → ℕ) (face : ℕ → ℕ → ℕ) → IsRunMap lists base s n rank face → IsRunMap lists base (well_turned s) n rank face
map_as_before lists base s n rank face m = grind (arith, contours_as_before, run_dart_as_before, faces_made-well_turned)

-- The verdict on the outer face of a drawing of a connected map: each face other than the base's has a positive area.
use Rattle.std.specs.Prelude.{ℕ, ◌≡◌, List, pos, ◌≤ℤ◌}
use Rattle.map_lists.specs.Lists.{Lists}
use Rattle.map_theory.specs.Maps.{Dart, HasDart, component_count}
use Rattle.map_theory.specs.Paths.{SameFace}
use Rattle.pg_plane.specs.declared.grid_points.Point.{Point}
use Rattle.drawings.specs.OuterFaces.{face_sum, HasOuterFace}
use Rattle.vertex_rounds.specs.Least.{IsLeastPair}
use Rattle.draw_check.specs.declared.verdict.OuterVerdict.{OuterVerdict}
use Rattle.draw_check.specs.declared.verdict.OuterVerdict.TheVariants.{Inside, Yes}

-- the face of the dart from v to u is another than the base's, and its area is not positive
pub record IsInside (lists : Lists) (points : List Point) (base : Dart) (v u : ℕ) : Type 0 where
  pub dart : HasDart lists v u
  pub other : ¬ SameFace lists base (v, u)
  pub sum : face_sum lists points (v, u) ≤ℤ pos 0

-- The verdict is the least dart of a connected map whose face is not the base's and has no positive area. It is `Yes` where there is none, or the map is not connected.
abbrev pub IsOuterVerdict : Lists → List Point → Dart → OuterVerdict → Type 0
IsOuterVerdict lists points base (Inside v u) =
    (component_count lists ≡ 1) × IsLeastPair (IsInside lists points base) v.0 u.0
IsOuterVerdict lists points base Yes = HasOuterFace lists points base

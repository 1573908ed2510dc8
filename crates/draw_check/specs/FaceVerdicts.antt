-- The verdict on a drawing of a triangulation, by its faces.
use Rattle.std.specs.Prelude.{ℕ, ◌<◌, ◌≡◌, List, ℤ, pos, ◌<ℤ◌}
use Rattle.map_lists.specs.Lists.{Lists}
use Rattle.map_theory.specs.Maps.{Dart, HasDart, follows}
use Rattle.map_theory.specs.Paths.{SameFace}
use Rattle.half_edges.specs.Map.{Map}
use Rattle.pg_plane.specs.declared.grid_points.Point.{Point}
use Rattle.pg_plane.specs.Geometry.{area}
use Rattle.plane_drawings.specs.Drawing.{place, IsCounterclockwise}
use Rattle.vertex_rounds.specs.Least.{IsLeast, IsLeastTriple}
use Rattle.vertex_rounds.specs.Rounds.{dart_of}
use Rattle.draw_check.specs.Faults.{LeavesGrid}
use Rattle.drawings.specs.Valid.{AllInGrid}
use Rattle.draw_check.specs.declared.verdict.FaceVerdict.{FaceVerdict}
use Rattle.draw_check.specs.declared.verdict.FaceVerdict.TheVariants.{OutOfGrid, Wrong, Yes}

-- the face of the dart from a to b, which goes on to c, is drawn counterclockwise, or clockwise where it is that of the base
pub record IsDrawnWell (lists : Lists) (points : List Point) (base : Dart) (a b c : ℕ) : Type 0 where
  pub inner : ¬ SameFace lists base (a, b) → pos 0 <ℤ area (place points a) (place points b) (place points c)
  pub outer : SameFace lists base (a, b) → area (place points a) (place points b) (place points c) <ℤ pos 0

-- a face walk a, b, c, written from its least vertex, that is not
pub record IsDrawnWrong (lists : Lists) (points : List Point) (base : Dart) (a b c : ℕ) : Type 0 where
  pub dart : HasDart lists a b
  pub third : follows lists b a ≡ c
  pub least : (a < b) × (a < c)
  pub wrong : ¬ IsDrawnWell lists points base a b c

-- the face of the dart from a to b is, a being its least vertex
abbrev pub IsWrongFrom : Map → List Point → ℕ → ℕ → ℕ → Type 0
IsWrongFrom map points base a b = IsDrawnWrong map.lists points (dart_of map base) a b (follows map.lists b a)

-- The verdict is the least vertex outside the grid, or else the least face that is not drawn as it should be, or that there is neither.
abbrev pub IsFaceVerdict : Lists → List Point → ℤ → ℤ → Dart → FaceVerdict → Type 0
IsFaceVerdict lists points width height base (OutOfGrid v) = IsLeast (LeavesGrid lists points width height) v.0
IsFaceVerdict lists points width height base (Wrong a b c) =
    AllInGrid lists points width height × IsLeastTriple (IsDrawnWrong lists points base) a.0 b.0 c.0
IsFaceVerdict lists points width height base Yes =
    AllInGrid lists points width height × IsCounterclockwise lists points base

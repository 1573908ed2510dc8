-- Darts that lead along an axis, noted at their vertices.
use Rattle.std.specs.Prelude.{ℕ, ◌<◌, ◌≡◌, List, slice_index, Some}
use Rattle.pg_plane.specs.declared.grid_points.Point.{Point}
use Rattle.plane_drawings.specs.Drawing.{place}
use Rattle.half_edges.specs.Map.{Map, dart_at}
use Rattle.convex_counts.specs.declared.face_woods.axis.Axis.{Axis}
use Rattle.convex_laws.specs.Signs.{IsRisingBy}

-- the id is that of a dart from v along the axis
pub record IsNoted (map : Map) (points : List Point) (c : Axis) (v id : ℕ) : Type 0 where
  pub head : ℕ
  pub dart : dart_at map id ≡ Some (v, head)
  pub rises : IsRisingBy c (place points v) (place points head)

abbrev pub IsRisingDart : Map → List Point → Axis → ℕ → Type 0
IsRisingDart map points c id = (v : ℕ) × IsNoted map points c v id

-- The dart of an id is noted, if it leads along the axis, and what was noted still is.
pub record Notes (map : Map) (points : List Point) (c : Axis) (id : ℕ) (old new : List ℕ) : Type 0 where
  pub kept : (v : ℕ) → IsNoted map points c v (slice_index old v) → IsNoted map points c v (slice_index new v)
  pub here : (v u : ℕ) → dart_at map id ≡ Some (v, u) → IsRisingBy c (place points v) (place points u) → IsNoted map points c v (slice_index new v)

-- Each vertex has a dart along the axis noted, if one of the first k ids is that of such a dart.
abbrev pub AreNoted : Map → List Point → Axis → ℕ → List ℕ → Type 0
AreNoted map points c k outs = (id v u : ℕ) → id < k → dart_at map id ≡ Some (v, u) → IsRisingBy c (place points v) (place points u) → IsNoted map points c v (slice_index outs v)

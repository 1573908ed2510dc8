-- What may be wrong with a drawing, and where.
use Rattle.std.specs.Prelude.{ℕ, ◌<◌, ◌≤◌, ◌≡◌, ◌≢◌, List, length, ℤ}
use Rattle.map_lists.specs.Lists.{Lists}
use Rattle.map_theory.specs.Maps.{list_of}
use Rattle.pg_plane.specs.declared.grid_points.Point.{Point}
use Rattle.pg_plane.specs.Geometry.{IsOnSegment, DoCross}
use Rattle.plane_drawings.specs.Drawing.{place, IsInGrid, GoesOnceRound}
use Rattle.vertex_rounds.specs.Rounds.{HasEdge, ComesBefore}

-- vertex v lies outside the grid
pub record LeavesGrid (lists : Lists) (points : List Point) (width height : ℤ) (v : ℕ) : Type 0 where
  pub vertex : v < length lists
  pub outside : ¬ IsInGrid width height (place points v)

-- two vertices stand at one place
pub record ShareAPlace (lists : Lists) (points : List Point) (u v : ℕ) : Type 0 where
  pub order : u < v
  pub vertex : v < length lists
  pub same : place points u ≡ place points v

-- vertex v lies on the edge from a to b, and is none of its ends
pub record LiesOnEdge (lists : Lists) (points : List Point) (v a b : ℕ) : Type 0 where
  pub vertex : v < length lists
  pub edge : HasEdge lists a b
  pub not_first : v ≢ a
  pub not_second : v ≢ b
  pub on : IsOnSegment (place points v) (place points a) (place points b)

-- the edge from a to b crosses the later one from c to d, and has no end in common with it
pub record EdgesCross (lists : Lists) (points : List Point) (a b c d : ℕ) : Type 0 where
  pub first : HasEdge lists a b
  pub second : HasEdge lists c d
  pub order : ComesBefore a b c d
  pub apart : (c ≢ a) × (c ≢ b) × (d ≢ a) × (d ≢ b)
  pub cross : DoCross (place points a) (place points b) (place points c) (place points d)

-- v has at least two neighbours, and their directions do not go clockwise just once round
pub record IsTurned (lists : Lists) (points : List Point) (v : ℕ) : Type 0 where
  pub vertex : v < length lists
  pub two : 2 ≤ length (list_of lists v)
  pub turned : ¬ GoesOnceRound lists points v

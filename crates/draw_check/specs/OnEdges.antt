-- Numbers that no vertex on an edge is below: of a crowd of vertices or of all, and on one edge, on a fan, on a star or on any.
use Rattle.std.specs.Prelude.{ℕ, ◌<◌, ◌≤◌, List, length, slice_index, Contains}
use Rattle.map_lists.specs.Lists.{Lists}
use Rattle.map_theory.specs.Maps.{HasDart}
use Rattle.pg_plane.specs.declared.grid_points.Point.{Point}
use Rattle.draw_check.specs.Faults.{LiesOnEdge}
use Rattle.draw_check.specs.Loops.{Meets}
use Rattle.draw_check.specs.declared.edge_meetings.Probe.TheVariants.{Vertex}

-- the vertices of a crowd that lie on the edge from a to b, and are none of its ends, are not below `best`
abbrev pub BoundsEdge : List Point → List ℕ → ℕ → ℕ → ℕ → Type 0
BoundsEdge points crowd a b best =
    (j : ℕ) → j < length crowd → Meets points (Vertex (record { 0 = slice_index crowd j })) a b → best ≤ slice_index crowd j

-- `BoundsEdge` for the edges from v to each of the heads
abbrev pub BoundsFan : List Point → List ℕ → ℕ → List ℕ → ℕ → Type 0
BoundsFan points crowd v heads best = (i : ℕ) → i < length heads → BoundsEdge points crowd v (slice_index heads i) best

-- `BoundsEdge` for the edges from v to its neighbours from number `from` on
abbrev pub BoundsStar : Lists → List Point → List ℕ → ℕ → ℕ → ℕ → Type 0
BoundsStar lists points crowd v from best = (u : ℕ) → from ≤ u → HasDart lists v u → BoundsEdge points crowd v u best

-- `BoundsEdge` for all edges
abbrev pub BoundsCrowd : Lists → List Point → List ℕ → ℕ → Type 0
BoundsCrowd lists points crowd best = (w a b : ℕ) → Contains crowd w → LiesOnEdge lists points w a b → best ≤ w

-- no vertex below `best` lies on an edge of which it is no end
abbrev pub BoundsAll : Lists → List Point → ℕ → Type 0
BoundsAll lists points best = (w a b : ℕ) → LiesOnEdge lists points w a b → best ≤ w

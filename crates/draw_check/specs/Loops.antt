-- What the loops of a check go over: edges that something meets, entries of lists, and breaks.
use Rattle.std.specs.Prelude.{ℕ, ◌<◌, ◌≤◌, ◌≢◌, List}
use Rattle.map_lists.specs.Lists.{Lists}
use Rattle.pg_plane.specs.declared.grid_points.Point.{Point}
use Rattle.pg_plane.specs.Geometry.{IsOnSegment, DoCross}
use Rattle.plane_drawings.specs.Drawing.{place, IsBreak}
use Rattle.draw_check.specs.Faults.{EdgesCross}
use Rattle.vertex_rounds.specs.Rounds.{HasEdge}
use Rattle.draw_check.specs.declared.edge_meetings.Probe.{Probe}
use Rattle.draw_check.specs.declared.edge_meetings.Probe.TheVariants.{Vertex, Edge}

-- the vertices of a probe are below n
abbrev pub IsProbeBelow : ℕ → Probe → Type 0
IsProbeBelow n (Vertex v) = v.0 < n
IsProbeBelow n (Edge s t) = (s.0 < n) × (t.0 < n)

-- a vertex that lies on the segment from a to b and is none of its ends, or an edge that crosses it and has no end in common
abbrev pub Meets : List Point → Probe → ℕ → ℕ → Type 0
Meets points (Vertex v) a b = (v.0 ≢ a) × (v.0 ≢ b) × IsOnSegment (place points v.0) (place points a) (place points b)
Meets points (Edge s t) a b =
    (a ≢ s.0) × (a ≢ t.0) × (b ≢ s.0) × (b ≢ t.0) × DoCross (place points s.0) (place points t.0) (place points a) (place points b)

-- `Meets`, as a record
pub record Touches (points : List Point) (probe : Probe) (a b : ℕ) : Type 0 where
  pub meets : Meets points probe a b

-- the edge from a to b is met
pub record IsMet (lists : Lists) (points : List Point) (probe : Probe) (a b : ℕ) : Type 0 where
  pub edge : HasEdge lists a b
  pub meets : Meets points probe a b

-- the edge from a to b is met, and its lesser end a is at least `from`
pub record IsMetFrom (lists : Lists) (points : List Point) (probe : Probe) (from a b : ℕ) : Type 0 where
  pub late : from ≤ a
  pub met : IsMet lists points probe a b

-- a later edge crosses the edge from a to b
pub record IsCrossed (lists : Lists) (points : List Point) (a b : ℕ) : Type 0 where
  pub first : ℕ
  pub second : ℕ
  pub cross : EdgesCross lists points a b first second

-- the directions round v break behind u
pub record Breaks (lists : Lists) (points : List Point) (v u : ℕ) : Type 0 where
  pub break : IsBreak lists points v u

-- The stars of vertices: the edges to the greater neighbours, or to all, their heads; boxes of runs of vertices; and the first edge that stars cross.
use Rattle.std.specs.Prelude.{ℕ, ◌+◌, ◌*◌, ◌<◌, ◌≤◌, ◌≡◌, ◌⊎◌, ◌↔◌, List, length, slice_index, slice_index_or, Contains, Option, Some, None, IfSome, ⊤, pos}
use Rattle.map_lists.specs.Lists.{Lists}
use Rattle.map_lists.specs.declared.items.Ends.{Ends}
use Rattle.map_theory.specs.Maps.{HasDart}
use Rattle.pg_plane.specs.declared.grid_points.Point.{Point}
use Rattle.plane_drawings.specs.Drawing.{place}
use Rattle.vertex_rounds.specs.Rounds.{HasEdge, ComesBefore}
use Rattle.draw_check.specs.Faults.{EdgesCross}
use Rattle.draw_check.specs.Loops.{Meets, IsCrossed}
use Rattle.draw_check.specs.Spans.{IsIn, IsBoxInRange}
use Rattle.draw_check.specs.declared.bounding_boxes.BoundingBox.{BoundingBox}
use Rattle.draw_check.specs.declared.edge_meetings.Probe.TheVariants.{Edge}

-- a box holds the heads from place `begin` on and before place `end`
abbrev pub HoldsHeads : List Point → List ℕ → BoundingBox → ℕ → ℕ → Type 0
HoldsHeads points heads span begin end = (i : ℕ) → begin ≤ i → i < end → IsIn span (place points (slice_index heads i))

-- the box of a run
abbrev pub run_at : List BoundingBox → ℕ → BoundingBox
run_at runs k = slice_index_or runs k (record { left = pos 0; right = pos 0; bottom = pos 0; top = pos 0 })

-- each run of 16 heads has a box within the range of coordinates
pub record AreRuns (points : List Point) (heads : List ℕ) (runs : List BoundingBox) : Type 0 where
  pub enough : length heads ≤ 16 * length runs
  pub in_range : (k : ℕ) → k < length runs → IsBoxInRange (run_at runs k)
  pub held : (k i : ℕ) → k < length runs → 16 * k ≤ i → i < 16 * (k + 1) → i < length heads → IsIn (run_at runs k) (place points (slice_index heads i))

-- a vertex and its greater neighbours lie in a box
pub record Reaches (lists : Lists) (points : List Point) (span : BoundingBox) (v : ℕ) : Type 0 where
  pub vertex : IsIn span (place points v)
  pub heads : (u : ℕ) → HasEdge lists v u → IsIn span (place points u)

-- each block of 16 vertices has a box of what their edges reach
pub record AreBlocks (lists : Lists) (points : List Point) (blocks : List BoundingBox) : Type 0 where
  pub in_range : (k : ℕ) → k < length blocks → IsBoxInRange (run_at blocks k)
  pub reach : (k v : ℕ) → k < length blocks → 16 * k ≤ v → v < 16 * (k + 1) → v < length lists → Reaches lists points (run_at blocks k) v

-- the heads of v are its neighbours from `from` on, in any order
abbrev pub AreHeads : Lists → ℕ → ℕ → List ℕ → Type 0
AreHeads lists v from heads = (u : ℕ) → Contains heads u ↔ ((from ≤ u) × HasDart lists v u)

-- an edge comes before the best one so far, if there is one
abbrev pub IsAhead : Option Ends → ℕ → ℕ → Type 0
IsAhead None a b = ⊤
IsAhead (Some e) a b = ComesBefore a b e.a.0 e.b.0

-- the edge from a to b comes before the best one so far, and crosses one from v to one of some heads
pub record IsCrossedBy (lists : Lists) (points : List Point) (v : ℕ) (heads : List ℕ) (best : Option Ends) (a b : ℕ) : Type 0 where
  pub edge : HasEdge lists a b
  pub ahead : IsAhead best a b
  pub place : ℕ
  pub within : place < length heads
  pub meets : Meets points (Edge (record { 0 = a }) (record { 0 = b })) v (slice_index heads place)

-- an edge belongs to the star of a vertex below v, or leads from v to one of the first k of some heads
abbrev pub IsDone : ℕ → List ℕ → ℕ → ℕ → ℕ → Type 0
IsDone v heads k c d = (c < v) ⊎ ((c ≡ v) × (i : ℕ) × (i < k) × (i < length heads) × (slice_index heads i ≡ d))

-- A later edge crosses the best one so far, if there is one; and of the edges that were done none crosses one that comes before.
pub record IsBest (lists : Lists) (points : List Point) (v : ℕ) (heads : List ℕ) (k : ℕ) (best : Option Ends) : Type 0 where
  pub crossed : IfSome best (λ e. IsCrossed lists points e.a.0 e.b.0)
  pub none : (a b c d : ℕ) → IsAhead best a b → IsDone v heads k c d → ¬ EdgesCross lists points a b c d

-- The best one is no later than it was, a later edge crosses it, and none from v to some heads crosses one that comes before.
pub record IsLowered (lists : Lists) (points : List Point) (v : ℕ) (heads : List ℕ) (old new : Option Ends) : Type 0 where
  pub crossed : IfSome old (λ e. IsCrossed lists points e.a.0 e.b.0) → IfSome new (λ e. IsCrossed lists points e.a.0 e.b.0)
  pub ahead : (a b : ℕ) → IsAhead new a b → IsAhead old a b
  pub none : (a b i : ℕ) → IsAhead new a b → i < length heads → ¬ EdgesCross lists points a b v (slice_index heads i)

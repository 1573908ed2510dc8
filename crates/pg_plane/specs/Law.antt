-- What counterclockwise faces imply of a drawing, said of its darts.
use Rattle.std.specs.Prelude.{ℕ, ◌<◌, ◌≡◌, ◌≢◌}
use Rattle.pg_plane.specs.declared.grid_points.Point.{Point}
use Rattle.pg_plane.specs.Geometry.{vector, IsOnSegment, DoCross, IsClockBefore}
use Rattle.pg_plane.specs.Faced.{IsFaced, IsTailed, turn}

-- the direction of a dart: from its place to that of its head, at which the step begins
abbrev pub direction : (ℕ → ℕ) → (ℕ → Point) → ℕ → Point
direction step at i = vector (at i) (at (step i))

-- a dart does not come strictly after the dart before it, clockwise round their vertex
abbrev pub IsBreak : (ℕ → ℕ) → (ℕ → ℕ) → (ℕ → Point) → ℕ → Type 0
IsBreak twin step at i = ¬ IsClockBefore (direction step at (turn twin step i)) (direction step at i)

-- The drawing is plane, and the darts round each vertex go clockwise just once round from west.
pub record IsPlaneByDarts (k : ℕ) (twin step : ℕ → ℕ) (at : ℕ → Point) (tail : ℕ → ℕ) : Type 0 where
  -- vertices stand apart
  pub apart : (i j : ℕ) → i < k → j < k → at i ≡ at j → tail i ≡ tail j
  -- no vertex stands on an edge of which it is no end
  pub off_edges : (i m : ℕ) → i < k → m < k → tail m ≢ tail i → tail m ≢ tail (step i) → ¬ IsOnSegment (at m) (at i) (at (step i))
  -- no two edges cross
  pub no_crossing : (i j : ℕ) → i < k → j < k → ¬ DoCross (at i) (at (step i)) (at j) (at (step j))
  pub some_break : (o : ℕ) → o < k → (i : ℕ) × (i < k) × (tail i ≡ tail o) × IsBreak twin step at i
  pub one_break : (i j : ℕ) → i < k → j < k → tail i ≡ tail j → IsBreak twin step at i → IsBreak twin step at j → i ≡ j

-- Counterclockwise triangular faces, but for one that is clockwise, are a plane drawing.
abbrev pub FacesArePlane : Type 0
FacesArePlane =
    (k : ℕ) (twin step : ℕ → ℕ) (at : ℕ → Point) (base : ℕ) (tail : ℕ → ℕ) → IsFaced k twin step at base → IsTailed k twin step at tail
    → IsPlaneByDarts k twin step at tail

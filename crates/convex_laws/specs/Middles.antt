-- A drawing by its darts, each with a place, that of the vertex that it leaves. The twin is the dart the other way; the step goes on along the face on the left, of any size, and `back` the other way. Each face has a number, and a point for its middle.
use Rattle.std.specs.Prelude.{ℕ, ◌<◌, ◌≡◌, ◌≢◌, pos, ◌<ℤ◌}
use Rattle.pg_plane.specs.declared.grid_points.Point.{Point}
use Rattle.pg_plane.specs.Geometry.{area, IsOnSegment, DoCross, IsClockBefore}
use Rattle.classes.proofs.Orbits.{IsPermuting}
use Rattle.pg_plane.specs.Law.{direction}

-- Each dart has the middle of its face strictly on its left, but for the base, which has it on its right. In each vertex all darts have one place.
pub record IsMiddled (k : ℕ) (twin step back : ℕ → ℕ) (at : ℕ → Point) (tail face : ℕ → ℕ) (middle : ℕ → Point) (base : ℕ) : Type 0 where
  pub twins : IsPermuting twin k
  pub steps : IsPermuting step k
  pub twice : (i : ℕ) → i < k → twin (twin i) ≡ i
  pub back_in : (i : ℕ) → i < k → back i < k
  pub step_back : (i : ℕ) → i < k → step (back i) ≡ i
  -- the step leaves the vertex to which the dart leads
  pub tails : (i : ℕ) → i < k → tail (step i) ≡ tail (twin i)
  pub places : (i j : ℕ) → i < k → j < k → tail i ≡ tail j → at i ≡ at j
  pub faces : (i : ℕ) → i < k → face (step i) ≡ face i
  pub base_in : base < k
  pub inner : (i : ℕ) → i < k → i ≢ base → pos 0 <ℤ area (at i) (at (step i)) (middle (face i))
  pub outer : area (at base) (at (step base)) (middle (face base)) <ℤ pos 0

-- the next dart round the vertex of a dart, counterclockwise
abbrev pub next : (ℕ → ℕ) → (ℕ → ℕ) → ℕ → ℕ
next twin back i = twin (back i)

-- a dart does not come strictly after that before it, clockwise round their vertex
abbrev pub IsBreakAt : (ℕ → ℕ) → (ℕ → ℕ) → (ℕ → ℕ) → (ℕ → Point) → ℕ → Type 0
IsBreakAt twin step back at i = ¬ IsClockBefore (direction step at (next twin back i)) (direction step at i)

-- The drawing is plane, and the darts round each vertex go clockwise just once round from west.
pub record IsPlaneRound (k : ℕ) (twin step back : ℕ → ℕ) (at : ℕ → Point) (tail : ℕ → ℕ) : Type 0 where
  pub apart : (i j : ℕ) → i < k → j < k → at i ≡ at j → tail i ≡ tail j
  pub off_edges : (i m : ℕ) → i < k → m < k → tail m ≢ tail i → tail m ≢ tail (step i) → ¬ IsOnSegment (at m) (at i) (at (step i))
  pub no_crossing : (i j : ℕ) → i < k → j < k → ¬ DoCross (at i) (at (step i)) (at j) (at (step j))
  pub some_break : (o : ℕ) → o < k → (i : ℕ) × (i < k) × (tail i ≡ tail o) × IsBreakAt twin step back at i
  pub one_break : (i j : ℕ) → i < k → j < k → tail i ≡ tail j → IsBreakAt twin step back at i → IsBreakAt twin step back at j → i ≡ j

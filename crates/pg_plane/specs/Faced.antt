-- A drawing by its darts: each has a place, that of the vertex that it leaves; the twin is the dart the other way, and the step goes on along the face on the left.
use Rattle.std.specs.Prelude.{ℕ, ◌<◌, ◌≡◌, ◌||◌, ◌==◌, Bool, false, pos, ◌<ℤ◌}
use Rattle.pg_plane.specs.declared.grid_points.Point.{Point}
use Rattle.pg_plane.specs.Geometry.{area}
use Rattle.classes.proofs.Orbits.{IsPermuting}

-- a dart of the face of the base
abbrev pub in_base : (ℕ → ℕ) → ℕ → ℕ → Bool
in_base step base i = (i == base) || ((i == step base) || (i == step (step base)))

-- Three steps lead back along each face, and each face but that of the base is walked counterclockwise, with a positive area; that of the base clockwise.
pub record IsFaced (k : ℕ) (twin step : ℕ → ℕ) (at : ℕ → Point) (base : ℕ) : Type 0 where
  pub twins : IsPermuting twin k
  pub steps : IsPermuting step k
  pub back : (i : ℕ) → i < k → twin (twin i) ≡ i
  pub thrice : (i : ℕ) → i < k → step (step (step i)) ≡ i
  -- the step leaves the vertex to which the dart leads
  pub head : (i : ℕ) → i < k → at (step i) ≡ at (twin i)
  pub base_in : base < k
  pub inner : (i : ℕ) → i < k → in_base step base i ≡ false → pos 0 <ℤ area (at i) (at (step i)) (at (step (step i)))
  pub outer : area (at base) (at (step base)) (at (step (step base))) <ℤ pos 0

-- the next dart round the vertex of i, counterclockwise
abbrev pub turn : (ℕ → ℕ) → (ℕ → ℕ) → ℕ → ℕ
turn twin step i = twin (step (step i))

-- The darts leave vertices that have a place each.
pub record IsTailed (k : ℕ) (twin step : ℕ → ℕ) (at : ℕ → Point) (tail : ℕ → ℕ) : Type 0 where
  pub tails : (i : ℕ) → i < k → tail (step i) ≡ tail (twin i)
  pub places : (i j : ℕ) → i < k → j < k → tail i ≡ tail j → at i ≡ at j

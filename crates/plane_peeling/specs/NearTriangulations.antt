-- Outer cycles, near triangulations, and vertices of an outer cycle that have no chord.
use Rattle.std.specs.Prelude.{ℕ, ◌-◌, ◌≤◌, ◌≡◌, ◌≢◌, ◌⊎◌, List, length, slice_index, AllPairs, Contains}
use Rattle.map_lists.specs.Lists.{Lists}
use Rattle.map_theory.specs.Maps.{HasDart, IsSimpleMap, IsPlane, follows, entry_after}
use Rattle.plane_laws.specs.Laws.{IsTriangle}

-- The face of the dart (t, s) goes from s along ws to t, meets no vertex twice, and has at least three. The dart (t, s) is the base.
pub record IsOuterCycle (lists : Lists) (s t : ℕ) (ws : List ℕ) : Type 0 where
  pub long : 3 ≤ length ws
  pub first : slice_index ws 0 ≡ s
  pub last : slice_index ws (length ws - 1) ≡ t
  pub distinct : AllPairs ◌≢◌ ws
  pub darts : (x : ℕ) → Contains ws x → HasDart lists x (entry_after x ws)
  pub turns : (x : ℕ) → Contains ws x → follows lists (entry_after x ws) x ≡ entry_after (entry_after x ws) ws

-- (x, y) is a dart of the outer cycle
abbrev pub IsOuterDart : List ℕ → ℕ → ℕ → Type 0
IsOuterDart ws x y = Contains ws x × (entry_after x ws ≡ y)

-- A simple map of genus zero with an outer cycle, in which each other face is a triangle.
pub record IsNearTriangulation (lists : Lists) (s t : ℕ) (ws : List ℕ) : Type 0 where
  pub simple : IsSimpleMap lists
  pub plane : IsPlane lists
  pub cycle : IsOuterCycle lists s t ws
  pub inner : (x y : ℕ) → HasDart lists x y → ¬ IsOuterDart ws x y → IsTriangle lists (x, y)

-- A vertex of the outer cycle that is not an end of the base and has no chord: of its neighbours just those before and after it are on the cycle.
pub record IsRemovable (lists : Lists) (s t : ℕ) (ws : List ℕ) (v : ℕ) : Type 0 where
  pub on : Contains ws v
  pub not_first : v ≢ s
  pub not_last : v ≢ t
  pub chordless : (u : ℕ) → HasDart lists v u → Contains ws u → (entry_after u ws ≡ v) ⊎ (entry_after v ws ≡ u)

-- The parents of a run, in tables.
use Rattle.std.specs.Prelude.{ℕ, ◌<◌, ◌≡◌, ◌≢◌, ◌⊎◌, List, length, slice_index}
use Rattle.contour_runs.specs.Runs.{Step}
use Rattle.wood_runs.specs.Parents.{Colour, IsParent}
use Rattle.schnyder_wood.specs.Parents.{by_colour}

-- The vertices of a row from its second place up to the place j, not included, are noted as covered by v.
pub record AreCovered (v : ℕ) (row : List ℕ) (j : ℕ) (covers covers' : List ℕ) : Type 0 where
  pub covered : (i : ℕ) → 0 < i → i < j → slice_index covers' (slice_index row i) ≡ v
  pub others : (u : ℕ) → ((i : ℕ) → 0 < i → i < j → slice_index row i ≢ u) → slice_index covers' u ≡ slice_index covers u
  pub either : (u : ℕ) → (slice_index covers' u ≡ v) ⊎ (slice_index covers' u ≡ slice_index covers u)

-- the parents that k steps give, in a table for each colour, by ranks
pub record AreParentTables (steps : ℕ → Step) (k n : ℕ) (firsts lasts covers : List ℕ) : Type 0 where
  pub each : (c : Colour) (v w : ℕ) → IsParent c steps k v w → slice_index (by_colour firsts lasts covers c) v ≡ w
  pub within : (c : Colour) (v : ℕ) → slice_index (by_colour firsts lasts covers c) v < n

-- a table by ranks, with each vertex and its parent named by their entries in `at`
pub record AreNamed (table ranks at names : List ℕ) : Type 0 where
  pub count : length names ≡ length ranks
  pub each : (v : ℕ) → v < length ranks → slice_index names v ≡ slice_index at (slice_index table (slice_index ranks v))

-- For each vertex its parents that m steps give, named by their entries in `at`.
pub record AreParentsAt (steps : ℕ → Step) (m : ℕ) (ranks at ones twos threes : List ℕ) : Type 0 where
  pub count : (c : Colour) → length (by_colour ones twos threes c) ≡ length ranks
  pub each : (c : Colour) (v w : ℕ) → v < length ranks → IsParent c steps m (slice_index ranks v) w → slice_index (by_colour ones twos threes c) v ≡ slice_index at w

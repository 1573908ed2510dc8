-- The closed path of a region, in tables.
use Rattle.std.specs.Prelude.{ℕ, ◌+◌, ◌<◌, ◌≤◌, ◌≡◌, ◌⊎◌, List, length, slice_index}
use Rattle.map_theory.specs.Maps.{Dart}
use Rattle.wood_runs.specs.Parents.{Colour, one, two}
use Rattle.schnyder_wood.specs.Parents.{Parents, count_in, root_in, parent_in, IsInnerIn, LeadsIn, IsRooted}

-- the base: from root two to root one
abbrev pub base_in : Parents → Dart
base_in wood = (root_in wood two, root_in wood one)

-- an inner vertex on the path of a colour from v
abbrev pub IsPassed : Parents → Colour → ℕ → ℕ → Type 0
IsPassed wood c v u = ((d : ℕ) × LeadsIn wood c d v u) × IsInnerIn wood u

-- For each vertex where it leads along the path; what is off the path, and the root, leads to itself.
pub record NotesPath (wood : Parents) (c : Colour) (v : ℕ) (ups : List ℕ) : Type 0 where
  pub count : length ups ≡ count_in wood
  pub each : (u : ℕ) → u < count_in wood → (IsPassed wood c v u × (slice_index ups u ≡ parent_in wood c u)) ⊎ ((¬ IsPassed wood c v u) × (slice_index ups u ≡ u))

-- as `NotesPath`, of the first d steps alone
abbrev pub IsNoted : Parents → Colour → ℕ → ℕ → List ℕ → Type 0
IsNoted wood c v d ups =
    (u : ℕ) → u < count_in wood → (((e : ℕ) × (e < d) × LeadsIn wood c e v u × IsInnerIn wood u) × (slice_index ups u ≡ parent_in wood c u)) ⊎ (((e : ℕ) → e < d → ¬ LeadsIn wood c e v u) × (slice_index ups u ≡ u))

-- they lead to an inner vertex w, and each of them has lost height
pub record NotesSteps (wood : Parents) (c : Colour) (v d w : ℕ) (ups : List ℕ) : Type 0 where
  pub count : length ups ≡ count_in wood
  pub leads : LeadsIn wood c d v w
  pub inner : IsInnerIn wood w
  pub lower : (h : IsRooted wood) → h.height c w + d ≤ h.height c v
  pub each : IsNoted wood c v d ups

-- Paths in a map, and the parts into which two entries cut a list.
use Rattle.std.specs.Prelude.{ℕ, suc, ◌-◌, ◌<◌, ◌≡◌, true, List, ◌++◌, length, slice_index, All, Contains, take, drop}
use Rattle.classes.specs.Classes.{same_class}
use Rattle.map_lists.specs.Lists.{Lists}
use Rattle.map_theory.specs.Maps.{Dart, HasDart, dart_number, place_of, face_classes}

-- a path: at least one vertex, each adjacent to the next
pub record IsPath (lists : Lists) (path : List ℕ) : Type 0 where
  pub some : 0 < length path
  pub vertices : All (λ v. v < length lists) path
  pub steps : (i : ℕ) → suc i < length path → HasDart lists (slice_index path i) (slice_index path (suc i))

-- a path from s to t on which no avoided vertex stands
pub record JoinsAvoiding (lists : Lists) (avoided : List ℕ) (s t : ℕ) (path : List ℕ) : Type 0 where
  pub is_path : IsPath lists path
  pub start : slice_index path 0 ≡ s
  pub end : slice_index path (length path - 1) ≡ t
  pub avoids : (x : ℕ) → Contains path x → ¬ Contains avoided x

-- a list, cyclically, from its first a on
abbrev pub from_entry : ℕ → List ℕ → List ℕ
from_entry a us = drop (place_of a us) us ++ take (place_of a us) us

-- the entries of a list from a up to before b, cyclically; none where a is b
abbrev pub arc : List ℕ → ℕ → ℕ → List ℕ
arc us a b = take (place_of b (from_entry a us)) (from_entry a us)

-- two darts are in one face
abbrev pub SameFace : Lists → Dart → Dart → Type 0
SameFace lists d e = same_class (face_classes lists) (dart_number lists d) (dart_number lists e) ≡ true

-- The faces inside a closed walk, and how many there are.
use Rattle.std.specs.Prelude.{ℕ, ◌≡◌, Bool, not, ◌&&◌, ◌==◌, List}
use Rattle.classes.specs.Classes.{count_below, label, same_class}
use Rattle.map_lists.specs.Lists.{Lists}
use Rattle.map_theory.specs.Maps.{Dart, HasDart, dart_count, dart_number, face_classes}
use Rattle.convex_laws.specs.Walks.{is_odd_on}
use Rattle.convex_laws.specs.ClosedWalksLaws.{HasSide}

-- the number of a dart is the least of a face, by which the face is counted, and the face is not the base's
abbrev pub is_other_face : Lists → Dart → ℕ → Bool
is_other_face lists base i = (label (face_classes lists) i == i) && not (same_class (face_classes lists) (dart_number lists base) i)

-- Of the faces other than the base's k lie inside the walk: chains of faces from the base's face step over the walk an odd number of times where they lead there. Each dart has one answer for all chains.
pub record IsInsideCount (lists : Lists) (base : Dart) (walk : List Dart) (k : ℕ) : Type 0 where
  -- for the number of each dart whether its face lies inside
  pub inside : ℕ → Bool
  pub sides : (x y : ℕ) → HasDart lists x y → HasSide lists (is_odd_on walk) base x y (inside (dart_number lists (x, y)))
  pub count : count_below (λ i. is_other_face lists base i && inside i) (dart_count lists) ≡ k

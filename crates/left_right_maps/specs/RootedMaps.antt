-- Maps with a rooted spanning tree, and the darts in the order of a tour along it.
use Rattle.std.specs.Prelude.{ℕ, ◌+◌, ◌<◌, ◌≡◌, ◌≢◌, Bool, ◌&&◌, ◌||◌, ◌==◌, if◌then◌else◌, List, [], ◌∷◌, ◌++◌, length, slice_index_or, not}
use Rattle.map_lists.specs.Lists.{Lists}
use Rattle.map_theory.specs.Maps.{Dart, IsSimpleMap, list_of, same_dart, dart_count}
use Rattle.left_right_laws.specs.Tours.{IsTour}

-- u is below v, and next to it: v is its parent
abbrev pub is_child : (ℕ → ℕ) → (ℕ → ℕ) → ℕ → ℕ → Bool
is_child parent depth v u = not (depth u == 0) && (parent u == v)

-- the edge between v and u is one of the tree
abbrev pub in_tree : (ℕ → ℕ) → (ℕ → ℕ) → ℕ → ℕ → Bool
in_tree parent depth v u = is_child parent depth v u || is_child parent depth u v

-- lists, one for each entry of a list, one behind another
abbrev pub joined : {X : Type 0} → (ℕ → List X) → List ℕ → List X
joined f [] = []
joined f (u ∷ us) = f u ++ joined f us

-- the tour at v's entry u: over the edge to a child, through what is below it, and back; and past any other
abbrev pub tour_at : (ℕ → ℕ → Bool) → (ℕ → List Dart) → ℕ → ℕ → List Dart
tour_at child words v u = if child v u then (v, u) ∷ (words u ++ (u, v) ∷ []) else (v, u) ∷ []

-- A simple map with a rooted spanning tree. The list of each vertex but the root has the parent behind all other entries, and words are the tours through what is below each vertex.
pub record IsRootedMap (lists : Lists) (parent depth : ℕ → ℕ) (root : ℕ) (entries : ℕ → List ℕ) (words : ℕ → List Dart) : Type 0 where
  pub simple : IsSimpleMap lists
  pub root_in : root < length lists
  pub top : depth root ≡ 0
  pub others : (v : ℕ) → v < length lists → v ≢ root → 0 < depth v
  pub deeper : (v : ℕ) → v < length lists → 0 < depth v → depth v ≡ depth (parent v) + 1
  pub last : (v : ℕ) → v < length lists → v ≢ root → list_of lists v ≡ entries v ++ parent v ∷ []
  pub whole : list_of lists root ≡ entries root
  pub through : (v : ℕ) → v < length lists → words v ≡ joined (tour_at (is_child parent depth) words v) (entries v)

-- the place of the first d in a list of darts, or the list's length where it has none
abbrev pub place_in : List Dart → Dart → ℕ
place_in [] d = 0
place_in (e ∷ es) d = if same_dart e d then 0 else place_in es d + 1

-- the dart at a place
abbrev pub dart_at : List Dart → ℕ → Dart
dart_at es p = slice_index_or es p (0, 0)

-- The word of the root is a tour along the tree, which meets each dart once.
abbrev pub TreeHasTour : Type 0
TreeHasTour =
    (lists : Lists) (parent depth : ℕ → ℕ) (root : ℕ) (entries : ℕ → List ℕ) (words : ℕ → List Dart) → IsRootedMap lists parent depth root entries words → 0 < dart_count lists → IsTour lists (in_tree parent depth) (dart_at (words root)) (place_in (words root))

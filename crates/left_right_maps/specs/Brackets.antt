-- Words of darts in which edges stand as pairs of brackets.
use Rattle.std.specs.Prelude.{ℕ, ◌<◌, ◌≡◌, Bool, true, List, [], ◌∷◌, ◌++◌}
use Rattle.map_lists.specs.Lists.{Lists}
use Rattle.map_theory.specs.Maps.{Dart, IsPlane, dart_count}
use Rattle.left_right_maps.specs.RootedMaps.{in_tree, IsRootedMap}

-- a word in which each dart that does not pass a test is one of a pair, with its twin, and pairs do not cross
pub data IsBalanced (passed : ℕ → ℕ → Bool) : List Dart → Type 0 where
  none : IsBalanced passed []
  past : {v u : ℕ} {ds : List Dart} → passed v u ≡ true → IsBalanced passed ds → IsBalanced passed ((v, u) ∷ ds)
  pair : {v u : ℕ} {ds es : List Dart} → passed v u ≡ passed u v → IsBalanced passed ds → IsBalanced passed es → IsBalanced passed ((v, u) ∷ (ds ++ (u, v) ∷ es))

-- Let a map with at least one edge have a rooted spanning tree. If, in the word of its root, the edges off the tree are pairs of brackets that do not cross, the map has genus zero.
abbrev pub BalancedIsPlane : Type 0
BalancedIsPlane =
    (lists : Lists) (parent depth : ℕ → ℕ) (root : ℕ) (entries : ℕ → List ℕ) (words : ℕ → List Dart) → IsRootedMap lists parent depth root entries words → 0 < dart_count lists → IsBalanced (in_tree parent depth) (words root) → IsPlane lists

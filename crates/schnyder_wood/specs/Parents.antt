-- Woods: roots, parents, and the paths to the roots.
use Rattle.std.specs.Prelude.{ℕ, zero, suc, ◌<◌, ◌≡◌, ◌⊎◌, List, length, slice_index}
use Rattle.map_lists.specs.Lists.{Lists}
use Rattle.map_theory.specs.Maps.{Dart}
use Rattle.wood_runs.specs.Parents.{Colour, one, two, three}
use Rattle.wood_laws.specs.Woods.{root, IsWood}
use Rattle.schnyder_wood.specs.declared.colour.Colour.{Colour as GivenColour}
use Rattle.schnyder_wood.specs.declared.colour.Colour.TheVariants.{One, Two, Three}

-- a colour of the code
abbrev pub kind : GivenColour → Colour
kind One = one
kind Two = two
kind Three = three

-- of three values, the one for a colour
abbrev pub by_colour : {A : Type 0} → A → A → A → Colour → A
by_colour a b c one = a
by_colour a b c two = b
by_colour a b c three = c

-- the three roots of a wood, and for each vertex its parent of each colour
pub record Parents : Type 0 where
  pub root_one : ℕ
  pub root_two : ℕ
  pub root_three : ℕ
  pub ones : List ℕ
  pub twos : List ℕ
  pub threes : List ℕ

-- how many vertices there are
abbrev pub count_in : Parents → ℕ
count_in wood = length wood.ones

-- the root of a colour
abbrev pub root_in : Parents → Colour → ℕ
root_in wood = by_colour wood.root_one wood.root_two wood.root_three

-- the parent of v of a colour
abbrev pub parent_in : Parents → Colour → ℕ → ℕ
parent_in wood c v = slice_index (by_colour wood.ones wood.twos wood.threes c) v

-- one of the three roots
abbrev pub IsRoot : Parents → ℕ → Type 0
IsRoot wood v = (v ≡ wood.root_one) ⊎ ((v ≡ wood.root_two) ⊎ (v ≡ wood.root_three))

-- a vertex that is not a root
abbrev pub IsInnerIn : Parents → ℕ → Type 0
IsInnerIn wood v = (v < count_in wood) × (¬ IsRoot wood v)

-- From each inner vertex parents of one colour lead to the root of that colour: a parent is again inner, or that root, and has a lesser height.
pub record IsRooted (wood : Parents) : Type 0 where
  pub few : count_in wood < 4096
  pub height : Colour → ℕ → ℕ
  pub low : (c : Colour) (v : ℕ) → v < count_in wood → height c v < count_in wood
  pub falls : (c : Colour) (v : ℕ) → IsInnerIn wood v → height c (parent_in wood c v) < height c v
  pub goes_on : (c : Colour) (v : ℕ) → IsInnerIn wood v → IsInnerIn wood (parent_in wood c v) ⊎ (parent_in wood c v ≡ root_in wood c)

-- a number of steps to the parent of a colour, each from an inner vertex, lead from v to w
abbrev pub LeadsIn : Parents → Colour → ℕ → ℕ → ℕ → Type 0
LeadsIn wood c zero v w = v ≡ w
LeadsIn wood c (suc d) v w = IsInnerIn wood v × LeadsIn wood c d (parent_in wood c v) w

-- the path from v along a colour, from vertex to parent up to the root of the colour, has k vertices
pub record IsPathLength (wood : Parents) (c : Colour) (v k : ℕ) : Type 0 where
  pub steps : ℕ
  pub leads : LeadsIn wood c steps v (root_in wood c)
  pub both_ends : k ≡ suc steps

-- The roots are those of the map for this base, each of its own colour, and the parents are a wood of the map.
pub record IsWoodOf (lists : Lists) (base : Dart) (wood : Parents) : Type 0 where
  pub count : count_in wood ≡ length lists
  pub roots : (c : Colour) → root_in wood c ≡ root lists base c
  pub wood_is : IsWood lists base (parent_in wood)

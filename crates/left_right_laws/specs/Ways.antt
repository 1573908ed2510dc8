-- Ways in a map, and the order in which they leave and reach a vertex.
use Rattle.std.specs.Prelude.{ℕ, ◌<◌, ◌≢◌, ◌⊎◌, ◌↔◌, List, [], ◌∷◌, ◌++◌, AllPairs}
use Rattle.map_lists.specs.Lists.{Lists}
use Rattle.map_theory.specs.Maps.{HasDart, IsSimpleMap, IsPlane, list_of, place_of}

-- a, b and c stand in a list in this order
abbrev pub IsRising : List ℕ → ℕ → ℕ → ℕ → Type 0
IsRising us a b c = (place_of a us < place_of b us) × (place_of b us < place_of c us)

-- a, b and c stand in a list in this order, cyclically
abbrev pub IsInTurn : List ℕ → ℕ → ℕ → ℕ → Type 0
IsInTurn us a b c = IsRising us a b c ⊎ (IsRising us b c a ⊎ IsRising us c a b)

-- a way from x over the vertices of a list to y: each is adjacent to the next
abbrev pub IsWay : Lists → ℕ → List ℕ → ℕ → Type 0
IsWay lists x [] y = HasDart lists x y
IsWay lists x (u ∷ us) y = HasDart lists x u × IsWay lists u us y

-- the vertex that a way over a list to y has after its start
abbrev pub first_on : List ℕ → ℕ → ℕ
first_on [] y = y
first_on (u ∷ us) y = u

-- the vertex that a way from x over a list has before its end
abbrev pub last_on : ℕ → List ℕ → ℕ
last_on x [] = x
last_on x (u ∷ us) = last_on u us

-- three ways from x to y, which meet nowhere else
pub record AreThreeWays (lists : Lists) (x y : ℕ) (us vs ws : List ℕ) : Type 0 where
  pub one : IsWay lists x us y
  pub two : IsWay lists x vs y
  pub three : IsWay lists x ws y
  pub apart : AllPairs ◌≢◌ (x ∷ y ∷ (us ++ (vs ++ ws)))

-- In a map of genus zero three ways from x to y reach y in the order opposite to that in which they leave x.
abbrev pub ThreeWays : Type 0
ThreeWays =
    (lists : Lists) (x y : ℕ) (us vs ws : List ℕ) → IsSimpleMap lists → IsPlane lists → AreThreeWays lists x y us vs ws → IsInTurn (list_of lists x) (first_on us y) (first_on vs y) (first_on ws y) ↔ IsInTurn (list_of lists y) (last_on x ws) (last_on x vs) (last_on x us)

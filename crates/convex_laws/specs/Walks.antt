-- Walks over the darts of a map, and how often they pass an edge.
use Rattle.std.specs.Prelude.{ℕ, ◌≡◌, Bool, false, not, ◌||◌, if◌then◌else◌, List, [], ◌∷◌, ◌++◌}
use Rattle.map_lists.specs.Lists.{Lists}
use Rattle.map_theory.specs.Maps.{Dart, HasDart, twin_dart, same_dart}

-- a walk from v to w: each dart leaves the vertex to which the one before leads
abbrev pub IsWalk : Lists → ℕ → ℕ → List Dart → Type 0
IsWalk lists v w [] = v ≡ w
IsWalk lists v w (d ∷ ds) = (d.0 ≡ v) × HasDart lists d.0 d.1 × IsWalk lists d.1 w ds

-- a walk reversed: from its end to its start
abbrev pub turned : List Dart → List Dart
turned [] = []
turned (d ∷ ds) = turned ds ++ twin_dart d ∷ []

-- b, or the other one where a holds
abbrev pub flipped : Bool → Bool → Bool
flipped a b = if a then not b else b

-- a dart is one of the two of the edge between x and y
abbrev pub is_edge : Dart → ℕ → ℕ → Bool
is_edge d x y = same_dart d (x, y) || same_dart d (y, x)

-- whether a walk passes the edge between x and y an odd number of times, in either direction
abbrev pub is_odd_on : List Dart → ℕ → ℕ → Bool
is_odd_on [] x y = false
is_odd_on (d ∷ ds) x y = flipped (is_edge d x y) (is_odd_on ds x y)

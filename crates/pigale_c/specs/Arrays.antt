-- Maps and points as arrays.
use Rattle.std.specs.Prelude.{ℕ, ◌<◌, ◌≡◌, List, [], ◌∷◌, length, ℤ}
use Rattle.map_lists.specs.Cuts.{cut, AreCuts}
use Rattle.map_lists.specs.Lists.{Lists}
use Rattle.pg_plane.specs.declared.grid_points.Point.{Point}
use Rattle.pg_plane.specs.Range.{IsInRange}
use Rattle.plane_drawings.specs.Drawing.{place}

-- The rotation lists of two arrays: the list of each vertex ends in the second at the number that it has in the first, and begins where the list before it ends.
abbrev pub lists_in : List ℕ → List ℕ → Lists
lists_in ends neighbours = cut 0 ends neighbours

-- there are from 1 to 4095 vertices, and the ends do not fall and go to the end of the neighbours
pub record IsGivenMap (ends neighbours : List ℕ) : Type 0 where
  pub some_list : 0 < length ends
  pub few_lists : length ends < 4096
  pub cuts : AreCuts 0 ends (length neighbours)

-- the points with these coordinates
abbrev pub points_in : List ℤ → List ℤ → List Point
points_in [] ys = []
points_in (x ∷ xs) [] = []
points_in (x ∷ xs) (y ∷ ys) = record { x = x; y = y } ∷ points_in xs ys

-- no coordinate is beyond 2^20 in size
abbrev pub AllInRange : List Point → Type 0
AllInRange points = (v : ℕ) → v < length points → IsInRange (place points v)

-- as many coordinates of each kind as there are vertices, none beyond 2^20 in size
pub record ArePlaces (n : ℕ) (xs ys : List ℤ) : Type 0 where
  pub x : length xs ≡ n
  pub y : length ys ≡ n
  pub in_range : AllInRange (points_in xs ys)

-- a map, and a place for each vertex
pub record IsGivenDrawing (ends neighbours : List ℕ) (xs ys : List ℤ) : Type 0 where
  pub map : IsGivenMap ends neighbours
  pub places : ArePlaces (length ends) xs ys

-- A vertex of two neighbours taken out of its edge.
use Rattle.std.specs.Prelude.{ℕ, ◌<◌, ◌≡◌, List, [], ◌∷◌, length, slice_set}
use Rattle.map_lists.specs.Lists.{Lists}
use Rattle.map_theory.specs.Maps.{HasDart, IsSimpleMap, IsPlane, list_of, place_of}

-- a list with y in place of its first x
abbrev pub replaced : List ℕ → ℕ → ℕ → List ℕ
replaced us x y = slice_set us (place_of x us) y

-- the vertex x, whose neighbours are a and b, taken out of the edge that it stands in: its list is empty, and a and b stand in each other's lists in its place
abbrev pub smoothed : Lists → ℕ → ℕ → ℕ → Lists
smoothed lists x a b =
    slice_set (slice_set (slice_set lists a (replaced (list_of lists a) x b)) b (replaced (list_of lists b) x a)) x []

-- In a map of genus zero a vertex with two neighbours that are not adjacent can be taken out of its edge, and the genus stays zero.
abbrev pub VertexSmoothed : Type 0
VertexSmoothed =
    (lists : Lists) (x a b : ℕ) → IsSimpleMap lists → IsPlane lists → x < length lists → list_of lists x ≡ a ∷ b ∷ [] → ¬ HasDart lists a b → IsSimpleMap (smoothed lists x a b) × IsPlane (smoothed lists x a b)

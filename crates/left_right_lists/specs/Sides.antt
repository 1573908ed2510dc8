-- Sides of edges by a table, and edges that lead upwards.
use Rattle.std.specs.Prelude.{ℕ, ◌+◌, ◌*◌, ◌<◌, ◌≡◌, Bool, true, false, List, length, slice_index, slice_index_or}
use Rattle.std.specs.List.{AllPairs}
use Rattle.map_theory.specs.Maps.{Dart}
use Rattle.graphs.specs.Graphs.{EdgeGraph}
use Rattle.left_right_lists.specs.Trees.{joined}

-- the place of an edge in a table, by its ends below 256
abbrev pub dart_place : Dart → ℕ
dart_place d = d.0 * 256 + d.1

-- the sides by a table: whether an edge is on the left
abbrev pub side_in : List Bool → ℕ → ℕ → Bool
side_in sides t w = slice_index_or sides (dart_place (t, w)) false

-- a table has the sides of edges that a list has by number
abbrev pub AreTold : List Dart → List Bool → List Bool → Type 0
AreTold darts numbered sides = (x : ℕ) → x < length darts → slice_index_or sides (dart_place (slice_index_or darts x (0, 0))) false ≡ slice_index_or numbered x false

-- edges in the order of their places, each once
abbrev pub AreOrdered : List Dart → Type 0
AreOrdered darts = AllPairs (λ d e. dart_place d < dart_place e) darts

-- an edge of a graph or its tree that leads upwards
abbrev pub IsRising : EdgeGraph → List ℕ → List ℕ → Dart → Type 0
IsRising graph parents depths d =
    (slice_index depths d.1 < slice_index depths d.0) × (joined graph parents depths d.0 d.1 ≡ true)

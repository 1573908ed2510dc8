-- The edges of a map in their order: by the lesser end, and then by the greater.
use Rattle.std.specs.Prelude.{ℕ, ◌<◌, List, All, filter, flat_map, ◌&&◌, nat_lt, ◌==◌}
use Rattle.std.specs.List.{range_with_len, list_any}
use Rattle.map_lists.specs.Lists.{Lists}
use Rattle.map_theory.specs.Maps.{Dart, list_of, vertex_count, darts_from}

-- the vertices, in rising order
abbrev pub vertices : Lists → List ℕ
vertices lists = range_with_len 0 (vertex_count lists)

-- the neighbours of v that are greater than v, in rising order
unfoldable pub later_neighbours : Lists → ℕ → List ℕ
later_neighbours lists v = filter (λ u. nat_lt v u && list_any (λ w. w == u) (list_of lists v)) (vertices lists)

-- the edges, each by its lesser end and then its greater one
unfoldable pub edges : Lists → List Dart
edges lists = flat_map (λ v. darts_from v (later_neighbours lists v)) (vertices lists)

-- both ends of each edge are below n
abbrev pub AreBelow : ℕ → List Dart → Type 0
AreBelow n es = All (λ (e : Dart). (e.0 < n) × (e.1 < n)) es

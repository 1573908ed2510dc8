-- Lists without an edge.
use Rattle.std.specs.Prelude.{ℕ, List, slice_set, remove}
use Rattle.map_lists.specs.Lists.{Lists}
use Rattle.map_theory.specs.Maps.{list_of, place_of}

-- a list without its first x
abbrev pub without_entry : List ℕ → ℕ → List ℕ
without_entry us x = remove us (place_of x us)

-- the lists without the edge between u and v
abbrev pub without_edge : Lists → ℕ → ℕ → Lists
without_edge lists u v =
    slice_set (slice_set lists u (without_entry (list_of lists u) v)) v (without_entry (list_of lists v) u)

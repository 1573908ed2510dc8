-- The header that may stand before the first line.
use Rattle.std.specs.Prelude.{ℕ, if◌then◌else◌, codes, List, [], ◌∷◌, ◌++◌}
use Rattle.std.specs.List.{starts_with}
use Rattle.std.specs.Prelude.{nat_eq}

-- the header of graph6
abbrev pub graph_header : List ℕ
graph_header = codes ">>graph6<<"

-- how many bytes stand before the first line: the header, and a byte 10 directly after it
abbrev pub header_length : List ℕ → ℕ
header_length bytes =
    if starts_with nat_eq bytes (graph_header ++ 10 ∷ []) then 11 else if starts_with nat_eq bytes graph_header then 10 else 0

-- Rotation lists, as contracts see them.
use Rattle.std.specs.Prelude.{ℕ, List}

-- the rotation lists of a map
abbrev pub Lists : Type 0
Lists = List (List ℕ)

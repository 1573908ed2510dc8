-- The edges of the wood of a run, with the faces on both sides.
use Rattle.std.specs.Prelude.{ℕ}
use Rattle.wood_runs.specs.Parents.{Colour, one, two, three}

-- the number of a colour; the region of that number is the one opposite its root
abbrev pub number : Colour → ℕ
number one = 1
number two = 2
number three = 3

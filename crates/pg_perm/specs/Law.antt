-- A law of permutations, for all lists of images.
use Rattle.std.specs.Prelude.{ℕ, ◌<◌, ◌≢◌, List, length, swap}
use Rattle.classes.specs.Classes.{IsPermutationOfBelow, orbits, IsSwapOfOrbits}

-- The law of one swap.
abbrev pub OneSwap : Type 0
OneSwap =
    (images : List ℕ) (a b : ℕ) → IsPermutationOfBelow images → a < length images → b < length images → a ≢ b → IsSwapOfOrbits (orbits images) (orbits (swap images a b)) a b

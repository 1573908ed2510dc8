-- What every permutation keeps.
use Rattle.std.specs.Prelude.{ℕ, ◌<◌, ◌^◌, List, length}
use Rattle.classes.specs.Classes.{IsPermutationOfBelow}

-- the images of a bijection of fewer than 2^32 numbers
pub record IsPerm (images : List ℕ) : Type 0 where
  pub bijection : IsPermutationOfBelow images
  pub few : length images < 2 ^ 32

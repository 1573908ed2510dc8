-- Lists written to the caller's arrays, as far as there is room for all of them.
use Rattle.std.specs.Prelude.{ℕ, ◌<◌, ◌≤◌, ◌≡◌, ◌⊎◌, List, ◌++◌, length, take, drop}

-- The bytes of an array after the first bytes of a text were written over it, as many as there is room for.
abbrev pub written_over : List ℕ → List ℕ → List ℕ
written_over old text = take (length old) text ++ drop (length text) old

-- a text stands whole at the front of an array, and behind it what was there
pub record IsFront (old text new : List ℕ) : Type 0 where
  pub room : length text ≤ length old
  pub new_is : new ≡ text ++ drop (length text) old

-- the ends of lists and their entries stand at the fronts of two arrays
pub record AreWritten (bounds entries ends neighbours ends' neighbours' : List ℕ) : Type 0 where
  pub ends_are : IsFront ends bounds ends'
  pub neighbours_are : IsFront neighbours entries neighbours'

-- one of the arrays is too short for them
abbrev pub HasNoRoom : List ℕ → List ℕ → List ℕ → List ℕ → Type 0
HasNoRoom bounds entries ends neighbours = (length ends < length bounds) ⊎ (length neighbours < length entries)

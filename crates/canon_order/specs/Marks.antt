-- Marks of vertices, how many neighbours of each are marked, and how both change while vertices are taken off.
use Rattle.std.specs.Prelude.{ℕ, ◌<◌, ◌≡◌, ◌⊎◌, ◌↔◌, ◌&&◌, not, nat_lt, Bool, true, false, List, length, slice_index, slice_index_or, slice_set, count_by, Contains, All}
use Rattle.map_lists.specs.Lists.{Lists}
use Rattle.map_theory.specs.Maps.{list_of}

-- the mark of v, in a list of marks
abbrev pub is_set : List Bool → ℕ → Bool
is_set marks v = slice_index_or marks v false

-- v is marked in neither of two lists
abbrev pub is_untouched : List Bool → List Bool → ℕ → Bool
is_untouched marked gone v = not (is_set marked v) && not (is_set gone v)

-- the vertices that are left, where the others are marked as gone
abbrev pub kept_of : List Bool → ℕ → Bool
kept_of gone v = nat_lt v (length gone) && not (is_set gone v)

-- Each vertex has its mark, and how many of its neighbours are marked.
pub record IsTally (lists : Lists) (marks : List Bool) (counts : List ℕ) : Type 0 where
  pub marks_of_all : length marks ≡ length lists
  pub counts_of_all : length counts ≡ length lists
  pub counted : (v : ℕ) → v < length lists → slice_index counts v ≡ count_by (is_set marks) (list_of lists v)

-- Each vertex has a mark and a count, and none is marked yet.
pub record IsUnmarked (lists : Lists) (marks : List Bool) (counts : List ℕ) : Type 0 where
  pub marks_of_all : length marks ≡ length lists
  pub counts_of_all : length counts ≡ length lists
  pub none : (v : ℕ) → is_set marks v ≡ false
  pub zeros : (v : ℕ) → v < length lists → slice_index counts v ≡ 0

-- The counts are right, and whatever is marked with a count of two, and was not, is on the stack, with all that was.
pub record IsNoted (lists : Lists) (marked : List Bool) (near stack : List ℕ) (marked' : List Bool) (near' stack' : List ℕ) : Type 0 where
  pub tally : IsTally lists marked' near'
  pub vertices : All (λ v. v < length lists) stack'
  pub kept : (u : ℕ) → Contains stack u → Contains stack' u
  pub noted : (u : ℕ) → is_set marked' u ≡ true → slice_index near' u ≡ 2 → Contains stack' u ⊎ ((is_set marked u ≡ true) × (slice_index near' u ≡ slice_index near u))

-- v is taken off: it is gone and not marked, and its neighbours that are left are marked
pub record IsTaken (lists : Lists) (v : ℕ) (marked gone marked' gone' : List Bool) : Type 0 where
  pub gone_is : gone' ≡ slice_set gone v true
  pub marks : (u : ℕ) → (is_set marked' u ≡ true) ↔ ((is_set (slice_set marked v false) u ≡ true) ⊎ (Contains (list_of lists v) u × (is_set gone' u ≡ false)))

-- The lists of a map as one row of entries, as a pass over it sees them: entry d is the head of dart number d.
use Rattle.std.specs.Prelude.{ℕ, ◌+◌, ◌*◌, ◌<◌, ◌≤◌, ◌≡◌, ◌≢◌, List, length, slice_index, slice_index_or}

-- the entries from start on and before end hold no number twice, and not v
pub record IsSimpleList (entries : List ℕ) (start end v : ℕ) : Type 0 where
  pub distinct : (i j : ℕ) → start ≤ i → i < j → j < end → slice_index entries i ≢ slice_index entries j
  pub no_loop : (i : ℕ) → start ≤ i → i < end → slice_index entries i ≢ v

-- the darts from start on and before end leave v, and no twin of theirs is known; those before are as they were
pub record IsPlaced (tails twins tails' twins' : List ℕ) (start end v : ℕ) : Type 0 where
  pub tail_kept : (d : ℕ) → d < start → slice_index tails' d ≡ slice_index tails d
  pub twin_kept : (d : ℕ) → d < start → slice_index twins' d ≡ slice_index twins d
  pub tail_here : (d : ℕ) → start ≤ d → d < end → slice_index tails' d ≡ v
  pub twin_here : (d : ℕ) → start ≤ d → d < end → 16777216 ≤ slice_index twins' d

-- of the first n darts each has, where its twin is known, one of them for a twin: the head of each is the tail of the other
abbrev pub AreMutual : List ℕ → List ℕ → List ℕ → ℕ → Type 0
AreMutual entries tails twins n =
    (d : ℕ) → d < n → slice_index twins d < 16777216
    → (slice_index twins d < n) × (slice_index entries (slice_index twins d) ≡ slice_index tails d) × (slice_index tails (slice_index twins d) ≡ slice_index entries d)

-- each of the first n slots is made for its place
pub record AreInLine {P : Type 0} (IsInLine : P → ℕ → Type 0) (slots : List P) (n : ℕ) : Type 0 where
  pub at : (d : ℕ) (none : P) → d < n → d < length slots → IsInLine (slice_index_or slots d none) d

-- Dart d is no loop, and stands in the cell of its ends, which are of n vertices; its twin leads back.
pub record IsTried (entries tails twins cells : List ℕ) (n d : ℕ) : Type 0 where
  pub cell : slice_index cells (n * slice_index tails d + slice_index entries d) ≡ d
  pub twin_in : slice_index twins d < length entries
  pub head : slice_index entries (slice_index twins d) ≡ slice_index tails d
  pub tail : slice_index tails (slice_index twins d) ≡ slice_index entries d
  pub no_loop : slice_index entries d ≢ slice_index tails d

-- Vertices that the faces of a vertex pass, once or twice, and marks that tell which.
use Rattle.std.specs.Prelude.{ℕ, ◌<◌, ◌≤◌, ◌≡◌, ◌≢◌, ◌⊎◌, List, length, slice_index, slice_set}
use Rattle.map_lists.specs.Lists.{Lists}
use Rattle.map_theory.specs.Maps.{HasDart, list_of}
use Rattle.map_theory.specs.Paths.{SameFace}

-- The face of (u, a) passes the greater vertex w, and goes on from there to another vertex than u.
pub record IsPassed (lists : Lists) (u a w : ℕ) : Type 0 where
  pub later : u < w
  pub next : ℕ
  pub dart : HasDart lists w next
  pub other : next ≢ u
  pub face : SameFace lists (u, a) (w, next)

-- the face of one of the first k darts of u passes the greater vertex w, and goes on from there to another vertex than u
abbrev pub IsSeen : Lists → ℕ → ℕ → ℕ → Type 0
IsSeen lists u k w = (i : ℕ) × (i < k) × IsPassed lists u (slice_index (list_of lists u) i) w

-- the faces of two of the first k darts of u pass w so
abbrev pub IsTwiceSeen : Lists → ℕ → ℕ → ℕ → Type 0
IsTwiceSeen lists u k w =
    (i : ℕ) × (j : ℕ) × (i < j) × (j < k) × IsPassed lists u (slice_index (list_of lists u) i) w × IsPassed lists u (slice_index (list_of lists u) j) w

-- The vertices below n whose mark is u are those in S, and `best` is the least of T, or n where T has none.
pub record AreMarks (n u : ℕ) (S T : ℕ → Type 0) (marks : List ℕ) (best : ℕ) : Type 0 where
  pub told : (w : ℕ) → w < n → slice_index marks w ≡ u → S w
  pub tell : (w : ℕ) → S w → slice_index marks w ≡ u
  pub found : best < n → T best
  pub least : (w : ℕ) → T w → best ≤ w

-- after the faces of the first k darts of u
abbrev pub AreMarksOf : Lists → ℕ → ℕ → List ℕ → ℕ → Type 0
AreMarksOf lists u k marks best = AreMarks (length lists) u (IsSeen lists u k) (IsTwiceSeen lists u k) marks best

-- no vertex has the mark x
abbrev pub IsUnused : List ℕ → ℕ → Type 0
IsUnused marks x = (w : ℕ) → w < length marks → slice_index marks w ≢ x

-- the vertex w is marked by u; where it was before, it counts among those that are met twice
pub record IsMarked (u w : ℕ) (marks : List ℕ) (best : ℕ) (new : List ℕ) (result : ℕ) : Type 0 where
  pub set : new ≡ slice_set marks w u
  pub again : slice_index marks w ≡ u → (result ≤ w) × (result ≤ best) × ((result ≡ w) ⊎ (result ≡ best))
  pub first : slice_index marks w ≢ u → result ≡ best

-- What is kept of the vertices while they are taken off.
use Rattle.std.specs.Prelude.{ℕ, ◌<◌, ◌≡◌, ◌≢◌, ◌↔◌, Bool, true, List, length, slice_index, Contains, All}
use Rattle.map_lists.specs.Lists.{Lists}
use Rattle.canon_order.specs.Lefts.{IsLeft}
use Rattle.canon_order.specs.Marks.{is_set, kept_of, IsTally}

-- v is marked and off the base, and just two of its neighbours are marked
pub record LooksRemovable (t s : ℕ) (marks : List Bool) (counts : List ℕ) (v : ℕ) : Type 0 where
  pub marked : is_set marks v ≡ true
  pub not_last : v ≢ t
  pub not_first : v ≢ s
  pub two : slice_index counts v ≡ 2

-- the counts are right, vertices alone are on the stack, and with them all that look removable
pub record IsPrepared (lists : Lists) (t s : ℕ) (marked : List Bool) (near stack : List ℕ) : Type 0 where
  pub tally : IsTally lists marked near
  pub vertices : All (λ v. v < length lists) stack
  pub stacked : (v : ℕ) → LooksRemovable t s marked near v → Contains stack v

-- Rest was taken off, and the outer cycle of what is left is marked.
pub record IsContour (lists : Lists) (t s : ℕ) (gone marked : List Bool) (rest : List ℕ) : Type 0 where
  pub ws : List ℕ
  pub left : IsLeft lists s t (kept_of gone) ws rest
  pub marks : (v : ℕ) → (is_set marked v ≡ true) ↔ Contains ws v

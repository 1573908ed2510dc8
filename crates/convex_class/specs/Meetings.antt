-- Where faces meet the face of a round first, and what each later place tells.
use Rattle.std.specs.Prelude.{ℕ, ◌≤◌, ◌≡◌, ◌≢◌, ◌⊎◌, List, slice_index_or}
use Rattle.convex_class.specs.declared.face_pairs.face_meetings.Meeting.{Meeting}

-- where face z met that of the round first
abbrev pub meeting_at : List Meeting → ℕ → Meeting
meeting_at met z = slice_index_or met z (record { face = 0; tail = 0; head = 0 })

-- the face w meets that of `place` there, and (x, y) is its edge
abbrev pub IsHere : Meeting → ℕ → ℕ → ℕ → ℕ → Type 0
IsHere place z w x y = (w ≡ z) × (x ≡ place.tail) × (y ≡ place.head)

-- Of the vertices of two edges of a walk, (x, y) and (v, w), none that is on one alone is less than `best`. An edge may be a vertex, which is then both of its ends.
abbrev pub ArePartedBy : ℕ → ℕ → ℕ → ℕ → ℕ → Type 0
ArePartedBy best x y v w = (y ≢ v → (best ≤ y) × (best ≤ v)) × (x ≢ w → (best ≤ x) × (best ≤ w))

-- The face z meets the face f at the edge (x, y) for each in Z: it is where z met f first, or the two are parted by `result`.
pub record IsMet (f : ℕ) (Z : ℕ → ℕ → ℕ → Type 0) (old : List Meeting) (best : ℕ) (new : List Meeting) (result : ℕ) : Type 0 where
  pub lower : result ≤ best
  pub met : (z x y : ℕ) → Z z x y → (meeting_at new z).face ≡ f
  pub first : (z x y : ℕ) → Z z x y → (((meeting_at new z).tail ≡ x) × ((meeting_at new z).head ≡ y)) ⊎ ArePartedBy result (meeting_at new z).tail (meeting_at new z).head x y
  pub kept : (z : ℕ) → (meeting_at old z).face ≡ f → meeting_at new z ≡ meeting_at old z

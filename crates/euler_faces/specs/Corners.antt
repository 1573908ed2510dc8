-- Corners at which a face is a triangle.
use Rattle.std.specs.Prelude.{ℕ, ◌+◌, ◌<◌, ◌≤◌, ◌≡◌, ◌==◌, if◌then◌else◌, List, ◌∷◌, length, slice_index, slice_index_or}
use Rattle.map_lists.specs.Lists.{Lists}
use Rattle.map_theory.specs.Maps.{HasDart, darts, follows}

-- The dart (v, u) goes on to a vertex that is adjacent to v, and stands before u in v's list.
pub record IsCornerOfThree (lists : Lists) (v u : ℕ) : Type 0 where
  pub joined : HasDart lists v (follows lists u v)
  pub back : follows lists v (follows lists u v) ≡ u

-- `IsCornerOfThree` at each dart with a number below n
abbrev pub AreCornersBelow : Lists → ℕ → Type 0
AreCornersBelow lists n =
    (d : ℕ) → d < n → IsCornerOfThree lists (slice_index_or (darts lists) d (0, 0)).0 (slice_index_or (darts lists) d (0, 0)).1

-- for each dart of each list the dart after it, cyclically
abbrev pub AreNext : List ℕ → List ℕ → Type 0
AreNext ends next =
    (v d : ℕ) → v < length ends → slice_index_or (0 ∷ ends) v 0 ≤ d → d < slice_index ends v
    → slice_index next d ≡ (if d + 1 == slice_index ends v then slice_index_or (0 ∷ ends) v 0 else d + 1)

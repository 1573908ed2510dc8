-- What the two passes go over that mark the rectangles which meet others.
use Rattle.std.specs.Prelude.{ℕ, ◌<◌, Bool, true, false, List, length, slice_index, ℤ, pos, ◌-ℤ◌, ◌≤ℤ◌}
use Rattle.map_lists.specs.Lists.{Lists}
use Rattle.pg_plane.specs.declared.figures.RectFigure.{RectFigure}
use Rattle.drawings.specs.Duals.{left_of, right_of, DoMeet}
use Rattle.rect_check.specs.Loops.{IsMarked, HasRow}

-- where the rectangle of v begins along the level axis, and where it ends; or, on the way back, how far its end and its beginning are before n
abbrev pub near_at : Bool → ℕ → RectFigure → ℕ → ℤ
near_at false n fig v = left_of fig v
near_at true n fig v = pos n -ℤ right_of fig v

abbrev pub far_at : Bool → ℕ → RectFigure → ℕ → ℤ
far_at false n fig v = right_of fig v
far_at true n fig v = pos n -ℤ left_of fig v

-- each row of a table has a number behind which none of the first i vertices of an order ends that has the row
abbrev pub DoReach : Bool → ℕ → RectFigure → List ℕ → ℕ → List ℕ → Type 0
DoReach back n fig order i table =
    (j y : ℕ) → j < i → HasRow fig.y1 fig.y2 (slice_index order j) y → far_at back n fig (slice_index order j) ≤ℤ pos (slice_index table y)

-- of the first i vertices of an order each one has a mark that meets one before it
abbrev pub LaterAreMarked : RectFigure → List ℕ → ℕ → List Bool → Type 0
LaterAreMarked fig order i marks =
    (j k : ℕ) → j < k → k < i → DoMeet fig (slice_index order j) (slice_index order k) → IsMarked marks (slice_index order k)

-- the lesser of each two that meet has a mark
abbrev pub MeetsAreMarked : Lists → RectFigure → List Bool → Type 0
MeetsAreMarked lists fig marks = (u v : ℕ) → u < v → v < length lists → DoMeet fig u v → IsMarked marks u

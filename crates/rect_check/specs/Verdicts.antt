-- The verdict on a rectangular dual: the first kind of fault that it has, with the least ids where it has one.
use Rattle.std.specs.Prelude.{ℕ, ◌<◌, ◌≡◌, ◌↔◌, length, ◌*ℤ◌}
use Rattle.map_lists.specs.Lists.{Lists}
use Rattle.map_theory.specs.Maps.{HasDart}
use Rattle.pg_plane.specs.declared.figures.RectFigure.{RectFigure}
use Rattle.vertex_rounds.specs.Least.{IsLeast, IsLeastPair}
use Rattle.drawings.specs.Duals.{IsRect, DoMeet, ShareSide, area_of, width_of, height_of, top_vertex, right_vertex, bottom_vertex, HasFrame, IsRectangularDual}
use Rattle.rect_check.specs.Faults.{HasBadRect, RectsMeet, HasWrongContact, IsFirstUnframed}
use Rattle.rect_check.specs.declared.verdict.RectVerdict.{RectVerdict}
use Rattle.rect_check.specs.declared.verdict.RectVerdict.TheVariants.{BadRect, Meet, Gap, Contact, NoFrame, Frame, Yes}

-- no rectangle is wrong
abbrev pub AreRects : Lists → RectFigure → Type 0
AreRects lists fig = (v : ℕ) → v < length lists → IsRect (length lists) fig v

-- no two meet
abbrev pub NoneMeet : Lists → RectFigure → Type 0
NoneMeet lists fig = (u v : ℕ) → u < v → v < length lists → ¬ DoMeet fig u v

-- they fill the rectangle from (0, 0) to their greatest sides
abbrev pub DoFill : Lists → RectFigure → Type 0
DoFill lists fig = area_of fig (length lists) ≡ (width_of fig *ℤ height_of fig)

-- two share a side exactly where their vertices are adjacent
abbrev pub HasContacts : Lists → RectFigure → Type 0
HasContacts lists fig = (u v : ℕ) → u < v → v < length lists → ShareSide fig u v ↔ HasDart lists u v

-- v is the first vertex of the frame that is not at its end
abbrev pub IsUnframed : Lists → RectFigure → ℕ → Type 0
IsUnframed lists fig v = IsFirstUnframed fig 0 (top_vertex lists) (right_vertex lists) (bottom_vertex lists) v

-- The verdict is the first fault of the rectangles in the order below, where none before it is found. Its vertices are the least ones, or for `Frame` the first on the outer face.
abbrev pub IsRectVerdict : Lists → RectFigure → RectVerdict → Type 0
IsRectVerdict lists fig (BadRect v) = IsLeast (HasBadRect lists fig) v.0
IsRectVerdict lists fig (Meet u v) = AreRects lists fig × IsLeastPair (RectsMeet lists fig) u.0 v.0
IsRectVerdict lists fig Gap = AreRects lists fig × NoneMeet lists fig × ¬ DoFill lists fig
IsRectVerdict lists fig (Contact u v) =
    AreRects lists fig × NoneMeet lists fig × DoFill lists fig × IsLeastPair (HasWrongContact lists fig) u.0 v.0
IsRectVerdict lists fig NoFrame =
    AreRects lists fig × NoneMeet lists fig × DoFill lists fig × HasContacts lists fig × ¬ HasFrame lists
IsRectVerdict lists fig (Frame v) =
    AreRects lists fig × NoneMeet lists fig × DoFill lists fig × HasContacts lists fig × HasFrame lists × IsUnframed lists fig v.0
IsRectVerdict lists fig Yes = IsRectangularDual lists fig

-- Rectangular duals: a rectangle for each vertex of a map, which together fill a rectangle, and of which two share a side just where their vertices are adjacent.
use Rattle.std.specs.Prelude.{ℕ, zero, suc, ◌<◌, ◌≡◌, ◌≢◌, ◌⊎◌, ◌↔◌, List, [], ◌∷◌, length, slice_index_or, fold, AllPairs, ℤ, pos, ◌+ℤ◌, ◌-ℤ◌, ◌*ℤ◌, ◌≤ℤ◌, ◌<ℤ◌}
use Rattle.std.specs.Int.{int_max}
use Rattle.map_lists.specs.Lists.{Lists}
use Rattle.map_theory.specs.Maps.{HasDart, list_of, follows}
use Rattle.pg_plane.specs.declared.figures.RectFigure.{RectFigure}

-- number v of a list, or 0 behind its end
abbrev pub number_at : List ℤ → ℕ → ℤ
number_at xs v = slice_index_or xs v (pos 0)

-- the sides of the rectangle of v
abbrev pub left_of : RectFigure → ℕ → ℤ
left_of fig v = number_at fig.x1 v

abbrev pub right_of : RectFigure → ℕ → ℤ
right_of fig v = number_at fig.x2 v

abbrev pub low_of : RectFigure → ℕ → ℤ
low_of fig v = number_at fig.y1 v

abbrev pub high_of : RectFigure → ℕ → ℤ
high_of fig v = number_at fig.y2 v

-- there is a rectangle for each vertex
pub record HasRects (lists : Lists) (fig : RectFigure) : Type 0 where
  pub x1 : length fig.x1 ≡ length lists
  pub x2 : length fig.x2 ≡ length lists
  pub y1 : length fig.y1 ≡ length lists
  pub y2 : length fig.y2 ≡ length lists

-- what goes from p to q is not empty, and lies from 0 to n - 2
pub record IsSpan (n : ℕ) (p q : ℤ) : Type 0 where
  pub first : pos 0 ≤ℤ p
  pub order : p <ℤ q
  pub last : q ≤ℤ (pos n -ℤ pos 2)

-- the rectangle of v is not empty, and lies within n - 2 by n - 2
pub record IsRect (n : ℕ) (fig : RectFigure) (v : ℕ) : Type 0 where
  pub wide : IsSpan n (left_of fig v) (right_of fig v)
  pub tall : IsSpan n (low_of fig v) (high_of fig v)

-- the interiors of the rectangles of u and v meet
pub record DoMeet (fig : RectFigure) (u v : ℕ) : Type 0 where
  pub left : left_of fig u <ℤ right_of fig v
  pub right : left_of fig v <ℤ right_of fig u
  pub low : low_of fig u <ℤ high_of fig v
  pub high : low_of fig v <ℤ high_of fig u

-- v is to the right of u, and they share a piece of an upright line
pub record IsBeside (fig : RectFigure) (u v : ℕ) : Type 0 where
  pub line : right_of fig u ≡ left_of fig v
  pub low : low_of fig u <ℤ high_of fig v
  pub high : low_of fig v <ℤ high_of fig u

-- v is above u, and they share a piece of a level line
pub record IsAbove (fig : RectFigure) (u v : ℕ) : Type 0 where
  pub line : high_of fig u ≡ low_of fig v
  pub left : left_of fig u <ℤ right_of fig v
  pub right : left_of fig v <ℤ right_of fig u

-- two rectangles share a side of positive length
abbrev pub ShareSide : RectFigure → ℕ → ℕ → Type 0
ShareSide fig u v = (IsBeside fig u v ⊎ IsBeside fig v u) ⊎ (IsAbove fig u v ⊎ IsAbove fig v u)

-- the area of the rectangle of v
abbrev pub area_at : RectFigure → ℕ → ℤ
area_at fig v = (right_of fig v -ℤ left_of fig v) *ℤ (high_of fig v -ℤ low_of fig v)

-- the area of the first k rectangles
abbrev pub area_of : RectFigure → ℕ → ℤ
area_of fig zero = pos 0
area_of fig (suc k) = area_of fig k +ℤ area_at fig k

-- the greatest of 0 and some numbers
abbrev pub greatest : List ℤ → ℤ
greatest zs = fold int_max (pos 0) zs

-- how far the rectangles reach to the right, and how far up
abbrev pub width_of : RectFigure → ℤ
width_of fig = greatest fig.x2

abbrev pub height_of : RectFigure → ℤ
height_of fig = greatest fig.y2

-- The face of the dart (s, d) is walked by four darts over the four vertices s, d, p, q.
pub record IsQuadrangle (lists : Lists) (s d p q : ℕ) : Type 0 where
  pub dart : HasDart lists s d
  pub second : follows lists d s ≡ p
  pub third : follows lists p d ≡ q
  pub fourth : follows lists q p ≡ s
  pub again : follows lists s q ≡ d
  pub distinct : AllPairs ◌≢◌ (s ∷ d ∷ p ∷ q ∷ [])

-- The four of the outer face, where it is such a quadrangle: it begins with vertex 0 and the first entry of its list, and goes on by the face step.
abbrev pub top_vertex : Lists → ℕ
top_vertex lists = slice_index_or (list_of lists 0) 0 0

-- the vertex after the top one on the outer face
abbrev pub right_vertex : Lists → ℕ
right_vertex lists = follows lists (top_vertex lists) 0

-- the vertex after the right one on the outer face
abbrev pub bottom_vertex : Lists → ℕ
bottom_vertex lists = follows lists (right_vertex lists) (top_vertex lists)

-- Vertex 0 has a neighbour, and the face of the dart to the first one is walked by four darts over four vertices.
abbrev pub HasFrame : Lists → Type 0
HasFrame lists = IsQuadrangle lists 0 (top_vertex lists) (right_vertex lists) (bottom_vertex lists)

-- the rectangle of v reaches over the whole width
pub record IsWide (fig : RectFigure) (v : ℕ) : Type 0 where
  pub first : left_of fig v ≡ pos 0
  pub last : right_of fig v ≡ width_of fig

-- it does so at the top, or at the bottom
abbrev pub IsTop : RectFigure → ℕ → Type 0
IsTop fig v = IsWide fig v × (high_of fig v ≡ height_of fig)

abbrev pub IsBottom : RectFigure → ℕ → Type 0
IsBottom fig v = IsWide fig v × (low_of fig v ≡ pos 0)

-- it is at the left end, or at the right one
abbrev pub IsLeftmost : RectFigure → ℕ → Type 0
IsLeftmost fig v = left_of fig v ≡ pos 0

abbrev pub IsRightmost : RectFigure → ℕ → Type 0
IsRightmost fig v = right_of fig v ≡ width_of fig

-- s, d, p, q are at the left, at the top, at the right and at the bottom.
pub record IsFramed (fig : RectFigure) (s d p q : ℕ) : Type 0 where
  pub left : IsLeftmost fig s
  pub top : IsTop fig d
  pub right : IsRightmost fig p
  pub bottom : IsBottom fig q

-- A rectangular dual of a map.
pub record IsRectangularDual (lists : Lists) (fig : RectFigure) : Type 0 where
  -- each vertex has a rectangle within n - 2 by n - 2
  pub rects : (v : ℕ) → v < length lists → IsRect (length lists) fig v
  -- no two have a point inside of both
  pub apart : (u v : ℕ) → u < v → v < length lists → ¬ DoMeet fig u v
  -- they fill the rectangle from (0, 0) to their greatest sides
  pub areas : area_of fig (length lists) ≡ (width_of fig *ℤ height_of fig)
  -- two share a side exactly where their vertices are adjacent
  pub contacts : (u v : ℕ) → u < v → v < length lists → ShareSide fig u v ↔ HasDart lists u v
  -- the outer face is a quadrangle
  pub frame : HasFrame lists
  -- whose vertices are at the four ends
  pub framed : IsFramed fig 0 (top_vertex lists) (right_vertex lists) (bottom_vertex lists)

-- Figures of records by drawings of their completions, whatever the method: its grid, where the three vertices of the outer face stand, and its points.
use Rattle.std.specs.Prelude.{ℕ, ◌<◌, ◌≤◌, ◌≡◌, List, length, slice_index, pos}
use Rattle.map_lists.specs.Lists.{Lists}
use Rattle.map_theory.specs.Maps.{Dart, HasDart, IsSimpleMap, IsPlane, list_of, follows, vertex_count}
use Rattle.half_edges.specs.Map.{first_dart}
use Rattle.pg_plane.specs.declared.grid_points.Point.{Point}
use Rattle.pg_plane.specs.declared.figures.GridFigure.{GridFigure}
use Rattle.plane_drawings.specs.Drawing.{place}
use Rattle.drawings.specs.Valid.{IsValid}
use Rattle.drawings.specs.OuterFaces.{HasOuterFace}
use Rattle.canon_order.specs.Orders.{IsCanonicalOrder}
use Rattle.grid_figures.specs.DrawingOrdersLaws.{IsCompletionFor, IsBaseDrawing}

-- the point (x, y)
abbrev pub point_at : ℕ → ℕ → Point
point_at x y = record { x = pos x; y = pos y }

-- What a method promises of n vertices: how large its grid is, and where the first vertex of the base stands, the vertex to which the base leads, and the third vertex of the outer face. And which points are those of the method, for a triangulation, a base, a canonical order and the contours of that.
pub record Form : Type 1 where
  pub width : ℕ → ℕ
  pub height : ℕ → ℕ
  pub tail : ℕ → Point
  pub head : ℕ → Point
  pub third : ℕ → Point
  pub AreMethodPoints : Lists → Dart → List ℕ → (ℕ → List ℕ) → List Point → Type 0

-- Vertex 0 is the first of the base, and a vertex stands where the base leads; it is the first of vertex 0's list, where that has any.
pub record IsPlaced (form : Form) (lists : Lists) (points : List Point) : Type 0 where
  pub tail : place points 0 ≡ form.tail (length lists)
  pub head : (v : ℕ) × (v < length lists) × (place points v ≡ form.head (length lists))
  pub first : 0 < length (list_of lists 0) → place points (slice_index (list_of lists 0) 0) ≡ form.head (length lists)
  pub third : (v : ℕ) × (v < length lists) × (place points v ≡ form.third (length lists))

-- For some completion of the map with its base, and some canonical order of that, the points are those of the method.
pub record IsByMethod (form : Form) (lists : Lists) (points : List Point) : Type 0 where
  pub more : Lists
  pub to : ℕ
  pub completion : IsCompletionFor lists more to
  pub at : List ℕ
  pub order : IsCanonicalOrder more (0, to) at
  pub by_order : form.AreMethodPoints more (0, to) at order.cycle points

-- The figure draws the map of these lists by the method in its grid: plane, with the rotations kept, and where the map is connected with the face of vertex 0's first dart outside.
pub record IsFigure (form : Form) (lists : Lists) (figure : GridFigure) : Type 0 where
  pub count : length figure.points ≡ length lists
  pub width : figure.width ≡ pos (form.width (length lists))
  pub height : figure.height ≡ pos (form.height (length lists))
  pub valid : IsValid lists figure.points figure.width figure.height
  pub outer : HasOuterFace lists figure.points (first_dart lists 0)
  pub placed : IsPlaced form lists figure.points
  pub method : IsByMethod form lists figure.points

-- the figure draws a triangulation for the base from vertex 0 to `to`, by a canonical order with these contours
pub record IsDrawnFor (form : Form) (lists : Lists) (to : ℕ) (at : List ℕ) (cycle : ℕ → List ℕ) (figure : GridFigure) : Type 0 where
  pub count : length figure.points ≡ length lists
  pub width : figure.width ≡ pos (form.width (length lists))
  pub height : figure.height ≡ pos (form.height (length lists))
  pub drawing : IsBaseDrawing lists to figure.points figure.width figure.height
  pub tail : place figure.points 0 ≡ form.tail (length lists)
  pub head : place figure.points to ≡ form.head (length lists)
  pub third : place figure.points (follows lists to 0) ≡ form.third (length lists)
  pub by_order : form.AreMethodPoints lists (0, to) at cycle figure.points

-- `IsDrawnFor` for each such base for which the vertices are in a canonical order
abbrev pub IsDrawnBy : Form → Lists → List ℕ → GridFigure → Type 0
IsDrawnBy form lists at figure =
    (to : ℕ) → HasDart lists 0 to → (order : IsCanonicalOrder lists (0, to) at) → IsDrawnFor form lists to at order.cycle figure

-- Each simple map of genus zero with at least three vertices has a figure.
abbrev pub SomeFigure : Form → Type 0
SomeFigure form =
    (lists : Lists) → IsSimpleMap lists → IsPlane lists → 3 ≤ vertex_count lists → (figure : GridFigure) × IsFigure form lists figure

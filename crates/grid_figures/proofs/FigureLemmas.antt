-- From a drawing of a completion to the figure of the map, for every method, and what each of the two methods draws.
use Rattle.std.proofs.Common.{◌≡◌, ℕ, ℤ, ◌*◌, ◌-◌, ◌<◌, List, length, pos, refl, ap, sym, subst, ◌∙◌}
use Rattle.map_lists.specs.Lists.{Lists}
use Rattle.map_theory.specs.Maps.{Dart, HasDart, follows}
use Rattle.map_theory.proofs.DartLemmas.{HasDart-follows}
use Rattle.pg_plane.specs.declared.grid_points.Point.{Point}
use Rattle.pg_plane.specs.declared.figures.GridFigure.{GridFigure}
use Rattle.plane_laws.specs.Triangulations.{IsTriangulation}
use Rattle.plane_drawings.specs.Drawing.{place, IsInGrid, IsPlaneDrawing, KeepsRotations, IsCounterclockwise}
use Rattle.canon_order.specs.Orders.{IsCanonicalOrder, vertices_of}
use Rattle.canon_order.specs.declared.vertex_order.Order.{Order}
use Rattle.canon_order.specs.Laws.{SomeOrder}
use Rattle.order_drawings.specs.SchnyderDrawings.{AreWoodPoints, IsSchnyderDrawing, SomeWoodPoints, WoodPointsDraw}
use Rattle.fpp_shift.specs.ShiftDrawings.{AreShiftPoints, IsShiftDrawing, SomeShiftPoints, ShiftPointsDraw}
use Rattle.grid_figures.specs.DrawingOrdersLaws.{IsBaseDrawing, IsCompletionFor, CompletionDraws, SomeCompletion}
use Rattle.grid_figures.specs.Forms.{Form, IsPlaced, IsFigure, IsDrawnFor, IsDrawnBy, SomeFigure}
use Rattle.grid_figures.specs.Orders.{IsOrdered}
use Rattle.grid_figures.specs.ShiftFiguresFigures.{shift_form}
use Rattle.grid_figures.specs.SchnyderFiguresFigures.{schnyder_form}

module _ (form : Form) (draws : CompletionDraws) (lists more : Lists) (to : ℕ) (h : IsCompletionFor lists more to) (at : List ℕ) (order : IsCanonicalOrder more (0, to) at) (figure : GridFigure) (d : IsDrawnFor form more to at order.cycle figure) where
  same : length more ≡ length lists
  same = h.extended.vertices

  placed : IsPlaced form lists figure.points
  placed =
      let back = h.triangulation.simple.both_ways 0 to h.base.dart in
      let third = HasDart-follows more to 0 back in
      let head = d.head ∙ ap form.head same in
      record {
        tail = d.tail ∙ ap form.tail same;
        head = (to, subst (λ n. to < n) same back.0, head);
        first = λ l. subst (λ (k : ℕ). place figure.points k ≡ form.head (length lists)) (h.base.first l) head;
        third = (follows more to 0, subst (λ n. follows more to 0 < n) same (h.triangulation.simple.in_range to (follows more to 0) third), d.third ∙ ap form.third same);
      }

  pub figure_of_drawing : IsFigure form lists figure
  figure_of_drawing =
      let good = draws lists more to figure.points figure.width figure.height h d.drawing in
      record {
        count = d.count ∙ same;
        width = d.width ∙ ap (λ n. pos (form.width n)) same;
        height = d.height ∙ ap (λ n. pos (form.height n)) same;
        valid = good.0;
        outer = good.1;
        placed = placed;
        method = record { more = more; to = to; completion = h; at = at; order = order; by_order = d.by_order };
      }

-- so an order of a completion, and a drawing by that, give the figure of the map
pub figure_ordered : (form : Form) → CompletionDraws → (lists more : Lists) (order : Order) (figure : GridFigure) → IsOrdered lists more order → IsDrawnBy form more (vertices_of order) figure → IsFigure form lists figure
figure_ordered form draws lists more order figure h drawn =
    figure_of_drawing form draws lists more h.to (record { simple = h.simple; triangulation = h.triangulation; extended = h.extended; base = h.base }) (vertices_of order) h.canonical figure (drawn h.to h.base.dart h.canonical)

-- so it is for lists that are those of the completion
pub order_of_made : (lists more made : Lists) (order : Order) → made ≡ more → IsOrdered lists more order → (base : Dart) × IsCanonicalOrder made base (vertices_of order)
order_of_made lists more made order is h = ((0, h.to), subst (λ (ls : Lists). IsCanonicalOrder ls (0, h.to) (vertices_of order)) (sym is) h.canonical)

pub figure_of_made : (form : Form) → CompletionDraws → (lists more made : Lists) (order : Order) (figure : GridFigure) → made ≡ more → IsOrdered lists more order → IsDrawnBy form made (vertices_of order) figure → IsFigure form lists figure
figure_of_made form draws lists more made order figure is h drawn = figure_ordered form draws lists more order figure h (subst (λ (ls : Lists). IsDrawnBy form ls (vertices_of order) figure) is drawn)

-- so each map that can be completed has a figure, where triangulations are drawn
pub some_figure : (form : Form) → CompletionDraws → SomeCompletion → SomeOrder → ((more : Lists) (to : ℕ) (at : List ℕ) → IsTriangulation more → HasDart more 0 to → (order : IsCanonicalOrder more (0, to) at) → (figure : GridFigure) × IsDrawnFor form more to at order.cycle figure) → SomeFigure form
some_figure form draws completion orders drawn lists simple plane some =
    let found = completion lists simple plane some in
    let more = found.0 in
    let to = found.1.0 in
    let h = found.1.1 in
    let order = orders more (0, to) h.triangulation h.base.dart in
    let figure = drawn more to order.0 h.triangulation h.base.dart order.1 in
    (figure.0, figure_of_drawing form draws lists more to h order.0 order.1 figure.0 figure.1)

-- a drawing for a base, in a grid with sides that have these lengths
base_drawing :
    (lists : Lists) (to : ℕ) (points : List Point) (width height w h : ℤ) → width ≡ w → height ≡ h → IsCounterclockwise lists points (0, to) → IsPlaneDrawing lists points → KeepsRotations lists points → ((v : ℕ) → v < length lists → IsInGrid w h (place points v))
    → IsBaseDrawing lists to points width height
base_drawing lists to points width height w h is is' counterclockwise plane rotations grid = record { counterclockwise = counterclockwise; plane = plane; rotations = rotations; grid = rw (is, is') grid }

-- what the shift method draws
pub drawn_by_shift :
    (lists : Lists) (to : ℕ) (at : List ℕ) (cycle : ℕ → List ℕ) (figure : GridFigure) → AreShiftPoints lists (0, to) at cycle figure.points → IsShiftDrawing lists (0, to) figure.points → figure.width ≡ pos (2 * length lists - 4) → figure.height ≡ pos (length lists - 2)
    → IsDrawnFor shift_form lists to at cycle figure
drawn_by_shift lists to at cycle figure points d width height = record {
  count = points.count;
  width = width;
  height = height;
  drawing = base_drawing lists to figure.points figure.width figure.height _ _ width height d.counterclockwise d.plane d.rotations d.grid;
  tail = d.second;
  head = d.first;
  third = d.top;
  by_order = points;
}

-- what is drawn by Schnyder's coordinates
pub drawn_by_wood :
    (lists : Lists) (to : ℕ) (at : List ℕ) (cycle : ℕ → List ℕ) (figure : GridFigure) → AreWoodPoints lists (0, to) at cycle figure.points → IsSchnyderDrawing lists (0, to) figure.points → figure.width ≡ pos (length lists - 2) → figure.height ≡ pos (length lists - 2)
    → IsDrawnFor schnyder_form lists to at cycle figure
drawn_by_wood lists to at cycle figure points d width height = record {
  count = points.count;
  width = width;
  height = height;
  drawing = base_drawing lists to figure.points figure.width figure.height _ _ width height d.counterclockwise d.plane d.rotations d.grid;
  tail = d.root_two;
  head = d.root_one;
  third = d.root_three;
  by_order = points;
}

-- so a triangulation has a figure of each method
pub some_drawn_by_shift :
    SomeShiftPoints → ShiftPointsDraw → (more : Lists) (to : ℕ) (at : List ℕ) → IsTriangulation more → HasDart more 0 to → (order : IsCanonicalOrder more (0, to) at)
    → (figure : GridFigure) × IsDrawnFor shift_form more to at order.cycle figure
some_drawn_by_shift some_points draw more to at triangulation dart order =
    let points = some_points more (0, to) at triangulation order in
    let figure : GridFigure = record { points = points.0; width = pos (2 * length more - 4); height = pos (length more - 2) } in
    (figure, drawn_by_shift more to at order.cycle figure points.1 (draw more (0, to) at points.0 triangulation dart order points.1) refl refl)

pub some_drawn_by_wood :
    SomeWoodPoints → WoodPointsDraw → (more : Lists) (to : ℕ) (at : List ℕ) → IsTriangulation more → HasDart more 0 to → (order : IsCanonicalOrder more (0, to) at)
    → (figure : GridFigure) × IsDrawnFor schnyder_form more to at order.cycle figure
some_drawn_by_wood some_points draw more to at triangulation dart order =
    let points = some_points more (0, to) at triangulation order in
    let figure : GridFigure = record { points = points.0; width = pos (length more - 2); height = pos (length more - 2) } in
    (figure, drawn_by_wood more to at order.cycle figure points.1 (draw more (0, to) at points.0 triangulation dart order points.1) refl refl)

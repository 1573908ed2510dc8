use Rattle.std.proofs.Common.{sym, subst}
use Rattle.map_lists.specs.Lists.{Lists}
use Rattle.drawings.specs.Duals.{top_vertex, right_vertex, bottom_vertex}
use Rattle.rect_class.specs.RectMaps.{IsRectMap as IsOfClass}
use Rattle.rect_dual.specs.Figures.{IsRectFigure}
use Rattle.rect_dual.proofs.Drawn.{class_of}
use Rattle.rect_dual.proofs.figures.record_figure.rect_figure.Goals as goal

pub first_dart-requires : goal.first_dart-requires
first_dart-requires c = record { class = subst IsOfClass (sym c.in_ok-map.ensures.lists) c.in_ok-map.ensures.served }

pub rect_draw_by_lists-requires-clause-class : goal.rect_draw_by_lists-requires-clause-class
rect_draw_by_lists-requires-clause-class c =
    let lists = c.in_ok-map.map.lists in
    let class = class_of lists (subst IsOfClass (sym c.in_ok-map.ensures.lists) c.in_ok-map.ensures.served) c.biconnected_are_rect_maps.ensures in
    (0, top_vertex lists, right_vertex lists, bottom_vertex lists, c.first_dart.ensures.first, class)

pub returns-clause-figure : goal.returns-clause-figure
returns-clause-figure c =
    let lists = c.in_ok-map.map.lists in
    let class = class_of lists (subst IsOfClass (sym c.in_ok-map.ensures.lists) c.in_ok-map.ensures.served) c.biconnected_are_rect_maps.ensures in
    let e = c.in_ok-figure.ensures in
    let dual = e.dual 0 (top_vertex lists) (right_vertex lists) (bottom_vertex lists) c.first_dart.ensures.first class in
    subst (λ (ls : Lists). IsRectFigure ls c.in_ok-figure.figure) c.in_ok-map.ensures.lists (record {
      rects = e.rects;
      dual = c.dual_for_first.ensures lists (right_vertex lists) (bottom_vertex lists) c.in_ok-figure.figure class dual;
      labelling = e.labelling 0 (top_vertex lists) (right_vertex lists) (bottom_vertex lists) c.first_dart.ensures.first class;
    })

use Rattle.std.proofs.Common.{refl, sym, subst}
use Rattle.map_theory.specs.Maps.{HasDart}
use Rattle.drawings.specs.Duals.{top_vertex, right_vertex, bottom_vertex}
use Rattle.rect_orders.specs.Maps.{IsRectMap}
use Rattle.rect_orders.specs.Figures.{IsDualFor}
use Rattle.rect_orders.specs.Labellings.{IsByLabelling}
use Rattle.rect_orders.proofs.Closed.{dart_ts}
use Rattle.rect_dual.proofs.Drawn.{by_names, class_of}
use Rattle.rect_dual.proofs.figures.drawer.drawn.Goals as goal

pub next_on_face-inner-requires-clause-dart : goal.next_on_face-inner-requires-clause-dart
next_on_face-inner-requires-clause-dart c =
    let lists = c.args.lists.now in
    let class = class_of lists c.requires.class c.biconnected_are_rect_maps.ensures in
    subst (HasDart lists 0) (sym c.requires.frame.bottom)
    (c.requires.class.biconnected.simple.both_ways (bottom_vertex lists) 0 (dart_ts lists 0 (top_vertex lists) (right_vertex lists) (bottom_vertex lists) class))

pub framed-requires-clause-class : goal.framed-requires-clause-class
framed-requires-clause-class c =
    let lists = c.args.lists.now in
    let four = c.args.four in
    let f = c.requires.frame in
    by_names (IsRectMap lists) 0 0 (top_vertex lists) four.top.0 (right_vertex lists) four.right.0 (bottom_vertex lists) four.bottom.0 refl (sym f.top) (sym f.right) (sym f.bottom)
    (class_of lists c.requires.class c.biconnected_are_rect_maps.ensures)

pub returns : goal.returns
returns c =
    let lists = c.args.lists.now in
    let four = c.args.four in
    let f = c.requires.frame in
    let fig = c.in_ok-figure.figure in
    let class = class_of lists c.requires.class c.biconnected_are_rect_maps.ensures in
    let dual = by_names (λ s d p t. IsDualFor lists s d p t fig) 0 0 four.top.0 (top_vertex lists) four.right.0 (right_vertex lists) four.bottom.0 (bottom_vertex lists) refl f.top f.right f.bottom c.in_ok-figure.ensures.dual in
    record {
      rects = c.in_ok-figure.ensures.rects;
      dual = c.dual_for_first.ensures lists (right_vertex lists) (bottom_vertex lists) fig class dual;
      labelling = by_names (λ s d p t. IsByLabelling lists s d p t fig) 0 0 four.top.0 (top_vertex lists) four.right.0 (right_vertex lists) four.bottom.0 (bottom_vertex lists) refl f.top f.right f.bottom c.in_ok-figure.ensures.labelling;
    }

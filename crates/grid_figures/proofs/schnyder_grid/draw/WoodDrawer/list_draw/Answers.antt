use Rattle.std.proofs.Common.{rules, length}
use Rattle.map_theory.specs.Maps.{Dart}
use Rattle.canon_order.specs.Orders.{IsCanonicalOrder, vertices_of}
use Rattle.order_drawings.specs.SchnyderDrawings.{AreWoodPoints}
use Rattle.grid_figures.proofs.DrawLemmas.{AreWoodPoints-order}
use Rattle.grid_figures.proofs.schnyder_grid.draw.WoodDrawer.list_draw.Goals as goal

pub points-requires-clause-ranks : goal.points-requires-clause-ranks
points-requires-clause-ranks c =
    let base = c.requires.order.0 in
    let order = c.requires.order.1 in
    c.ranks_are_places.ensures c.args.lists.now base (vertices_of c.args.order.now) c.args.order.now.rank order c.args.order.now.ranked

pub points-requires-clause-run : goal.points-requires-clause-run
points-requires-clause-run c =
    let base = c.requires.order.0 in
    let order = c.requires.order.1 in
    let run = c.order_is_run.ensures c.args.lists.now base (vertices_of c.args.order.now) c.requires.triangulation order in
    (run.0, c.in_ok-rows.ensures.of_run base order run.0 run.1)

pub returns : goal.returns
returns c =
    let lists = c.args.lists.now in
    let at = vertices_of c.args.order.now in
    let points : (base : Dart) (order : IsCanonicalOrder lists base at) → AreWoodPoints lists base at order.cycle c.in_ok-points.points = λ base order.
    let run = c.order_is_run.ensures lists base at c.requires.triangulation order in
    AreWoodPoints-order lists base at c.args.order.now.rank order c.args.order.now.ranked run.0 run.1 (length c.in_ok-rows.rows) c.in_ok-points.points c.in_ok-rows.ensures.count (c.in_ok-points.ensures run.0 (c.in_ok-rows.ensures.of_run base order run.0 run.1)) in
    record {
      points = points;
      drawing = λ base dart order. c.wood_points_draw.ensures lists base at c.in_ok-points.points c.requires.triangulation dart order (points base order);
      width = search rules;
      height = search rules;
    }

use Rattle.std.proofs.Common.{sym, subst}
use Rattle.map_lists.specs.Lists.{Lists}
use Rattle.map_theory.specs.Maps.{Dart}
use Rattle.plane_laws.specs.Triangulations.{IsTriangulation}
use Rattle.canon_order.specs.Orders.{IsCanonicalOrder, vertices_of}
use Rattle.order_drawings.specs.SchnyderDrawings.{IsSchnyderOf}
use Rattle.grid_figures.proofs.schnyder_grid.draw.wood_draw.Goals as goal

pub list_draw-requires-clause-triangulation : goal.list_draw-requires-clause-triangulation
list_draw-requires-clause-triangulation c = subst IsTriangulation (sym c.in_ok-lists.ensures) c.requires.triangulation

pub list_draw-requires-clause-order : goal.list_draw-requires-clause-order
list_draw-requires-clause-order c = subst (λ (ls : Lists). (base : Dart) × IsCanonicalOrder ls base (vertices_of c.args.order.now)) (sym c.in_ok-lists.ensures) c.requires.order

pub returns : goal.returns
returns c = subst (λ (ls : Lists). IsSchnyderOf ls (vertices_of c.args.order.now) c.in_ok-figure.figure) c.in_ok-lists.ensures c.in_ok-figure.ensures

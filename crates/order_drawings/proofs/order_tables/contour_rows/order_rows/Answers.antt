use Rattle.map_lists.specs.Lists.{Lists}
use Rattle.std.proofs.Common.{sym, subst}
use Rattle.map_theory.specs.Maps.{Dart}
use Rattle.plane_laws.specs.Triangulations.{IsTriangulation}
use Rattle.canon_order.specs.Orders.{IsCanonicalOrder, vertices_of}
use Rattle.order_drawings.specs.Rows.{AreRowsOf}
use Rattle.order_drawings.proofs.order_tables.contour_rows.order_rows.Goals as goal

pub rows_into-requires-clause-triangulation : goal.rows_into-requires-clause-triangulation
rows_into-requires-clause-triangulation c = subst IsTriangulation (sym c.in_ok-lists.ensures) c.requires.triangulation

pub rows_into-requires-clause-order : goal.rows_into-requires-clause-order
rows_into-requires-clause-order c = subst (λ (ls : Lists). (base : Dart) × IsCanonicalOrder ls base (vertices_of c.args.order.now)) (sym c.in_ok-lists.ensures) c.requires.order

pub returns : goal.returns
returns c = subst (λ (ls : Lists). AreRowsOf ls (vertices_of c.args.order.now) c.in_ok-rows.rows) c.in_ok-lists.ensures c.in_ok-rows.ensures

use Rattle.std.proofs.Common.{arith}
use Rattle.std.proofs.lemmas.List.{get_or-map, length-map}
use Rattle.canon_order.specs.Orders.{vertices_of}
use Rattle.order_drawings.proofs.OrderLemmas.{ranks_small, entries_within, list_some, AreAllRows-order}
use Rattle.order_drawings.proofs.OrderTablesOrderRows.{order_rows}
use Rattle.order_drawings.proofs.order_tables.contour_rows.rows_into.Goals as goal

pub listed_rows-requires-clause-at : goal.listed_rows-requires-clause-at
listed_rows-requires-clause-at c = λ k d l.
    let order = c.requires.order.1 in
    let v = order.vertices k 0 (omega (arith, length-map c.args.order.now.at (λ v. v.0))) in
    omega (arith, get_or-map (λ v. v.0) c.args.order.now.at k d 0 l)

pub listed_rows-requires-clause-some : goal.listed_rows-requires-clause-some
listed_rows-requires-clause-some c = λ k low l.
    let base = c.requires.order.0 in
    let order = c.requires.order.1 in
    let at = vertices_of c.args.order.now in
    let run = c.order_is_run.ensures c.args.lists.now base at c.requires.triangulation order in
    list_some c.args.lists.now base at c.args.order.now.rank c.requires.triangulation order c.args.order.now.ranked (order_rows c.row_ends.ensures) run.0 run.1 k low (omega (arith, length-map c.args.order.now.at (λ v. v.0)))

pub listed_rows-requires-clause-vertices : goal.listed_rows-requires-clause-vertices
listed_rows-requires-clause-vertices c =
    entries_within c.args.lists.now c.requires.order.0 (vertices_of c.args.order.now) c.args.order.now.rank c.requires.triangulation c.requires.order.1 c.args.order.now.ranked

pub listed_rows-requires-clause-few : goal.listed_rows-requires-clause-few
listed_rows-requires-clause-few c =
    ranks_small c.args.lists.now c.requires.order.0 (vertices_of c.args.order.now) c.args.order.now.rank c.requires.triangulation c.requires.order.1 c.args.order.now.ranked c.facts.ensures

pub returns : goal.returns
returns c =
    let at = vertices_of c.args.order.now in
    let count = c.in_ok-rows.ensures.count in
    let same = length-map c.args.order.now.at (λ v. v.0) in
    record {
      count = omega arith;
      of_run = λ base order steps run. AreAllRows-order c.args.lists.now base at c.args.order.now.rank c.requires.triangulation order c.args.order.now.ranked (order_rows c.row_ends.ensures) steps run c.in_ok-rows.rows (omega arith) c.in_ok-rows.ensures.rows;
    }

use Rattle.std.proofs.Common.{ℕ, ◌+◌, List, length, slice_index, ap, ◌∙◌, subst, arith}
use Rattle.canon_order.specs.Orders.{vertices_of}
use Rattle.euler_faces.proofs.NumberLemmas.{live-lt}
use Rattle.rect_dual.specs.EdgeLabelsTables.{AreLefts, end_by}
use Rattle.rect_dual.proofs.Turns.{row_within, turn_within}
use Rattle.rect_dual.proofs.OfOrder.{short, short_rows, size, labelling}
use Rattle.rect_dual.proofs.DartLemmas.{IsLabellingIn-of}
use Rattle.rect_dual.proofs.labels.order_labels.framed.Goals as goal

pub row_turns-requires : goal.row_turns-requires
row_turns-requires c = record { run = (short c.args.map.now.lists c.args.frame.left.0 c.args.frame.top.0 c.args.frame.right.0 c.args.frame.bottom.0 (vertices_of c.in_ok-made.made.order) c.in_ok-made.made.order.rank c.in_ok-made.made.rows c.in_ok-made.ensures.rows c.order_is_run.ensures c.rect_order_is_run.ensures, short_rows c.args.map.now.lists c.args.frame.left.0 c.args.frame.top.0 c.args.frame.right.0 c.args.frame.bottom.0 (vertices_of c.in_ok-made.made.order) c.in_ok-made.made.order.rank c.in_ok-made.made.rows c.in_ok-made.ensures.rows c.order_is_run.ensures c.rect_order_is_run.ensures) }

pub invariant_of-turned : goal.invariant_of-turned
invariant_of-turned c =
    let rows = c.in_ok-made.made.rows in
    let steps = short c.args.map.now.lists c.args.frame.left.0 c.args.frame.top.0 c.args.frame.right.0 c.args.frame.bottom.0 (vertices_of c.in_ok-made.made.order) c.in_ok-made.made.order.rank c.in_ok-made.made.rows c.in_ok-made.ensures.rows c.order_is_run.ensures c.rect_order_is_run.ensures in
    let are = short_rows c.args.map.now.lists c.args.frame.left.0 c.args.frame.top.0 c.args.frame.right.0 c.args.frame.bottom.0 (vertices_of c.in_ok-made.made.order) c.in_ok-made.made.order.rank c.in_ok-made.made.rows c.in_ok-made.ensures.rows c.order_is_run.ensures c.rect_order_is_run.ensures in
    let t = c.in_ok-turns.ensures steps are in
    let places = c.deref.ensures.value in
    record {
      places_count = ap length places ∙ t.count;
      runs_count = ap length c.deref-2.ensures.value ∙ t.count_runs;
      turns = λ k l. turn_within steps rows are k l (slice_index c.deref.result.now k) (ap (λ (us : List ℕ). (steps k).first + slice_index us k) places ∙ t.place k l);
      within = λ k l. row_within steps rows are k l;
    }

pub invariant_of-ranked-clause-count : goal.invariant_of-ranked-clause-count
invariant_of-ranked-clause-count c =
    let n = (size c.args.map.now.lists c.args.frame.left.0 c.args.frame.top.0 c.args.frame.right.0 c.args.frame.bottom.0 (vertices_of c.in_ok-made.made.order) c.in_ok-made.made.order.rank c.in_ok-made.made.rows c.in_ok-made.ensures.rows c.order_is_run.ensures c.rect_order_is_run.ensures).0 in
    let r = c.in_ok-made.ensures.rows.rank.count in
    omega arith

pub invariant_of-ranked-clause-within : goal.invariant_of-ranked-clause-within
invariant_of-ranked-clause-within c =
    let r = c.in_ok-made.ensures.rows.rank.count in
    let n = c.in_ok-made.ensures.rows.lower.count in
    let m = c.in_ok-tables.ensures.first in
    λ i d l. let p = c.in_ok-made.ensures.ranks i d l in omega arith

pub returns-clause-labelling : goal.returns-clause-labelling
returns-clause-labelling c =
    let map = c.args.map.now in
    let f = c.args.frame in
    let tables = c.in_ok-tables.tables in
    let of_tables = c.in_ok-tables.ensures in
    let told = labelling c.args.map.now.lists c.args.frame.left.0 c.args.frame.top.0 c.args.frame.right.0 c.args.frame.bottom.0 (vertices_of c.in_ok-made.made.order) c.in_ok-made.made.order.rank c.in_ok-made.made.rows c.in_ok-made.ensures.rows c.order_is_run.ensures c.rect_order_is_run.ensures c.in_ok-turns.turns.place.items c.in_ok-turns.turns.run.items tables.first.items tables.left.items (c.in_ok-turns.ensures (short c.args.map.now.lists c.args.frame.left.0 c.args.frame.top.0 c.args.frame.right.0 c.args.frame.bottom.0 (vertices_of c.in_ok-made.made.order) c.in_ok-made.made.order.rank c.in_ok-made.made.rows c.in_ok-made.ensures.rows c.order_is_run.ensures c.rect_order_is_run.ensures) (short_rows c.args.map.now.lists c.args.frame.left.0 c.args.frame.top.0 c.args.frame.right.0 c.args.frame.bottom.0 (vertices_of c.in_ok-made.made.order) c.in_ok-made.made.order.rank c.in_ok-made.made.rows c.in_ok-made.ensures.rows c.order_is_run.ensures c.rect_order_is_run.ensures)) of_tables.firsts (subst (λ (us : List ℕ). AreLefts c.in_ok-made.made.rows us (length c.in_ok-made.made.rows) tables.left.items) c.deref.ensures.value of_tables.lefts) c.labels_of_order.ensures in
    IsLabellingIn-of map f.left.0 f.top.0 f.right.0 f.bottom.0 (end_by tables.first.items tables.left.items c.in_ok-made.made.order.rank) c.args.map.now.known c.in_ok-labels.labels.items told c.in_ok-labels.ensures.labels

pub returns-clause-covers : goal.returns-clause-covers
returns-clause-covers c = λ id live.
    let m = c.in_ok-labels.ensures.count in
    let l = live-lt c.args.map.now c.args.map.now.known id live in
    omega arith

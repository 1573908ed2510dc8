use Rattle.std.proofs.Common.{◌≡◌, ◌-◌, length, slice_index, sym, ap, ◌∙◌}
use Rattle.std.proofs.lemmas.List.{length-map}
use Rattle.canon_order.specs.Orders.{vertices_of}
use Rattle.wood_runs.specs.Parents.{one, two, three}
use Rattle.schnyder_wood.proofs.Orders.{IsRooted-made, IsWoodOf-made, made_parents}
use Rattle.schnyder_wood.proofs.wood_of_order.wood.Goals as goal

pub parent_tables-requires-clause-ranks : goal.parent_tables-requires-clause-ranks
parent_tables-requires-clause-ranks c =
    c.ranks_are_places.ensures c.args.tri.now.lists c.requires.order.0 (vertices_of c.args.order.now) c.args.order.now.rank c.requires.order.1 c.args.order.now.ranked

pub parent_tables-requires-clause-run : goal.parent_tables-requires-clause-run
parent_tables-requires-clause-run c =
    let base = c.requires.order.0 in
    let order = c.requires.order.1 in
    let run = c.order_is_run.ensures c.args.tri.now.lists base (vertices_of c.args.order.now) c.requires.triangulation order in
    (run.0, (c.in_ok-rows.ensures.of_run base order run.0 run.1).rows_are)

pub invariant_of-result : goal.invariant_of-result
invariant_of-result c =
    let base = c.requires.order.0 in
    let order = c.requires.order.1 in
    let at = vertices_of c.args.order.now in
    let run = c.order_is_run.ensures c.args.tri.now.lists base at c.requires.triangulation order in
    let tables = c.in_ok-tables.ensures run.0 (c.in_ok-rows.ensures.of_run base order run.0 run.1).rows_are in
    let last : c.name_of-3.result ≡ slice_index at (length at - 1) = c.name_of-3.ensures ∙ ap (λ n. slice_index at (n - 1)) (c.len-last.ensures ∙ sym (length-map c.args.order.now.at (λ v. v.0))) in (
      IsRooted-made c.args.tri.now.lists base at c.args.order.now.rank run.0 c.requires.triangulation order c.args.order.now.ranked run.1 c.args.tri.now.known.few_vertices c.wood_of_order.ensures (length c.in_ok-rows.rows) _ _ _ _ _ _ c.in_ok-rows.ensures.count tables c.name_of.ensures c.name_of-2.ensures last,
      tables.count two ∙ sym (tables.count one),
      tables.count three ∙ sym (tables.count one),
    )

pub returns-clause-wood : goal.returns-clause-wood
returns-clause-wood c = λ base order.
    let at = vertices_of c.args.order.now in
    let run = c.order_is_run.ensures c.args.tri.now.lists base at c.requires.triangulation order in
    let tables = c.in_ok-tables.ensures run.0 (c.in_ok-rows.ensures.of_run base order run.0 run.1).rows_are in
    let last : c.name_of-3.result ≡ slice_index at (length at - 1) = c.name_of-3.ensures ∙ ap (λ n. slice_index at (n - 1)) (c.len-last.ensures ∙ sym (length-map c.args.order.now.at (λ v. v.0))) in
    IsWoodOf-made c.args.tri.now.lists base at c.args.order.now.rank run.0 c.requires.triangulation order c.args.order.now.ranked run.1 c.args.tri.now.known.few_vertices c.wood_of_order.ensures (length c.in_ok-rows.rows) _ _ _ _ _ _ c.in_ok-rows.ensures.count tables c.name_of.ensures c.name_of-2.ensures last

pub returns-clause-parents : goal.returns-clause-parents
returns-clause-parents c = λ base order steps run.
    let at = vertices_of c.args.order.now in
    let tables = c.in_ok-tables.ensures steps (c.in_ok-rows.ensures.of_run base order steps run).rows_are in
    let last : c.name_of-3.result ≡ slice_index at (length at - 1) = c.name_of-3.ensures ∙ ap (λ n. slice_index at (n - 1)) (c.len-last.ensures ∙ sym (length-map c.args.order.now.at (λ v. v.0))) in
    made_parents c.args.tri.now.lists base at c.args.order.now.rank steps c.requires.triangulation order c.args.order.now.ranked run c.args.tri.now.known.few_vertices c.wood_of_order.ensures (length c.in_ok-rows.rows) _ _ _ _ _ _ c.in_ok-rows.ensures.count tables c.name_of.ensures c.name_of-2.ensures last

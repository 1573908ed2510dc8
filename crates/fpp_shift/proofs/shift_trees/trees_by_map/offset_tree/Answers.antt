use Rattle.std.proofs.Common.{◌∙◌, arith}
use Rattle.std.proofs.lemmas.List.{length-map}
use Rattle.canon_order.specs.Orders.{vertices_of}
use Rattle.fpp_shift.proofs.TreeLemmas.{vertex-is, two_first}
use Rattle.fpp_shift.proofs.TreeSteps.{IsTreeTo-two, IsTreeTo-more, AreUsesTo-more, next-order, some-next, tree-done, vertex-in, ends-at}
use Rattle.fpp_shift.proofs.shift_trees.trees_by_map.offset_tree.Goals as goal

pub loop-k-init : goal.loop-k-init
loop-k-init g c = record {
  grown = IsTreeTo-two c.args.tri.now.lists (vertices_of c.args.order.now) c.begin_tree.new.tree (λ steps. c.begin_tree.ensures.grown (vertices_of c.args.order.now) steps (vertex-is c.args.order.now.at 0 c.get.result c.get.ensures) (vertex-is c.args.order.now.at 1 c.get-2.result c.get-2.ensures));
  count = c.begin_tree.ensures.count;
  uses = λ base order steps run j e. omega (arith, c.begin_tree.ensures.steps);
  never_falls = omega (arith, c.begin_tree.ensures.steps);
}

pub interval_begin-p-requires-clause-vertex : goal.interval_begin-p-requires-clause-vertex
interval_begin-p-requires-clause-vertex g c =
    let n = length-map c.args.order.now.at (λ v. v.0) in
    let len = c.len-k-end.ensures in
    let test = c.loop-k-test.true in
    let is = vertex-is c.args.order.now.at c.loop-k.k c.get-v.result c.get-v.ensures in
    vertex-in c.args.tri.now.lists c.requires.order.0 (vertices_of c.args.order.now) c.requires.triangulation c.requires.order.1 c.order_is_run.ensures c.args.tri.now.known.few_vertices c.args.order.now.rank c.args.order.now.ranked c.order_has_rows.ensures c.loop-k.k c.get-v.result.0 c.loop-k.auto.k (omega arith) is

pub interval_begin-p-requires-clause-begins : goal.interval_begin-p-requires-clause-begins
interval_begin-p-requires-clause-begins g c =
    let n = length-map c.args.order.now.at (λ v. v.0) in
    let len = c.len-k-end.ensures in
    let test = c.loop-k-test.true in
    let is = vertex-is c.args.order.now.at c.loop-k.k c.get-v.result c.get-v.ensures in
    (ends-at c.args.tri.now.lists c.requires.order.0 (vertices_of c.args.order.now) c.requires.triangulation c.requires.order.1 c.order_is_run.ensures c.args.tri.now.known.few_vertices c.args.order.now.rank c.args.order.now.ranked c.order_has_rows.ensures c.loop-k.k c.get-v.result.0 c.loop-k.auto.k (omega arith) is).0

pub interval_end-q-requires-clause-ends : goal.interval_end-q-requires-clause-ends
interval_end-q-requires-clause-ends g c =
    let n = length-map c.args.order.now.at (λ v. v.0) in
    let len = c.len-k-end.ensures in
    let test = c.loop-k-test.true in
    let is = vertex-is c.args.order.now.at c.loop-k.k c.get-v.result c.get-v.ensures in
    (ends-at c.args.tri.now.lists c.requires.order.0 (vertices_of c.args.order.now) c.requires.triangulation c.requires.order.1 c.order_is_run.ensures c.args.tri.now.known.few_vertices c.args.order.now.rank c.args.order.now.ranked c.order_has_rows.ensures c.loop-k.k c.get-v.result.0 c.loop-k.auto.k (omega arith) is).1

pub put_over-requires : goal.put_over-requires
put_over-requires g c =
    let n = length-map c.args.order.now.at (λ v. v.0) in
    let len = c.len-k-end.ensures in
    let test = c.loop-k-test.true in
    let is = vertex-is c.args.order.now.at c.loop-k.k c.get-v.result c.get-v.ensures in
    let next = next-order c.args.tri.now.lists c.requires.order.0 (vertices_of c.args.order.now) c.requires.triangulation c.requires.order.1 c.order_is_run.ensures c.args.tri.now.known.few_vertices c.args.order.now.rank c.args.order.now.ranked c.order_has_rows.ensures c.loop-k.k c.get-v.result.0 c.loop-k.auto.k (omega arith) is c.loop-k.tree c.interval_begin-p.result.0 c.interval_end-q.result.0 (c.loop-k.invariant.count ∙ c.requires.nodes) c.loop-k.invariant.grown c.interval_begin-p.ensures c.interval_end-q.ensures in
    record { next = some-next c.args.tri.now.lists c.requires.order.0 (vertices_of c.args.order.now) c.requires.triangulation c.requires.order.1 c.order_is_run.ensures c.args.tri.now.known.few_vertices c.args.order.now.rank c.args.order.now.ranked c.order_has_rows.ensures c.loop-k.k c.get-v.result.0 c.loop-k.auto.k (omega arith) is c.loop-k.tree c.interval_begin-p.result.0 c.interval_end-q.result.0 next }

pub loop-k-preserved : goal.loop-k-preserved
loop-k-preserved g c =
    let n = length-map c.args.order.now.at (λ v. v.0) in
    let len = c.len-k-end.ensures in
    let test = c.loop-k-test.true in
    let is = vertex-is c.args.order.now.at c.loop-k.k c.get-v.result c.get-v.ensures in
    let next = next-order c.args.tri.now.lists c.requires.order.0 (vertices_of c.args.order.now) c.requires.triangulation c.requires.order.1 c.order_is_run.ensures c.args.tri.now.known.few_vertices c.args.order.now.rank c.args.order.now.ranked c.order_has_rows.ensures c.loop-k.k c.get-v.result.0 c.loop-k.auto.k (omega arith) is c.loop-k.tree c.interval_begin-p.result.0 c.interval_end-q.result.0 (c.loop-k.invariant.count ∙ c.requires.nodes) c.loop-k.invariant.grown c.interval_begin-p.ensures c.interval_end-q.ensures in
    record {
      grown = IsTreeTo-more c.args.tri.now.lists (vertices_of c.args.order.now) c.loop-k.tree c.loop-k.k c.get-v.result.0 c.interval_begin-p.result.0 c.interval_end-q.result.0 c.loop-k.auto.k next c.put_over.new.tree c.put_over.ensures.grown;
      count = c.put_over.ensures.count ∙ c.loop-k.invariant.count;
      uses = AreUsesTo-more c.args.tri.now.lists (vertices_of c.args.order.now) c.loop-k.tree c.loop-k.k c.get-v.result.0 c.interval_begin-p.result.0 c.interval_end-q.result.0 c.loop-k.auto.k next c.args.steps.now c.loop-k.steps c.put_over.new.steps c.loop-k.invariant.uses c.put_over.ensures.steps;
      never_falls = omega (arith, c.put_over.ensures.never_falls, c.loop-k.invariant.never_falls);
    }

pub returns-clause-tree : goal.returns-clause-tree
returns-clause-tree g c =
    let n = length-map c.args.order.now.at (λ v. v.0) in
    let len = c.len-k-end.ensures in
    let test = c.loop-k-test.false in
    let end = c.loop-k.auto.k-end in
    (tree-done c.args.tri.now.lists c.requires.order.0 (vertices_of c.args.order.now) c.requires.triangulation c.requires.order.1 c.order_is_run.ensures c.args.tri.now.known.few_vertices c.grown_is_offset_tree.ensures c.face_count.ensures c.loop-k.tree c.loop-k.k c.args.steps.now c.loop-k.steps (c.loop-k.invariant.count ∙ c.requires.nodes) (omega (arith, c.requires.triangulation.some, c.requires.order.1.count)) c.loop-k.invariant.grown c.loop-k.invariant.uses).0

pub returns-clause-steps : goal.returns-clause-steps
returns-clause-steps g c =
    let n = length-map c.args.order.now.at (λ v. v.0) in
    let len = c.len-k-end.ensures in
    let test = c.loop-k-test.false in
    let end = c.loop-k.auto.k-end in
    (tree-done c.args.tri.now.lists c.requires.order.0 (vertices_of c.args.order.now) c.requires.triangulation c.requires.order.1 c.order_is_run.ensures c.args.tri.now.known.few_vertices c.grown_is_offset_tree.ensures c.face_count.ensures c.loop-k.tree c.loop-k.k c.args.steps.now c.loop-k.steps (c.loop-k.invariant.count ∙ c.requires.nodes) (omega (arith, c.requires.triangulation.some, c.requires.order.1.count)) c.loop-k.invariant.grown c.loop-k.invariant.uses).1

pub returns-clause-links : goal.returns-clause-links
returns-clause-links g c =
    let n = length-map c.args.order.now.at (λ v. v.0) in
    let len = c.len-k-end.ensures in
    let test = c.loop-k-test.false in
    let end = c.loop-k.auto.k-end in
    (tree-done c.args.tri.now.lists c.requires.order.0 (vertices_of c.args.order.now) c.requires.triangulation c.requires.order.1 c.order_is_run.ensures c.args.tri.now.known.few_vertices c.grown_is_offset_tree.ensures c.face_count.ensures c.loop-k.tree c.loop-k.k c.args.steps.now c.loop-k.steps (c.loop-k.invariant.count ∙ c.requires.nodes) (omega (arith, c.requires.triangulation.some, c.requires.order.1.count)) c.loop-k.invariant.grown c.loop-k.invariant.uses).2

pub begin_tree-requires-clause-apart : goal.begin_tree-requires-clause-apart
begin_tree-requires-clause-apart g c = two_first c.args.tri.now.lists c.requires.order.0 (vertices_of c.args.order.now) c.requires.triangulation c.requires.order.1 c.get.result.0 c.get-2.result.0 (vertex-is c.args.order.now.at 0 c.get.result c.get.ensures) (vertex-is c.args.order.now.at 1 c.get-2.result c.get-2.ensures)

use Rattle.std.proofs.Common.{◌≡◌, ◌++◌, ◌∷◌, [], List, ℕ, filter, ap, ◌∙◌, arith, rules}
use Rattle.std.proofs.lemmas.List.{take_all}
use Rattle.graphs.specs.Graphs.{has_edge}
use Rattle.left_right_lists.specs.Placing.{row_at}
use Rattle.left_right_lists.proofs.Tabled.{values_more}
use Rattle.left_right_lists.proofs.return_edges.RootedGraph.rotation_lists.Goals as goal

pub loop-v-preserved : goal.loop-v-preserved
loop-v-preserved c =
    let graph = c.args.self.now.graph.now in
    let v = c.loop-v.v in
    let row : c.deref-u-items.result.now ≡ row_at graph.n c.args.self.now.tree.now c.args.entries.now v = c.deref-u-items.ensures.value ∙ search rules in
    let whole = take_all c.loop-u.u-index c.deref-u-items.result.now (omega (arith, c.loop-u-test.false)) in
    values_more (λ v. filter (has_edge graph v) (row_at graph.n c.args.self.now.tree.now c.args.entries.now v)) [] c.loop-v.lists c.push-in-loop-v.new.self v c.loop-u.kept.items
    (c.in_ok-push-2.ensures.ok ∙ ap (λ (z : List ℕ). c.loop-v.lists ++ z ∷ []) c.deref-in-loop-v.ensures.value)
    (c.loop-u.invariant ∙ ap (filter (has_edge graph v)) (whole ∙ row)) c.loop-v.invariant

use Rattle.std.proofs.Common.{ℕ, ◌<◌, [], List, length, sym, ◌∙◌, subst}
use Rattle.std.proofs.lemmas.Bool.{cond-false}
use Rattle.left_right_lists.specs.Placing.{block_at}
use Rattle.left_right_lists.proofs.Tabled.{values_more}
use Rattle.left_right_lists.proofs.child_edges.TreeVertex.blocks.Goals as goal

pub list-requires : goal.list-requires
list-requires c =
    subst (λ k. k < length c.args.self.now.opens.now) (sym c.place_of.ensures) (c.args.self.now.children c.loop-u.u (sym c.is_child.ensures ∙ c.if-not-is_child.false))

pub loop-u-preserved-then-not-is_child : goal.loop-u-preserved-then-not-is_child
loop-u-preserved-then-not-is_child c =
    values_more (block_at c.args.self.now.rooted.graph.now.n c.args.self.now.rooted.tree.now c.args.self.now.opens.now c.args.self.now.v) [] c.loop-u.rows _ c.loop-u.u _ c.in_ok-push.ensures.ok (sym (cond-false {A = List ℕ} _ _ _ (sym c.is_child.ensures ∙ c.if-not-is_child.true))) c.loop-u.invariant

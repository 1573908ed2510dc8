use Rattle.std.proofs.Common.{◌≡◌, ◌<◌, get_or, length, sym, ◌∙◌, subst, arith, rules}
use Rattle.std.proofs.lemmas.List.{get_or_default}
use Rattle.left_right_lists.specs.Depths.{IsDepthBy}
use Rattle.left_right_lists.proofs.Searched.{depths_more}
use Rattle.left_right_lists.proofs.search_depths.depths_of.Goals as goal
use Rattle.left_right_lists.proofs.search_depths.depths_of.Goals.{then-from-len, else-from-len}

pub loop-k-preserved : goal.loop-k-preserved
loop-k-preserved c =
    let forest = c.args.forest.now in
    let v = c.index-v.result.now in
    let depth = c.if-from-len.depth in
    let l : c.loop-k.k < length c.args.lists.now = omega (arith, c.loop-k-test.true, c.len-k-end.ensures.is) in
    let e : c.from-in-loop-k.result ≡ get_or forest.order.items c.loop-k.k 0 = c.from-in-loop-k.ensures ∙ (c.index-v.ensures ∙ get_or_default forest.order.items c.loop-k.k v 0 (omega (arith, l, c.requires.forest.orders))) in
    let by : IsDepthBy forest.parent.items c.loop-k.depths.items v depth = elim c.if-from-len.branch [ then-from-len w ↦ record { below = λ l. search rules; root = λ l. search rules } | else-from-len w ↦ record { below = λ l. search rules; root = λ l. search rules } ] in
    depths_more c.args.lists.now forest.order.items forest.number.items forest.last.items forest.parent.items c.loop-k.depths.items c.requires.forest c.loop-k.k c.from-in-loop-k.result depth l e c.loop-k.invariant
    (subst (λ u. IsDepthBy forest.parent.items c.loop-k.depths.items u depth) (sym c.from-in-loop-k.ensures) by)

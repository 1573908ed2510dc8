use Rattle.std.proofs.Common.{◌≡◌, ◌+◌, ℕ, List, slice_index, take, sym, ap, ◌∙◌, subst, arith}
use Rattle.std.proofs.lemmas.Option.{get_or_from_slice_get}
use Rattle.canon_order.specs.Orders.{vertices_of}
use Rattle.schnyder_wood.specs.Tables.{AreNamed}
use Rattle.schnyder_wood.proofs.Names.{AreNamed-more}
use Rattle.schnyder_wood.proofs.parents_by_rank.named.Goals as goal

pub loop-v-preserved : goal.loop-v-preserved
loop-v-preserved c =
    let test = c.loop-v-test.true in
    let len = c.len-v-end.ensures in
    let at = vertices_of c.args.order.now in
    let ranks = c.args.order.now.rank in
    let rank : c.get.result ≡ slice_index ranks c.loop-v.v = sym (get_or_from_slice_get ranks c.loop-v.v c.get.result 0 c.get.ensures) in
    subst (λ names. AreNamed c.args.table.now (take (c.loop-v.v + 1) ranks) at names) (sym {A = List ℕ} c.in_ok-push.ensures.items)
    (AreNamed-more c.args.table.now ranks at c.loop-v.v c.loop-v.names.items c.name_of.result c.loop-v.invariant (omega arith) (c.name_of.ensures ∙ ap (λ r. slice_index at (slice_index c.args.table.now r)) rank))

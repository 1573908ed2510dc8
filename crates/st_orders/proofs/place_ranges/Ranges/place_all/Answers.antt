use Rattle.std.proofs.Common.{◌≡◌, ℕ, length, subst, arith}
use Rattle.st_orders.specs.Placing.{ArePlacedBelow}
use Rattle.st_orders.proofs.TableLemmas.{IsPlacingIn-first}
use Rattle.st_orders.proofs.place_ranges.Ranges.place_all.Goals as goal

pub loop-k-init : goal.loop-k-init
loop-k-init c =
    let r = c.requires in
    let f = c.args.search.now.forest.now in
    let s = c.args.self.now in
    IsPlacingIn-first c.args.search.now.lists.now f.order.items f.number.items f.last.items f.parent.items c.args.search.now.low.now s.from.items s.to.items s.recent.items r.whole c.args.search.now.some r.tables _ _ _ c.index.ensures c.index-2.ensures c.len-n.ensures.is

pub returns : goal.returns
returns c =
    let some = c.args.search.now.some in
    let end = c.len-n.ensures.is in
    let up = c.loop-k.auto.k-end (omega arith) in
    let search = c.args.search.now in
    let e : c.loop-k.k ≡ length search.lists.now = omega (arith, c.loop-k-test.false) in
    subst (λ (k : ℕ). ArePlacedBelow search.lists.now search.forest.now search.low.now c.loop-k.self k) e c.loop-k.invariant

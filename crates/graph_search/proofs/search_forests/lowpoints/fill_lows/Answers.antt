use Rattle.std.proofs.Common.{◌≡◌, ◌-◌, ◌<◌, ℕ, List, length, get_or, set, take, ap, ◌∙◌, subst, arith}
use Rattle.std.proofs.Math.Seq.{take-length}
use Rattle.std.proofs.lemmas.List.{get_or_default}
use Rattle.map_lists.specs.Lists.{Lists}
use Rattle.map_theory.specs.Maps.{list_of}
use Rattle.graph_search.specs.Forests.{IsForestOf}
use Rattle.graph_search.specs.Lows.{IsLowered}
use Rattle.graph_search.proofs.LowLemmas.{entries_within, IsLeastNumber-more, AreLowsFrom-more, IsLeastNumber}
use Rattle.graph_search.proofs.search_forests.lowpoints.fill_lows.Goals as goal

-- the vertex that is i places before the last in the order
vertex_in : (lists : Lists) (order number last parent : List ℕ) → IsForestOf lists order number last parent → (i v : ℕ) → i < length lists → v ≡ get_or order i v → (v ≡ get_or order i 0)
vertex_in lists order number last parent all i v l read = read ∙ get_or_default order i v 0 (omega (arith, l, all.orders))

pub bounds-number-u : goal.bounds-number-u
bounds-number-u c =
    let lists = c.args.lists.now in
    let all = c.requires.forest in
    let f = c.args.forest.now in
    let i = c.len-n.result - 1 - c.loop-i.i in
    let v = c.index-v.result.now in
    let k = c.loop-u.u-index in
    let n = c.len-n.ensures.is in
    let i_in : i < length lists = omega (arith, n, c.loop-i-test.true) in
    let is = vertex_in lists f.order.items f.number.items f.last.items f.parent.items all i v i_in c.index-v.ensures in
    let v_in : v < length lists = omega (arith, is, all.forest.vertex i i_in) in
    let within = entries_within lists c.requires.in_range v v_in k 0 (subst (λ (us : List ℕ). k < length us) c.list-u-items.ensures c.loop-u-test.true) in
    omega (arith, within, ap (λ (us : List ℕ). get_or us k 0) c.list-u-items.ensures, ap (λ (xs : List ℕ). length xs) c.deref-number.ensures.value, all.numbers)

pub loop-u-preserved : goal.loop-u-preserved
loop-u-preserved c =
    let is = c.lesser-least.ensures in
    IsLeastNumber-more c.list-u-items.result.now c.deref-number.result.now _ c.loop-u.u-index c.loop-u.least c.lesser-least.result c.loop-u-test.true (omega (arith, is)) c.loop-u.invariant

pub loop-i-preserved : goal.loop-i-preserved
loop-i-preserved c =
    let lists = c.args.lists.now in
    let all = c.requires.forest in
    let f = c.args.forest.now in
    let low = c.loop-i.low in
    let i = c.len-n.result - 1 - c.loop-i.i in
    let v = c.index-v.result.now in
    let items = c.list-u-items.result.now in
    let least = c.loop-u.least in
    let in_k = c.loop-i-test.true in
    let n = c.len-n.ensures.is in
    let i_in : i < length lists = omega (arith, n, in_k) in
    let read = vertex_in lists f.order.items f.number.items f.last.items f.parent.items all i v i_in c.index-v.ensures in
    let is : v ≡ get_or f.order.items (length lists - 1 - c.loop-i.i) 0 = read ∙ ap (λ m. get_or f.order.items (m - 1 - c.loop-i.i) 0) n in
    let v_in : v < length lists = omega (arith, read, all.forest.vertex i i_in) in
    let end : c.loop-u.u-index ≡ length items = omega (arith, c.loop-u-test.false) in
    let along : IsLeastNumber (list_of lists v) f.number.items (get_or low v 0) least =
    subst (λ (us : List ℕ). IsLeastNumber us f.number.items (get_or low v 0) least) (ap (λ k. take k items) end ∙ (take-length items ∙ c.list-u-items.ensures))
    (subst (λ (xs : List ℕ). IsLeastNumber (take c.loop-u.u-index items) xs (get_or low v 0) least) c.deref-number.ensures.value c.loop-u.invariant) in
    let above : c.index.result.now ≡ get_or f.parent.items v 0 = c.index.ensures ∙ get_or_default f.parent.items v c.index.result.now 0 (omega (arith, v_in, all.parents)) in
    AreLowsFrom-more lists c.requires.in_range f.order.items f.number.items f.last.items f.parent.items all low c.loop-i.i v least (omega (arith, n, in_k)) is c.loop-i.invariant along c.lower.new.low
    (subst (λ (x : ℕ). IsLowered (set low v least) c.lower.new.low x least) above c.lower.ensures)

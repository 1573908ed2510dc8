use Rattle.std.proofs.Common.{◌≡◌, ℕ, List, length, sym, ap, ◌∙◌, subst, arith}
use Rattle.std.proofs.lemmas.List.{take_at}
use Rattle.st_orders.specs.StOrders.{IsStOrder}
use Rattle.st_orders.proofs.orders.list_order.Goals as goal

pub search_forest_along-requires-clause-two : goal.search_forest_along-requires-clause-two
search_forest_along-requires-clause-two c = λ e. c.requires.simple.no_loop c.args.s c.args.t c.requires.dart (sym e)

pub put_all-requires-clause-few : goal.put_all-requires-clause-few
put_all-requires-clause-few c =
    let places = c.in_ok-fill_places.ensures.places in
    omega (arith, ap length c.deref-2.ensures.value, places.count, c.len-n.ensures.is, c.len-n.ensures.few)

pub put_all-requires-clause-long : goal.put_all-requires-clause-long
put_all-requires-clause-long c =
    let places = c.in_ok-fill_places.ensures.places in
    omega (arith, ap length c.deref-2.ensures.value, ap length c.deref_mut.ensures.value, places.count, c.len-n.ensures.is, c.in_ok-at.ensures.len)

pub put_all-requires-clause-within : goal.put_all-requires-clause-within
put_all-requires-clause-within c =
    let places = c.in_ok-fill_places.ensures.places in
    rw (c.deref-2.ensures.value, places.count) places.within

pub put_all-requires-clause-apart : goal.put_all-requires-clause-apart
put_all-requires-clause-apart c =
    let places = c.in_ok-fill_places.ensures.places in
    rw (c.deref-2.ensures.value, places.count) places.apart

pub returns : goal.returns
returns c =
    let lists = c.args.lists.now in
    let s = c.args.s in
    let t = c.args.t in
    let at = c.put_all.new.at in
    let from = c.fill_places.new.ranges.from.items in
    let places = c.in_ok-fill_places.ensures.places in
    let len : length at ≡ c.in_ok-at.at.len = c.put_all.auto.at ∙ c.deref_mut.ensures.len in
    let whole : c.deref-3.result.now ≡ at = c.deref-3.ensures.value ∙ take_at at _ c.in_ok-at.at.len len in
    let long : length at ≡ length lists = omega (arith, c.in_ok-at.ensures.len, c.len-n.ensures.is) in
    let put = rw c.deref-2.ensures.value at c.put_all.ensures in
    let order = places.order_of at long (λ v l. put v (omega (arith, places.count))) in
    subst (λ (xs : List ℕ). IsStOrder lists s t xs c.in_ok-counts_of.field-0) (sym (c.in_ok-vertices_of.ensures ∙ whole))
    (subst (λ (ys : List ℕ). IsStOrder lists s t at ys) (sym (c.in_ok-counts_of.ensures ∙ c.deref-4.ensures.value)) order)

use Rattle.std.proofs.Common.{◌≢◌, ◌<◌, ℕ, List, length, reverse, All, AllPairs, subst, sym, ap, ◌∙◌, arith}
use Rattle.rect_orders.specs.Orders.{IsRectOrder}
use Rattle.rect_orders.proofs.Beginning.{taken_count, taken_within, taken_apart}
use Rattle.rect_orders.proofs.Contours.{simple_here}
use Rattle.rect_orders.proofs.rect_order.vertex_removal.rect_order.Goals as goal

pub invariant_of-closed : goal.invariant_of-closed
invariant_of-closed c =
    let frame = c.args.frame in
    let (map, k) = c.requires.class in
    record { few = c.facts.ensures; simple = ∣ simple_here map frame.left.0 frame.top.0 frame.right.0 frame.bottom.0 frame.inner.0 c.args.more.now k ∣₁ }

pub reversed_order-requires-clause-few : goal.reversed_order-requires-clause-few
reversed_order-requires-clause-few c =
    let frame = c.args.frame in
    let (map, k) = c.requires.class in
    let few = c.facts.ensures in
    let n = taken_count _ map frame.left.0 frame.top.0 frame.right.0 frame.bottom.0 frame.inner.0 k c.in_ok-taken.taken.items (c.in_ok-taken.ensures map k) in
    let same = ap length c.deref.ensures.value in
    omega arith

pub reversed_order-requires-clause-within : goal.reversed_order-requires-clause-within
reversed_order-requires-clause-within c =
    let frame = c.args.frame in
    let (map, k) = c.requires.class in
    subst (λ (us : List ℕ). All (λ v. v < length us) us) (sym c.deref.ensures.value) (taken_within _ map frame.left.0 frame.top.0 frame.right.0 frame.bottom.0 frame.inner.0 k c.in_ok-taken.taken.items (c.in_ok-taken.ensures map k))

pub reversed_order-requires-clause-distinct : goal.reversed_order-requires-clause-distinct
reversed_order-requires-clause-distinct c =
    let frame = c.args.frame in
    let (map, k) = c.requires.class in
    subst (λ (us : List ℕ). AllPairs ◌≢◌ us) (sym c.deref.ensures.value) (taken_apart _ map frame.left.0 frame.top.0 frame.right.0 frame.bottom.0 frame.inner.0 k c.in_ok-taken.taken.items (c.in_ok-taken.ensures map k))

pub returns : goal.returns
returns c = record {
  order = λ map k.
      let frame = c.args.frame in
      subst (λ (us : List ℕ). IsRectOrder map frame.left.0 frame.top.0 frame.right.0 frame.bottom.0 us) (sym (c.in_ok-order.ensures.vertices ∙ ap reverse c.deref.ensures.value)) (c.in_ok-taken.ensures map k);
}

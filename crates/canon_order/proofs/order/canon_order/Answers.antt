use Rattle.std.proofs.Common.{subst, sym}
use Rattle.canon_order.specs.Orders.{IsCanonicalOrder, vertices_of}
use Rattle.canon_order.proofs.order.canon_order.Goals as goal

pub returns : goal.returns
returns c = record {
  order = λ t s d. subst (λ o. IsCanonicalOrder c.args.tri.now.lists (t, s) (vertices_of o)) (sym c.replace-order.ensures.value) (c.in_ok-order_map.ensures.order t s d);
}

use Rattle.std.proofs.Common.{◌*◌, false, List, length, map, sym, ap, subst, arith}
use Rattle.std.proofs.lemmas.List.{length-replicate, take_at}
use Rattle.map_lists.specs.declared.ids.VertexId.{VertexId}
use Rattle.canon_order.specs.Orders.{IsCanonicalOrder}
use Rattle.canon_order.proofs.order.Peeler.take.Goals as goal

pub returns : goal.returns
returns c =
    subst (λ (at : List VertexId). IsCanonicalOrder c.args.base.now.lists.now (c.args.base.now.t, c.args.base.now.s) (map (λ v. v.0) at))
    (sym (take_at c.peel.new.at _ c.in_ok-at.at.len (omega (arith, c.peel.auto.at, c.in_ok-at.ensures, ap length c.deref_mut-3.ensures.value)))) c.in_ok-peel.ensures

pub peel-requires-clause-gone : goal.peel-requires-clause-gone
peel-requires-clause-gone c = omega (arith, c.split_at_mut-marked.ensures.back_len, ap length c.deref_mut.ensures.value, ap length c.in_ok-clear.ensures.marks, length-replicate (2 * c.len-n.result) false, c.len-n.ensures.is)

-- The parents of a wood of the completion are what the arrays have.
use Rattle.std.proofs.Common.{arith}
use Rattle.pigale_c.proofs.woods.rooted.Goals as goal

pub put_parents-requires-clause-count : goal.put_parents-requires-clause-count
put_parents-requires-clause-count c =
    let order = c.in_ok-made.ensures.order in
    let wood = c.in_ok-found.ensures.wood (0, order.to) order.canonical in
    omega (arith, c.if-one-n.false, c.len-n.ensures.is, wood.count, order.extended.vertices)

pub returns : goal.returns
returns c =
    let said = rw c.in_ok-lists.ensures.lists at c.in_ok-made.ensures in (
      record {
        map = c.in_ok-lists.ensures.given;
        first = omega (arith, c.if-one-n.false, c.len-n.ensures.is, c.in_ok-lists.ensures.count);
        second = omega (arith, c.if-two-n.false, c.len-n.ensures.is, c.in_ok-lists.ensures.count);
        third = omega (arith, c.if-three-n.false, c.len-n.ensures.is, c.in_ok-lists.ensures.count);
      },
      said.served,
      record {
        found = c.in_ok-made.made;
        drawing_order = said.order;
        wood = c.in_ok-found.found;
        wood_is = c.in_ok-found.ensures.wood (0, said.order.to) said.order.canonical;
        ones_are = c.put_parents.ensures;
        twos_are = c.put_parents-2.ensures;
        threes_are = c.put_parents-3.ensures;
      },
    )

use Rattle.std.proofs.Common.{◌∙◌, ap₂, arith}
use Rattle.fpp_shift.specs.Sums.{point_beside}
use Rattle.fpp_shift.proofs.MetLemmas.{u-inside, sum-small, met-room, AreMet-none, AreMet-set}
use Rattle.fpp_shift.proofs.offset_trees.summed_points.follow.Goals as goal

pub get-node-requires : goal.get-node-requires
get-node-requires g c =
    u-inside _ _ c.requires.next.2 _ _ _ _ _ c.requires.next.3 (rw c.in-Some.is at c.requires.next.4)

pub point_beside-requires : goal.point_beside-requires
point_beside-requires g c =
    let small = sum-small _ _ c.requires.next.2 _ _ _ _ _ c.requires.next.3 (rw c.in-Some.is at c.requires.next.4) in
    rw (c.point_of.ensures, c.get-node.ensures.node) small

pub put_point-requires : goal.put_point-requires
put_point-requires g c =
    let l = u-inside _ _ c.requires.next.2 _ _ _ _ _ c.requires.next.3 (rw c.in-Some.is at c.requires.next.4) in
    omega (arith, l, c.requires.points)

pub meet-requires : goal.meet-requires
meet-requires g c =
    let room = met-room _ _ c.requires.next.2 c.args.met.now c.args.filled _ _ _ _ c.requires.next.3 (rw c.in-Some.is at c.requires.next.4) c.requires.points (omega (arith, c.requires.filled, c.requires.met)) in
    omega (arith, room, c.requires.met)

pub returns-in-Some-clause-met : goal.returns-in-Some-clause-met
returns-in-Some-clause-met g c = λ root h tree m next.
    let next' = rw c.in-Some.is at next in
    let room = met-room _ _ tree c.args.met.now c.args.filled _ _ _ _ m next' c.requires.points (omega (arith, c.requires.filled, c.requires.met)) in
    AreMet-set c.args.tree.now root tree c.args.met.now _ c.args.filled c.args.points.now _ h c.args.v c.in-Some.u.0 _ m next' c.requires.points (omega (arith, room, c.requires.met)) c.meet.ensures c.put_point.ensures (c.point_beside.ensures ∙ ap₂ point_beside c.point_of.ensures c.get-node.ensures.node)

pub returns-in-Some-clause-within : goal.returns-in-Some-clause-within
returns-in-Some-clause-within g c =
    let room = met-room _ _ c.requires.next.2 c.args.met.now c.args.filled _ _ _ _ c.requires.next.3 (rw c.in-Some.is at c.requires.next.4) c.requires.points (omega (arith, c.requires.filled, c.requires.met)) in
    omega (arith, room)

pub returns-in-None-clause-met : goal.returns-in-None-clause-met
returns-in-None-clause-met g c = λ root h tree m next. AreMet-none _ root _ _ h _ m (rw c.in-None.is at next)

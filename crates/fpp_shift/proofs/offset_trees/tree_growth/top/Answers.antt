use Rattle.std.proofs.Common.{arith}
use Rattle.std.proofs.lemmas.Int.{ints}
use Rattle.fpp_shift.proofs.offset_trees.tree_growth.top.Goals as goal

pub overflow_sub-result : goal.overflow_sub-result
overflow_sub-result c =
    let far = c.requires.0 in
    let is = c.requires.5 in
    let apart = is.apart_is in
    let across = is.across in
    let small = is.small in
    let x = c.half-x.ensures c.requires.3 (omega (arith, ints, apart, is.p_is, is.q_is, across, small)) in
    omega (arith, ints, x, apart, across, small)

pub returns : goal.returns
returns c = λ far p q dx dy is.
    let apart = is.apart_is in
    let yp = is.p_is in
    let yq = is.q_is in
    let across = is.across in
    let high = is.high in
    let small = is.small in
    let x = c.half-x.ensures dx (omega (arith, ints, apart, yp, yq, across, small)) in
    let y = c.half-y.ensures dy (omega (arith, ints, apart, yp, yq, high, small)) in
    (omega (arith, ints, x, across, small), omega (arith, ints, y, high, small), omega (arith, ints, x, apart, across, small))

pub half-x-requires : goal.half-x-requires
half-x-requires c = let is = c.requires.5 in (c.requires.3, omega (arith, ints, is.apart_is, is.p_is, is.q_is, is.across, is.small), omega (arith, is.across, is.small))

pub half-y-requires : goal.half-y-requires
half-y-requires c = let is = c.requires.5 in (c.requires.4, omega (arith, ints, is.apart_is, is.p_is, is.q_is, is.high, is.small), omega (arith, is.high, is.small))

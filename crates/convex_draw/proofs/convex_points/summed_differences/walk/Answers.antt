use Rattle.std.proofs.Common.{◌-◌, ℕ, suc, arith}
use Rattle.convex_draw.proofs.Walks.{two_wide, here_in, AreWalked-here, one_small, two_enough, IsWalking-back}
use Rattle.convex_draw.proofs.convex_points.summed_differences.walk.Goals as goal

pub slice_copy_out-old : goal.slice_copy_out-old
slice_copy_out-old c =
    let w = c.requires.last in
    let same = c.loop.auto.spots in
    let test = c.loop-test.true in
    let p : ℕ = c.args.width - c.loop.counter in
    here_in w.0 w.1 w.2 c.args.spots.now c.args.s c.args.faces c.args.width w.3 p c.loop.x c.loop.y c.loop.u c.loop.spots (c.loop.invariant w.0 w.1 w.2 w.3 p (omega arith)) same

pub bounds-spots-u : goal.bounds-spots-u
bounds-spots-u c =
    let w = c.requires.last in
    let same = c.loop.auto.spots in
    let test = c.loop-test.true in
    let p : ℕ = c.args.width - c.loop.counter in
    here_in w.0 w.1 w.2 c.args.spots.now c.args.s c.args.faces c.args.width w.3 p c.loop.x c.loop.y c.loop.u c.loop.spots (c.loop.invariant w.0 w.1 w.2 w.3 p (omega arith)) same

pub overflow_add-x : goal.overflow_add-x
overflow_add-x c =
    let w = c.requires.last in
    let same = c.loop.auto.spots in
    let test = c.loop-test.true in
    let p : ℕ = c.args.width - c.loop.counter in
    let small = one_small w.0 w.1 w.2 c.args.spots.now c.args.s c.args.faces c.args.width w.3 p c.loop.x c.loop.y c.loop.u c.loop.spots (c.loop.invariant w.0 w.1 w.2 w.3 p (omega arith)) same (p - 1) (omega arith) in
    omega arith

pub overflow_sub-y : goal.overflow_sub-y
overflow_sub-y c =
    let w = c.requires.last in
    let same = c.loop.auto.spots in
    let test = c.loop-test.true in
    let p : ℕ = c.args.width - c.loop.counter in
    two_enough w.0 w.1 w.2 c.args.spots.now c.args.s c.args.faces c.args.width w.3 p c.loop.x c.loop.y c.loop.u c.loop.spots (c.loop.invariant w.0 w.1 w.2 w.3 p (omega arith)) same (p - 1) (omega arith)

pub loop-preserved : goal.loop-preserved
loop-preserved c = λ g at name h p e.
    let same = c.loop.auto.spots in
    IsWalking-back g at name c.args.spots.now c.args.s c.args.faces c.args.width h (suc p) c.loop.x c.loop.y c.loop.u c.loop.spots (c.loop.invariant g at name h (suc p) (omega arith)) same p (omega arith)

pub bounds-spots-u-2 : goal.bounds-spots-u-2
bounds-spots-u-2 c =
    let w = c.requires.last in
    let wide = two_wide w.0 w.1 w.2 c.args.spots.now c.args.s c.args.faces c.args.width w.3 in
    let same = c.loop.auto.spots in
    let test = c.loop-test.false in
    let end = c.loop.auto.counter-end in
    here_in w.0 w.1 w.2 c.args.spots.now c.args.s c.args.faces c.args.width w.3 0 c.loop.x c.loop.y c.loop.u c.loop.spots (c.loop.invariant w.0 w.1 w.2 w.3 0 (omega arith)) same

pub returns : goal.returns
returns c = λ g at name h.
    let wide = two_wide g at name c.args.spots.now c.args.s c.args.faces c.args.width h in
    let same = c.loop.auto.spots in
    let test = c.loop-test.false in
    let end = c.loop.auto.counter-end in
    AreWalked-here g at name c.args.spots.now c.args.s c.args.faces c.args.width h 0 c.loop.x c.loop.y c.loop.u c.loop.spots (c.loop.invariant g at name h 0 (omega arith)) same c.loop.u

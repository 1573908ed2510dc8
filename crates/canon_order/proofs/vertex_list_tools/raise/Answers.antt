use Rattle.std.proofs.Common.{arith, slice_index}
use Rattle.canon_order.proofs.Counters.{counted_before}
use Rattle.canon_order.proofs.vertex_list_tools.raise.Goals as goal

pub overflow_add-counts : goal.overflow_add-counts
overflow_add-counts c =
    let u = slice_index c.args.entries.now c.loop-u.u-index in
    let same = c.loop-u.auto.counts in
    let more = counted_before c.args.entries.now c.loop-u.u-index c.loop-u-test.true in
    let room = c.requires.room u in
    let l = c.requires.within c.loop-u.u-index 0 c.loop-u-test.true in
    let now = c.loop-u.invariant u (omega arith) in
    omega (arith, more, room, now)

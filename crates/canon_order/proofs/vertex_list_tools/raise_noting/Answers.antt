use Rattle.std.proofs.Common.{◌<◌, ◌+◌, length, length-set, slice_index, arith, get_or-set_other}
use Rattle.canon_order.proofs.Marks.{noted-more, noted-all}
use Rattle.canon_order.proofs.Counters.{counted_before, counted_up}
use Rattle.canon_order.proofs.vertex_list_tools.raise_noting.Goals as goal

pub overflow_add-counts : goal.overflow_add-counts
overflow_add-counts c =
    let u = slice_index c.args.entries.now c.loop-u.u-index in
    omega (arith, counted_before c.args.entries.now c.loop-u.u-index c.loop-u-test.true, c.requires.room u, c.loop-u.invariant.counts u (omega (arith, c.requires.within c.loop-u.u-index 0 c.loop-u-test.true, c.loop-u.auto.counts)))

pub loop-u-preserved : goal.loop-u-preserved
loop-u-preserved c =
    let h = c.loop-u.invariant in
    let us = c.args.entries.now in
    let i = c.loop-u.u-index in
    let k : slice_index us i < length c.loop-u.counts = omega (arith, c.requires.within i 0 c.loop-u-test.true, c.loop-u.auto.counts) in
    record {
      counts = counted_up us c.loop-u.counts c.args.counts.now i c.loop-u-test.true k h.counts;
      kept = λ w has. c.note.ensures.kept w (h.kept w has);
      vertices = λ n all old. c.note.ensures.vertices n (all i 0 c.loop-u-test.true) (h.vertices n all old);
      noted = noted-more c.args.marked.now us c.loop-u.counts _ c.loop-u.stack.items c.note.new.stack.items i c.loop-u-test.true (λ w ne. get_or-set_other c.loop-u.counts _ w _ 0 ne) c.note.ensures.kept c.note.ensures.noted h.noted;
      room = omega (arith, h.room, c.note.ensures.len, c.note.ensures.capacity);
    }

pub returns-clause-noted : goal.returns-clause-noted
returns-clause-noted c = noted-all c.args.marked.now c.args.entries.now c.loop-u.counts c.loop-u.stack.items c.loop-u.u-index (omega arith) c.loop-u.invariant.noted

pub note-requires-clause-room : goal.note-requires-clause-room
note-requires-clause-room c = omega (arith, c.loop-u.invariant.room, c.loop-u-test.true)

pub note-requires-clause-counts : goal.note-requires-clause-counts
note-requires-clause-counts c = omega (arith, c.requires.within c.loop-u.u-index 0 c.loop-u-test.true, c.loop-u.auto.counts, let u = slice_index c.args.entries.now c.loop-u.u-index in length-set c.loop-u.counts u (slice_index c.loop-u.counts u + 1))

use Rattle.std.proofs.Common.{◌<◌, ◌-◌, length, length-set, slice_index, arith, get_or-set_other}
use Rattle.canon_order.proofs.Marks.{noted-more, noted-all}
use Rattle.canon_order.specs.Marks.{is_untouched}
use Rattle.canon_order.proofs.Counters.{counted_before, counted_down}
use Rattle.canon_order.proofs.Pushes.{gathered-more, gathered-all}
use Rattle.canon_order.proofs.vertex_list_tools.lower_noting.Goals as goal

pub overflow_sub-counts : goal.overflow_sub-counts
overflow_sub-counts c =
    let u = slice_index c.args.entries.now c.loop-u.u-index in
    let l = c.requires.within c.loop-u.u-index 0 c.loop-u-test.true in
    omega (arith, counted_before c.args.entries.now c.loop-u.u-index c.loop-u-test.true, c.requires.some u l, c.loop-u.invariant.counts u (omega (arith, l, c.loop-u.auto.counts)))

pub loop-u-preserved : goal.loop-u-preserved
loop-u-preserved c =
    let h = c.loop-u.invariant in
    let us = c.args.entries.now in
    let i = c.loop-u.u-index in
    let l = c.requires.within i 0 c.loop-u-test.true in
    let k : slice_index us i < length c.loop-u.counts = omega (arith, l, c.loop-u.auto.counts) in
    record {
      counts = counted_down us c.loop-u.counts c.args.counts.now i c.loop-u-test.true k (let more = counted_before us i c.loop-u-test.true in let some = c.requires.some _ l in let now = h.counts _ k in omega arith) h.counts;
      kept = λ w has. c.note.ensures.kept w (h.kept w has);
      vertices = λ n all old. c.note.ensures.vertices n (all i 0 c.loop-u-test.true) (h.vertices n all old);
      noted = noted-more c.args.marked.now us c.loop-u.counts _ c.loop-u.stack.items c.note.new.stack.items i c.loop-u-test.true (λ w ne. get_or-set_other c.loop-u.counts _ w _ 0 ne) c.note.ensures.kept c.note.ensures.noted h.noted;
      room = omega (arith, h.room, c.note.ensures.len, c.note.ensures.capacity);
      fresh = gathered-more (is_untouched c.args.marked.now c.args.gone.now) us i c.loop-u-test.true c.loop-u.fresh.items c.gather.new.fresh.items h.fresh c.gather.ensures.items;
      fresh_room = omega (arith, h.fresh_room, c.gather.ensures.len, c.gather.ensures.capacity);
    }

pub returns-clause-noted : goal.returns-clause-noted
returns-clause-noted c = noted-all c.args.marked.now c.args.entries.now c.loop-u.counts c.loop-u.stack.items c.loop-u.u-index (omega arith) c.loop-u.invariant.noted

pub note-requires-clause-room : goal.note-requires-clause-room
note-requires-clause-room c = omega (arith, c.loop-u.invariant.room, c.loop-u-test.true)

pub note-requires-clause-counts : goal.note-requires-clause-counts
note-requires-clause-counts c = omega (arith, c.requires.within c.loop-u.u-index 0 c.loop-u-test.true, c.loop-u.auto.counts, let u = slice_index c.args.entries.now c.loop-u.u-index in length-set c.loop-u.counts u (slice_index c.loop-u.counts u - 1))

pub gather-requires-clause-room : goal.gather-requires-clause-room
gather-requires-clause-room c = omega (arith, c.loop-u.invariant.fresh_room, c.loop-u-test.true)

pub returns-clause-fresh : goal.returns-clause-fresh
returns-clause-fresh c = gathered-all (is_untouched c.args.marked.now c.args.gone.now) c.args.entries.now c.loop-u.u-index (omega arith) c.loop-u.fresh.items c.loop-u.invariant.fresh

use Rattle.std.proofs.Common.{arith, ◌∙◌}
use Rattle.std.proofs.lemmas.List.{take_rest, length-drop}
use Rattle.pg_io.proofs.Growth.{Grows-take}
use Rattle.pg_io.proofs.whole_writes.put_all.Goals as goal

-- The piece written is the next part of the bytes, so the first `done + k` of them were appended.
pub loop-done-preserved : goal.loop-done-preserved
loop-done-preserved g c =
    let bytes = c.args.bytes.now in
    let done = c.loop-done.done in
    let k = c.in_ok-done.field-0 in
    let rest = take_rest bytes done in
    let wrote = rw rest at c.in_ok-done.ensures.within in
    let appended = rw rest at c.in_ok-done.ensures.appended in
    record {
      in_range = omega (arith, wrote.1, length-drop done bytes);
      appended = Grows-take bytes done k c.loop-done.invariant.appended appended;
      kept = c.in_ok-done.ensures.kept ∙ c.loop-done.invariant.kept;
    }

use Rattle.std.proofs.Common.{arith, ◌++◌, ◌∙◌, take, drop, append_assoc}
use Rattle.std.proofs.lemmas.List.{take_rest, length-drop}
use Rattle.std.proofs.Math.Seq.{take-add}
use Rattle.record_runs.proofs.StopLemmas.{piece-splits}
use Rattle.record_runs.proofs.piece_steps.take_within.Goals as goal

pub loop-done-preserved : goal.loop-done-preserved
loop-done-preserved g c =
    let piece = c.args.piece.now in
    let done = c.loop-done.done in
    let k = c.in-Ok.k in
    let rest = take_rest piece done in
    let moved = rw rest at c.in-Ok.ensures.moved in
    let at = rw (c.loop-done.invariant.same, rest) at c.in-Ok.ensures.at in
    record {
      in_range = omega (arith, moved.1, length-drop done piece);
      counted = c.in-Ok.ensures.counted;
      moved = omega (arith, moved.2, c.loop-done.invariant.moved);
      at = λ consumed front is. rw (take-add done k piece, ← append_assoc consumed (take done piece) (take k (drop done piece)))
          (at (consumed ++ take done piece) front (c.loop-done.invariant.at consumed front is));
      same = c.in-Ok.ensures.same ∙ c.loop-done.invariant.same;
    }

pub returns-in-Err-clause-at : goal.returns-in-Err-clause-at
returns-in-Err-clause-at g c = λ consumed front is.
    let piece = c.args.piece.now in
    let done = c.loop-done.done in
    let at = rw (c.loop-done.invariant.same, take_rest piece done) at c.in-Err.ensures.at in
    rw (piece-splits consumed piece done) at
    (at (consumed ++ take done piece) front (c.loop-done.invariant.at consumed front is))

use Rattle.std.proofs.Common.{arith, ◌∙◌, ◌-◌, drop}
use Rattle.std.proofs.lemmas.List.{length-take}
use Rattle.record_runs.specs.Texts.{input_limit}
use Rattle.record_runs.proofs.StopLemmas.{piece-splits, Stops-more, at-too_long}
use Rattle.record_runs.proofs.piece_steps.take_piece.Goals as goal

pub returns-in-Ok-clause-at : goal.returns-in-Ok-clause-at
returns-in-Ok-clause-at g c = λ consumed front is.
    let n = input_limit - c.args.run.now.taken in
    let at = c.in-Ok.ensures.at consumed front is in (
      c.too_long.ensures.bad,
      at-too_long g.F.Format.reads (g.J.Job.answers (g.J.Job.kind c.args.job.now)) g.F.Format.At _ consumed c.args.piece.now n (omega arith)
          c.too_long.ensures.reading at (c.lawful.ensures.place_is _ _ at.records at.read ∙ (let counted = c.in-Ok.ensures.counted in let moved = c.in-Ok.ensures.moved in omega (arith, length-take n c.args.piece.now))),
    )

pub returns-in-Err-clause-at : goal.returns-in-Err-clause-at
returns-in-Err-clause-at g c = λ consumed front is.
    let piece = c.args.piece.now in
    let n = input_limit - c.args.run.now.taken in
    rw (piece-splits consumed piece n) at
    (Stops-more g.F.Format.reads (g.J.Job.answers (g.J.Job.kind c.args.job.now)) g.F.Format.At _ (drop n piece) _ _ _ c.in-Err.stop (c.in-Err.ensures.at consumed front is))

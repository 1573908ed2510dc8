use Rattle.std.proofs.Common.{◌++◌}
use Rattle.std.proofs.lemmas.List.{append-nil}
use Rattle.pg_io.proofs.Growth.{WhereTold-taken}
use Rattle.record_runs.specs.Run.{IsFront, EndsAs}
use Rattle.record_runs.proofs.EndLemmas.{Wrote-more, went-front, ends-cut, ends-no_memory, ends-failed, ends-bad, ends-counts, failed-counts}
use Rattle.record_runs.proofs.main_loop.consume.Goals as goal

pub returns-in-Err-clause-outcome : goal.returns-in-Err-clause-outcome
returns-in-Err-clause-outcome g c = λ start left faults stands.
    let format = g.F.Format in
    let job = g.J.Job.answers (g.J.Job.kind c.args.job.now) in
    let blocks = c.take_piece-went.new.text.items in
    let at = c.take_piece-went.ensures.at stands.consumed stands.text (rw (c.clear.ensures.items, append-nil stands.text) stands.at) in (
      ends-cut format.reads job stands.wrote blocks (rw c.deref.ensures.value at c.in-Err.ensures.err)
          (WhereTold-taken (λ input. IsFront format.reads job input (stands.text ++ blocks)) stands.takes
          (went-front format.reads job format.At format.place c.lawful.ensures.place_is c.lawful.ensures.begins c.lawful.ensures.has _ _ _ _ _ _ c.take_piece-went.result at c.take_piece-went.ensures.counted)),
      tt,
    )

pub returns-in-Ok-went-clause-outcome : goal.returns-in-Ok-went-clause-outcome
returns-in-Ok-went-clause-outcome g c = λ start left faults stands.
    let blocks = c.take_piece-went.new.text.items in
    record {
      consumed = stands.consumed ++ c.args.piece.now;
      text = stands.text ++ blocks;
      takes = rw (append-nil (stands.consumed ++ c.args.piece.now)) stands.takes;
      wrote = Wrote-more stands.wrote (rw c.deref.ensures.value at c.in-Ok.ensures.ok) c.in-Ok.ensures.kept;
      at = c.in-Ok-went.ensures.at stands.consumed stands.text (rw (c.clear.ensures.items, append-nil stands.text) stands.at);
    }

pub returns-in-Err-NoMemory-clause-outcome : goal.returns-in-Err-NoMemory-clause-outcome
returns-in-Err-NoMemory-clause-outcome g c = λ start left faults stands.
    let format = g.F.Format in
    let job = g.J.Job.answers (g.J.Job.kind c.args.job.now) in
    let blocks = c.take_piece-went.new.text.items in
    let stops = rw c.in-Err-NoMemory.field-0-is at (c.in-Err-NoMemory.ensures.at stands.consumed stands.text (rw (c.clear.ensures.items, append-nil stands.text) stands.at)) in (
      ends-no_memory format.reads job (Wrote-more stands.wrote (rw c.deref.ensures.value at c.in-Ok.ensures.ok) c.in-Ok.ensures.kept)
          (WhereTold-taken (λ input. IsFront format.reads job input (stands.text ++ blocks)) stands.takes stops),
      tt,
    )

pub returns-in-Ok-write_last-clause-outcome : goal.returns-in-Ok-write_last-clause-outcome
returns-in-Ok-write_last-clause-outcome g c = λ start left faults stands.
    let format = g.F.Format in
    let job = g.J.Job.answers (g.J.Job.kind c.args.job.now) in
    let blocks = c.take_piece-went.new.text.items in
    let stops = rw c.in-Err-Bad.field-0-is at (c.in-Err-Bad.ensures.at stands.consumed stands.text (rw (c.clear.ensures.items, append-nil stands.text) stands.at)) in
    let ends = WhereTold-taken (λ input. EndsAs format.reads job input c.in-Err-Bad.end (stands.text ++ blocks) _ _) stands.takes stops.1 in (
      ends-bad format.reads job (Wrote-more stands.wrote (rw c.deref.ensures.value at c.in-Ok.ensures.ok) c.in-Ok.ensures.kept) ends
          (rw c.take_piece-went.ensures.same at c.in-Ok-write_last.ensures.ok) c.in-Ok-write_last.ensures.kept stops.0,
      ends-counts format.reads job ends,
    )

pub returns-clause-outcome : goal.returns-clause-outcome
returns-clause-outcome g c = λ start left faults stands.
    let format = g.F.Format in
    let job = g.J.Job.answers (g.J.Job.kind c.args.job.now) in
    let blocks = c.take_piece-went.new.text.items in
    let stops = rw c.in-Err-Bad.field-0-is at (c.in-Err-Bad.ensures.at stands.consumed stands.text (rw (c.clear.ensures.items, append-nil stands.text) stands.at)) in
    rw c.failed.ensures (
      ends-failed format.reads job (Wrote-more stands.wrote (rw c.deref.ensures.value at c.in-Ok.ensures.ok) c.in-Ok.ensures.kept) _ _ _ _ _ c.in-Err-write_last.failure c.lawful.ensures.has
          (WhereTold-taken (λ input. EndsAs format.reads job input c.in-Err-Bad.end (stands.text ++ blocks) _ _) stands.takes stops.1)
          (rw c.take_piece-went.ensures.same at c.in-Err-write_last.ensures.err),
      failed-counts format.reads job _ _ _ c.in-Err-write_last.failure,
    )

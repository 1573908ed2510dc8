use Rattle.std.proofs.Common.{append_assoc, arith, length}
use Rattle.std.proofs.lemmas.List.{take_all}
use Rattle.planar_code.proofs.ProgressLemmas.{Progress-length}
use Rattle.planar_code.proofs.PieceLemmas.{Progress-joined, Progress-ended, Progress-bad_piece, joined-moves, ended-moves}
use Rattle.pigale_shell.proofs.PlanarLemmas.{IsGiven-record, front-kept}
use Rattle.pigale_shell.proofs.planar_jobs.PlanarReaderFormat.take.Goals as goal

pub invariant_of-self : goal.invariant_of-self
invariant_of-self c = record {
  front = front-kept c.args.self.now.reader c.take.new.self c.args.piece.now c.take.result c.take.ensures.taken c.take.ensures.err c.args.self.now.front;
}

pub returns-in-More-clause-moves : goal.returns-in-More-clause-moves
returns-in-More-clause-moves c =
    let taken = rw c.in-More.is at c.in_ok-take.ensures.taken in
    (c.requires.some_bytes, omega arith, (joined-moves c.args.self.now.reader c.take.new.self c.args.piece.now c.args.self.now.front taken).count)

pub returns-in-More-clause-reads : goal.returns-in-More-clause-reads
returns-in-More-clause-reads c = λ consumed records progress.
    let taken = rw c.in-More.is at c.in_ok-take.ensures.taken in
    rw (take_all (length c.args.piece.now) c.args.piece.now (omega arith)) (Progress-joined consumed records c.args.self.now.reader c.take.new.self c.args.piece.now progress taken)

pub returns-in-Ended-clause-moves : goal.returns-in-Ended-clause-moves
returns-in-Ended-clause-moves c =
    let taken = rw c.in-Ended.is at c.in_ok-take.ensures.taken in
    let moves = ended-moves c.args.self.now.reader c.take.new.self c.args.piece.now c.in-Ended.k c.args.self.now.front taken in
    (taken.0, taken.1, moves.0.count, IsGiven-record _ _ taken.3.1)

pub returns-in-Ended-clause-reads : goal.returns-in-Ended-clause-reads
returns-in-Ended-clause-reads c = λ consumed records progress.
    let taken = rw c.in-Ended.is at c.in_ok-take.ensures.taken in
    Progress-ended consumed records c.args.self.now.reader c.take.new.self c.args.piece.now c.in-Ended.k progress taken

pub returns-in-Bad-clause-reads : goal.returns-in-Bad-clause-reads
returns-in-Bad-clause-reads c = λ consumed records progress.
    let taken = rw c.in-Bad.is at c.in_ok-take.ensures.taken in
    let l = Progress-length consumed records c.args.self.now.reader progress in
    (tt, λ tail. rw append_assoc (Progress-bad_piece consumed records c.args.self.now.reader c.take.new.self c.args.piece.now _ c.in-Bad.place tail progress taken (omega (arith, l, c.requires.room))))

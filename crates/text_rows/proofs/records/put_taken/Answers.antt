-- A piece moves the reader on.
use Rattle.std.proofs.Common.{arith}
use Rattle.planar_code.proofs.PieceLemmas.{joined-moves, ended-moves}
use Rattle.text_rows.proofs.records.put_taken.Goals as goal

pub loop-at-preserved-in-More : goal.loop-at-preserved-in-More
loop-at-preserved-in-More c =
    let takes = rw c.in-More.is at c.in_ok-take.ensures.taken in
    let moves = joined-moves c.loop-at.reader c.take.new.self c.piece_at-piece.result.now c.loop-at.invariant.front takes in
    let count = moves.count in
    let before = c.loop-at.invariant.place in
    record { within = omega arith; place = omega arith; front = moves.front }

pub loop-at-preserved : goal.loop-at-preserved
loop-at-preserved c =
    let takes = rw c.in-Ended.is at c.in_ok-take.ensures.taken in
    let moves = ended-moves c.loop-at.reader c.take.new.self c.piece_at-piece.result.now c.in-Ended.k c.loop-at.invariant.front takes in
    let count = moves.0.count in
    let before = c.loop-at.invariant.place in
    record { within = omega (arith, takes.1); place = omega arith; front = moves.0.front }

-- The rest of the piece, or its next byte.
use Rattle.std.proofs.Common.{◌-◌, ◌∷◌, [], length, take, drop, get_or, subst, arith}
use Rattle.planar_code.specs.Place.{state_of}
use Rattle.planar_code.specs.Taken.{Takes}
use Rattle.planar_code.specs.declared.record_reader.Taken.{Taken}
use Rattle.planar_code.proofs.PlaceLemmas.{answered-takes, answered-counted, rest-takes, byte-stops, next-joins}
use Rattle.planar_code.proofs.record_reader.take_piece.Goals as goal

pub returns-then-not-place : goal.returns-then-not-place
returns-then-not-place c =
    let l = c.loop-k in
    let new = c.take-scanned.new.self in
    let place = c.answer-taken.new.place in
    let rest = take (length c.args.piece.now - l.k) (drop l.k c.args.piece.now) in
    let takes = answered-takes l.scanner new l.place rest c.if-not-place.true l.invariant.counted c.take-scanned.result place c.answer-taken.result c.answer-taken.ensures.place c.answer-taken.ensures.told c.take-scanned.ensures.scans c.take-scanned.ensures.whole in
    record {
      takes = rest-takes (state_of c.args.scanner.now c.args.place.now) (state_of l.scanner l.place) (state_of new place) c.args.piece.now l.k l.invariant.joined l.invariant.state c.answer-taken.result c.shift.result (omega arith) c.shift.ensures takes;
      counted = answered-counted l.scanner new l.place rest c.if-not-place.true l.invariant.counted c.take-scanned.result place c.answer-taken.ensures.place c.take-scanned.ensures.scans;
    }

pub returns-in_default : goal.returns-in_default
returns-in_default c =
    let l = c.loop-k in
    let new = c.take_byte.new in
    record {
      takes = byte-stops (state_of c.args.scanner.now c.args.place.now) (state_of l.scanner l.place) (state_of new.scanner new.place) c.args.piece.now l.k l.invariant.joined l.invariant.state c.take_byte.result c.shift-in_default.result (omega arith) c.shift-in_default.ensures c.in_default.not-More c.take_byte.ensures.takes;
      counted = c.take_byte.ensures.counted;
    }

pub loop-k-preserved : goal.loop-k-preserved
loop-k-preserved c =
    let l = c.loop-k in
    let new = c.take_byte.new in
    let P : Taken → Type 0 = λ t. Takes (state_of l.scanner l.place) (get_or c.args.piece.now l.k 0 ∷ []) t (state_of new.scanner new.place) in
    let next = next-joins (state_of c.args.scanner.now c.args.place.now) (state_of l.scanner l.place) (state_of new.scanner new.place) c.args.piece.now l.k l.invariant.joined l.invariant.state (omega arith) (subst P c.in-More.is c.take_byte.ensures.takes) in
    let limit = c.take_byte.ensures.limit c.in-More.is in
    let room = c.take_byte.ensures.room c.in-More.is in
    record {
      joined = next.0;
      state = next.1;
      counted = c.take_byte.ensures.counted;
      room = omega (arith, l.invariant.room);
      limit = omega (arith, l.invariant.limit);
    }

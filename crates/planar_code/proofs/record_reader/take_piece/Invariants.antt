-- The bytes before byte k have joined those pending.
use Rattle.std.proofs.Common.{◌+◌, ◌-◌, ◌≤◌, ◌≡◌, length, take}
use Rattle.planar_code.specs.Reading.{input_limit}
use Rattle.planar_code.specs.Front.{IsCounted}
use Rattle.planar_code.specs.Place.{state_of}
use Rattle.planar_code.specs.Taken.{after_all, AllJoin}
use Rattle.planar_code.proofs.record_reader.take_piece.Given as goal

abbrev pub invariant-loop-k : goal.invariant-loop-k
invariant-loop-k l = record {
  joined : AllJoin (state_of l.fn.scanner l.fn.place) (take l.k l.piece);
  state : state_of l.scanner l.place ≡ after_all (state_of l.fn.scanner l.fn.place) (take l.k l.piece);
  counted : IsCounted l.place.header_may_come l.scanner.bytes l.place.pending_len l.place.in_header;
  room : length l.piece ≤ l.scanner.room + l.k;
  limit : l.place.start + l.place.pending_len + (length l.piece - l.k) ≤ input_limit;
}

-- The reader is as far as the bytes, and a header comes only at their front.
use Rattle.std.proofs.Common.{◌+◌, ◌-◌, ◌≤◌, ◌≡◌, true, length}
use Rattle.text_rows.proofs.records.put_taken.Given as goal

abbrev pub invariant-loop-at : goal.invariant-loop-at
invariant-loop-at l = record {
  within : l.at ≤ length l.bytes;
  place : l.reader.start + length l.reader.pending ≡ l.at;
  front : l.reader.header_may_come ≡ true → l.reader.start ≡ 0;
}

abbrev pub decreases-loop-at : goal.decreases-loop-at
decreases-loop-at l = length l.bytes - l.at

-- The reader is no further than the bytes.
use Rattle.std.proofs.Common.{◌+◌, ◌≤◌, length}
use Rattle.text_rows.proofs.records.put_fed.Given as goal

abbrev pub invariant-loop-byte : goal.invariant-loop-byte
invariant-loop-byte l = l.reader.start + length l.reader.pending ≤ l.byte-index

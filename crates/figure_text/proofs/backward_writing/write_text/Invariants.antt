-- The last k bytes are written, and there is room for the others.
use Rattle.std.proofs.Common.{◌≡◌, ◌+◌, ◌-◌, ◌++◌, length, drop}
use Rattle.figure_text.proofs.backward_writing.write_text.Given as goal

abbrev pub invariant-loop-k : goal.invariant-loop-k
invariant-loop-k l =
    (length l.bytes ≡ length l.fn.bytes) × (l.start + l.k ≡ l.end) × (drop l.start l.bytes ≡ drop (length l.text - l.k) l.text ++ drop l.end l.fn.bytes)

-- The last k numbers are written, and there is room for the others.
use Rattle.std.proofs.Common.{◌≡◌, ◌+◌, ◌*◌, ◌-◌, ◌≤◌, ◌++◌, length, drop}
use Rattle.figure_text.specs.Text.{spaced_signed}
use Rattle.figure_text.proofs.backward_writing.write_integers.Given as goal

abbrev pub invariant-loop-k : goal.invariant-loop-k
invariant-loop-k l =
    (length l.bytes ≡ length l.fn.bytes) × (l.start ≤ l.end) × (l.end ≤ l.start + 12 * l.k) × (drop l.start l.bytes ≡ spaced_signed (drop (length l.list - l.k) l.list) ++ drop l.end l.fn.bytes)

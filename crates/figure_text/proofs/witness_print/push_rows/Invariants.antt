-- The lines before that of path p are written.
use Rattle.std.proofs.Common.{◌≡◌, ◌++◌, ◌+◌}
use Rattle.figure_text.specs.Text.{witness_lines}
use Rattle.figure_text.proofs.witness_print.push_rows.Given as goal

abbrev pub invariant-loop-p : goal.invariant-loop-p
invariant-loop-p l = l.out.items ≡ l.fn.out.items ++ witness_lines l.witness (l.p + 1)

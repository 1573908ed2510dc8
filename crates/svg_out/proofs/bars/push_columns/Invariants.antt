-- The edges before number i are appended.
use Rattle.std.proofs.Common.{◌≡◌, ◌++◌}
use Rattle.svg_out.specs.Svg.{column_marks}
use Rattle.svg_out.proofs.bars.push_columns.Given as goal

abbrev pub invariant-loop-i : goal.invariant-loop-i
invariant-loop-i l = l.out.items ≡ l.fn.out.items ++ column_marks l.edges l.bars l.height l.i

-- The bars before that of vertex v are appended.
use Rattle.std.proofs.Common.{◌≡◌, ◌++◌}
use Rattle.svg_out.specs.Svg.{bar_marks}
use Rattle.svg_out.proofs.bars.push_bars.Given as goal

abbrev pub invariant-loop-v : goal.invariant-loop-v
invariant-loop-v l = l.out.items ≡ l.fn.out.items ++ bar_marks l.bars l.height l.v

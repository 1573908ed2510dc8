-- The rectangles before that of vertex v are appended.
use Rattle.std.proofs.Common.{◌≡◌, ◌++◌}
use Rattle.svg_out.specs.Svg.{tiles}
use Rattle.svg_out.proofs.rects.push_tiles.Given as goal

abbrev pub invariant-loop-v : goal.invariant-loop-v
invariant-loop-v l = l.out.items ≡ l.fn.out.items ++ tiles l.rects l.height l.v

-- The vertices before number v are appended.
use Rattle.std.proofs.Common.{◌≡◌, ◌++◌, flat_map, take}
use Rattle.svg_out.specs.Svg.{dot}
use Rattle.svg_out.proofs.grid.push_dots.Given as goal

abbrev pub invariant-loop-v : goal.invariant-loop-v
invariant-loop-v l = l.out.items ≡ l.fn.out.items ++ flat_map (dot l.height) (take l.v l.points)

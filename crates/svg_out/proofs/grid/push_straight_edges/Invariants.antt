-- The edges before number k are appended.
use Rattle.std.proofs.Common.{◌≡◌, ◌++◌, flat_map, take}
use Rattle.svg_out.specs.Svg.{straight_edge}
use Rattle.svg_out.proofs.grid.push_straight_edges.Given as goal

abbrev pub invariant-loop-k : goal.invariant-loop-k
invariant-loop-k l = l.out.items ≡ l.fn.out.items ++ flat_map (straight_edge l.points l.height) (take l.k l.edges)

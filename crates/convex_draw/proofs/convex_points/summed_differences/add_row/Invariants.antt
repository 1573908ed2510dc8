use Rattle.convex_draw.specs.Sums.{AreAdded}
use Rattle.convex_draw.proofs.convex_points.summed_differences.add_row.Given as goal

abbrev pub invariant-loop-j : goal.invariant-loop-j
invariant-loop-j l = AreAdded l.row l.j l.fn.spots l.spots

use Rattle.convex_draw.specs.Spots.{AreLinked}
use Rattle.convex_draw.proofs.convex_points.spots.link.Given as goal

abbrev pub invariant-loop-j : goal.invariant-loop-j
invariant-loop-j l = AreLinked l.news l.j l.fn.spots l.spots

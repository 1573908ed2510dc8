use Rattle.std.proofs.Common.{◌≡◌, take}
use Rattle.plane_laws.specs.WithEdge.{with_edge_after}
use Rattle.plane_laws.proofs.edge_insertion.with_edge_after.Given as goal

abbrev pub invariant-loop-w : goal.invariant-loop-w
invariant-loop-w l = l.new ≡ take l.w (with_edge_after l.lists l.u l.a l.v l.c)

use Rattle.std.proofs.Common.{◌≡◌, ◌++◌, map, take, drop, slice_index}
use Rattle.bipolar.proofs.dual_orders.numbered_faces.lead_to_faces.Given as goal

abbrev pub invariant-loop-i : goal.invariant-loop-i
invariant-loop-i l = l.arcs ≡ map (λ d. slice_index l.of d) (take l.i l.initial.arcs) ++ drop l.i l.initial.arcs

-- A three-connected map of genus zero breaks no condition.
use Rattle.map_lists.specs.Lists.{Lists}
use Rattle.map_theory.specs.Maps.{IsPlane}
use Rattle.refusals.specs.declared.conditions.Refusal.{Refusal}
use Rattle.convex_peeling.specs.Polyhedral.{IsThreeConnected}
use Rattle.convex_class.specs.Convexity.{BreaksConvex}

-- Lists of a three-connected map of genus zero break no condition first.
abbrev pub ThreeConnectedBreakNothing : Type 0
ThreeConnectedBreakNothing = (lists : Lists) (refusal : Refusal) → IsThreeConnected lists → IsPlane lists → ¬ BreaksConvex lists refusal

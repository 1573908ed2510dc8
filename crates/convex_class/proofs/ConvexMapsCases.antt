-- Which condition lists break first, on a worked case.
use Rattle.std.specs.Prelude.{[], ◌∷◌, refl}
use Rattle.simple_maps.specs.Faults.{first_fault}
use Rattle.refusals.specs.declared.conditions.Refusal.TheVariants.{Small}
use Rattle.convex_class.specs.Convexity.{BreaksConvex}

-- a triangle has too few vertices
triangle : BreaksConvex ((1 ∷ 2 ∷ []) ∷ (2 ∷ 0 ∷ []) ∷ (0 ∷ 1 ∷ []) ∷ []) (Small 3)
unfolding first_fault
triangle = refl

-- Faces that meet in two vertices, on worked cases.
use Rattle.std.specs.Prelude.{[], ◌∷◌, refl}
use Rattle.std.proofs.Common.{arith, inl}
use Rattle.classes.specs.Classes.{merge}
use Rattle.map_lists.specs.Lists.{Lists}
use Rattle.map_theory.specs.Maps.{entry_after}
use Rattle.convex_peeling.specs.Polyhedral.{IsEdgeBetween}
use Rattle.convex_peeling.proofs.Meetings.{AreMetTwice}

abbrev square : Lists
square = (1 ∷ 3 ∷ []) ∷ (2 ∷ 0 ∷ []) ∷ (3 ∷ 1 ∷ []) ∷ (0 ∷ 2 ∷ []) ∷ []

-- the two faces of a square both pass opposite corners
opposite : AreMetTwice square 0 2 1 3 3 1
unfolding entry_after merge
opposite = grind arith

-- neighbouring corners are an edge between them
neighbours : IsEdgeBetween square (0, 1) (0, 3) 0 1
unfolding entry_after merge
neighbours = ((omega arith, (0, omega arith, refl)), inl (refl, refl))

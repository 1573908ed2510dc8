-- What the faces of a vertex pass, on a worked case.
use Rattle.std.specs.Prelude.{[], ◌∷◌, refl}
use Rattle.std.proofs.Common.{arith}
use Rattle.classes.specs.Classes.{merge}
use Rattle.map_lists.specs.Lists.{Lists}
use Rattle.map_theory.specs.Maps.{entry_after}
use Rattle.convex_class.specs.Passing.{IsPassed, IsTwiceSeen}

abbrev square : Lists
square = (1 ∷ 3 ∷ []) ∷ (2 ∷ 0 ∷ []) ∷ (3 ∷ 1 ∷ []) ∷ (0 ∷ 2 ∷ []) ∷ []

on_the_one : IsPassed square 0 1 2
unfolding entry_after merge
on_the_one = record { later = omega arith; next = 3; dart = (omega arith, (0, omega arith, refl)); other = λ e. omega (arith, e); face = refl }

on_the_other : IsPassed square 0 3 2
unfolding entry_after merge
on_the_other = record { later = omega arith; next = 1; dart = (omega arith, (1, omega arith, refl)); other = λ e. omega (arith, e); face = refl }

-- both faces of a corner of a square pass the opposite one
opposite : IsTwiceSeen square 0 2 2
opposite = (0, 1, omega arith, omega arith, on_the_one, on_the_other)

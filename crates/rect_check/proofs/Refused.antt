-- A verdict that a wrong body of the check would give: the clause refuses it.
use Rattle.std.proofs.Common.{[], ◌∷◌, refl, arith}
use Rattle.map_lists.specs.Lists.{Lists}
use Rattle.rect_check.specs.Verdicts.{IsRectVerdict}
use Rattle.rect_check.specs.declared.verdict.RectVerdict.TheVariants.{Yes}
use Rattle.rect_check.proofs.Cases.{framed_hub, left_and_right}

-- the wheel with an edge more inside, between the vertices at the left and at the right
abbrev chorded : Lists
chorded = (1 ∷ 2 ∷ 4 ∷ 3 ∷ []) ∷ (2 ∷ 4 ∷ 0 ∷ []) ∷ (3 ∷ 0 ∷ 4 ∷ 1 ∷ []) ∷ (0 ∷ 4 ∷ 2 ∷ []) ∷ (0 ∷ 1 ∷ 2 ∷ 3 ∷ []) ∷ []

-- contacts are not compared with edges: two vertices are adjacent, and their rectangles share no side
contacts_not_compared : ¬ IsRectVerdict chorded framed_hub Yes
contacts_not_compared w = left_and_right ((w.contacts 0 2 (omega arith) (omega arith)).1 (omega arith, (1, omega arith, refl)))

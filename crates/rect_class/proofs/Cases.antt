-- The definitions, run on small maps.
use Rattle.std.proofs.Common.{zero, suc, [], ◌∷◌, inr, ⊎_elim, refl, arith}
use Rattle.map_lists.specs.Lists.{Lists}
use Rattle.map_theory.specs.Maps.{entry_after}
use Rattle.plane_laws.specs.Laws.{IsTriangle}
use Rattle.rect_class.specs.RectMaps.{IsSeparating, HasInner}

-- a wheel of four spokes has an inner vertex
abbrev wheel : Lists
wheel = (1 ∷ 4 ∷ 3 ∷ []) ∷ (2 ∷ 4 ∷ 0 ∷ []) ∷ (3 ∷ 4 ∷ 1 ∷ []) ∷ (0 ∷ 4 ∷ 2 ∷ []) ∷ (0 ∷ 1 ∷ 2 ∷ 3 ∷ []) ∷ []

hub : HasInner wheel
unfolding entry_after
hub = (4, record { vertex = omega arith; not_first = λ e. omega (arith, e); not_top = λ e. omega (arith, e); not_right = λ e. omega (arith, e); not_bottom = λ e. omega (arith, e) })

-- beyond its rim is no triangle, and at a spoke there is one
spoke : IsTriangle wheel (4, 0)
unfolding entry_after
spoke = refl

-- two tetrahedra over one face: the triangle in which they meet, 0 1 2, separates
abbrev two_tops : Lists
two_tops = (1 ∷ 3 ∷ 2 ∷ 4 ∷ []) ∷ (2 ∷ 3 ∷ 0 ∷ 4 ∷ []) ∷ (0 ∷ 3 ∷ 1 ∷ 4 ∷ []) ∷ (0 ∷ 1 ∷ 2 ∷ []) ∷ (0 ∷ 2 ∷ 1 ∷ []) ∷ []

waist : IsSeparating two_tops 0 1 2
unfolding entry_after
waist = grind arith

-- with a vertex of one of them there is a face
side : ¬ IsSeparating two_tops 0 1 3
unfolding entry_after
side s = s.no_face (inr (record { dart = (omega arith, (2, omega arith, refl)); second = refl; third = refl; round = refl }))

-- a square with a diagonal has no inner vertex
abbrev pub square : Lists
square = (1 ∷ 2 ∷ 3 ∷ []) ∷ (2 ∷ 0 ∷ []) ∷ (3 ∷ 0 ∷ 1 ∷ []) ∷ (0 ∷ 2 ∷ []) ∷ []

pub no_inner : ¬ HasInner square
unfolding entry_after
no_inner (zero, i) = i.not_first refl
no_inner (suc zero, i) = i.not_top refl
no_inner (suc (suc zero), i) = i.not_right refl
no_inner (suc (suc (suc zero)), i) = i.not_bottom refl
no_inner (suc (suc (suc (suc v))), i) = let l = i.vertex in omega arith

-- An edge is crossed in one way.
use Rattle.std.proofs.Common.{◌≡◌, ◌≢◌, ℕ, ◌<◌, refl, sym, ap, ◌∙◌, subst, inl, inr, arith}
use Rattle.contour_runs.specs.Runs.{Step, Stage, stage_after, IsRun}
use Rattle.contour_runs.proofs.Stages.{IsStage-run, IsRun-less, IsCovered-own}
use Rattle.wood_runs.specs.Parents.{Colour, one, two, three, next, previous, IsParent, IsParentOne, IsParentTwo, IsParentThree}
use Rattle.wood_runs.proofs.ParentLemmas.{leads_away, differ}
use Rattle.wood_runs.proofs.Sides.{paths}
use Rattle.wood_runs.specs.Edges.{number}
use Rattle.wood_runs.proofs.Crossing.{root_at, Crosses, IsOuter, IsInside, IsCrossing, out, into, around, within}
use Rattle.wood_laws.proofs.ColourNumbers.{cases_colour, outer_same, outer_one_way}

module _ (steps : ℕ → Step) (n : ℕ) (run : IsRun steps n) (end : (stage_after steps n).width ≡ 3) (v : ℕ) where
  abbrev at : ℕ → Stage
  at k = stage_after steps k

  -- a vertex is not covered by one whose parent it is
  one_three : (a b : ℕ) → IsParentOne steps n a b → ¬ IsParentThree steps n b a
  one_three a b p q = grind (arith, IsCovered-own, IsStage-run, IsRun-less, within, at)

  two_three : (a b : ℕ) → IsParentTwo steps n a b → ¬ IsParentThree steps n b a
  two_three a b p q = grind (arith, IsCovered-own, IsStage-run, IsRun-less, at, within)

  not_both : (c d : Colour) (a b : ℕ) → IsParent c steps n a b → ¬ IsParent d steps n b a
  not_both one one a b p q = omega (arith, (leads_away steps n run a b one p).one_is_earlier refl, (leads_away steps n run b a one q).one_is_earlier refl)
  not_both one two a b p q = omega (arith, (leads_away steps n run a b one p).one_is_earlier refl, (leads_away steps n run b a two q).two_is_earlier refl)
  not_both one three a b p q = one_three a b p q
  not_both two one a b p q = omega (arith, (leads_away steps n run a b two p).two_is_earlier refl, (leads_away steps n run b a one q).one_is_earlier refl)
  not_both two two a b p q = omega (arith, (leads_away steps n run a b two p).two_is_earlier refl, (leads_away steps n run b a two q).two_is_earlier refl)
  not_both two three a b p q = two_three a b p q
  not_both three one a b p q = one_three b a q p
  not_both three two a b p q = two_three b a q p
  not_both three three a b p q = omega (arith, (leads_away steps n run a b three p).three_is_later refl, (leads_away steps n run b a three q).three_is_later refl)

  next_other : (c : Colour) → next c ≢ c
  next_other one e = cc
  next_other two e = cc
  next_other three e = cc

  previous_other : (c : Colour) → previous c ≢ c
  previous_other one e = cc
  previous_other two e = cc
  previous_other three e = cc

  -- one colour leads along an edge
  one_colour : (c d : Colour) (a b : ℕ) → IsParent c steps n a b → IsParent d steps n a b → d ≡ c
  one_colour c d a b p q = grind (arith, cases_colour, differ, next_other, previous_other)

  root_outside : (c : Colour) (a : ℕ) → a ≡ root_at n c → ¬ IsInside n a
  root_outside one a e i = let m = i.0 in omega arith
  root_outside two a e i = let m = i.0 in omega arith
  root_outside three a e i = let m = i.1 in omega arith

  pub outer_not_inside : (c : Colour) (a b : ℕ) → IsOuter n c a b → (¬ IsInside n a) × (¬ IsInside n b)
  outer_not_inside c a b o = (λ i. root_outside (previous c) a o.0 i, λ i. root_outside (next c) b o.1 i)

  pub kind_out : (c : Colour) (a b s s' : ℕ) → IsInside n a → IsParent c steps n a b → IsCrossing steps n v a b s s' → Crosses c (paths steps n c v a) s s'
  kind_out c a b s s' i p x7 = grind (arith, out, one_colour, Crosses, paths, into, not_both, around, outer_not_inside, within)

  pub kind_into : (c : Colour) (a b s s' : ℕ) → IsInside n b → IsParent c steps n b a → IsCrossing steps n v a b s s' → Crosses c (paths steps n c v b) s' s
  kind_into c a b s s' i p x7 = grind (arith, into, one_colour, Crosses, paths, out, not_both, around, outer_not_inside, within)

module _ (steps : ℕ → Step) (n : ℕ) (some : 0 < n) (v : ℕ) where
  root_off : (c : Colour) (a : ℕ) → a ≡ root_at n c → ¬ IsInside n a
  root_off one a e i = let m = i.0 in omega arith
  root_off two a e i = let m = i.0 in omega arith
  root_off three a e i = let m = i.1 in omega arith

  pub outer_kind : (c : Colour) (a b s s' : ℕ) → IsCrossing steps n v a b s s' → (IsOuter n c a b → (s ≡ 0) × (s' ≡ number c)) × (IsOuter n c b a → (s ≡ number c) × (s' ≡ 0))
  outer_kind c a b s s' x5 = grind (arith, out, root_off, previous, next, into, around, number, outer_same, outer_one_way, within)

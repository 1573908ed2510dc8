-- The order of edges round a vertex, at each corner of a face.
use Rattle.std.proofs.Common.{◌≡◌, ◌⊎◌, ℕ, zero, suc, ◌+◌, ◌<◌, ◌≤◌, refl, sym, ap, ◌∙◌, subst, inl, inr, arith}
use Rattle.std.proofs.lemmas.Bool.{cases_lt}
use Rattle.contour_runs.specs.Runs.{Step, Stage, stage_after, IsRun, IsFaceOf}
use Rattle.contour_runs.proofs.Stages.{IsStage-run, IsRun-less, count-stage_after}
use Rattle.contour_runs.specs.FaceRunsLaws.{GoesAlong}
use Rattle.contour_runs.proofs.Faces.{cases_along}
use Rattle.wood_runs.specs.Parents.{one, two, three, IsParent, out, into}
use Rattle.wood_runs.specs.Rules.{IsCorner, IsOrdered}
use Rattle.wood_runs.proofs.ParentLemmas.{IsParent-more}

module _ (steps : ℕ → Step) where
  abbrev at : ℕ → Stage
  at k = stage_after steps k

  -- an edge of the contour other than the base leads to the parent of colour one backwards, or to that of colour two forwards
  coloured : (n : ℕ) → IsRun steps n → (x y i : ℕ) → GoesAlong (at n) x y i → (2 ≤ x) ⊎ (2 ≤ y) → IsParent one steps n y x ⊎ IsParent two steps n x y
  coloured zero run x y i a some =
      absurd (elim some [ inl l ↦ omega arith | inr l ↦ omega arith ])
  coloured (suc n) run x y i a some =
      let less = IsRun-less steps n (suc n) (omega arith) run in
      let c = count-stage_after steps n in
      elim (cases_along (at n) (steps n) (IsStage-run steps n less) (run n (omega arith)) x y i a) [
        | inl b ↦ elim (coloured n less x y b.place b.along some) [ inl p ↦ inl (IsParent-more steps one n (suc n) y x (omega arith) p) | inr p ↦ inr (IsParent-more steps two n (suc n) x y (omega arith) p) ]
        | inr (inl b) ↦ inl record { step = n; earlier = omega arith; vertex = b.1 ∙ c; parent = sym b.0 }
        | inr (inr b) ↦ inr record { step = n; earlier = omega arith; vertex = b.0 ∙ c; parent = sym b.1 }
      ]

  module _ (n : ℕ) (run : IsRun steps n) (k i a b top : ℕ) (l : k < n) (f : IsFaceOf steps k i a b top) where
    abbrev s : Step
    s = steps k

    less : IsRun steps k
    less = IsRun-less steps k n (omega arith) run

    new : top ≡ k + 2
    new = sym f.new ∙ count-stage_after steps k

    along : GoesAlong (at k) a b i
    along = let w = (run k l).within in let h = f.high in record { within = omega arith; tail = f.left; head = f.right }

    -- the edge under the face
    under : (2 ≤ a) ⊎ (2 ≤ b) → IsParent one steps n b a ⊎ IsParent two steps n a b
    under some = elim (coloured k less a b i along some) [ inl p ↦ inl (IsParent-more steps one k n b a (omega arith) p) | inr p ↦ inr (IsParent-more steps two k n a b (omega arith) p) ]

    -- its other edges
    first_is : i ≡ s.first → IsParent one steps n top a
    first_is e = record { step = k; earlier = l; vertex = new; parent = ap (at k).vertex (sym e) ∙ f.left }

    last_is : suc i ≡ s.last → IsParent two steps n top b
    last_is e = record { step = k; earlier = l; vertex = new; parent = ap (at k).vertex (sym e) ∙ f.right }

    left_covered : s.first < i → IsParent three steps n a top
    left_covered m = record { step = k; earlier = l; covered = record { place = i; low = m; high = f.high; vertex = f.left }; parent = new }

    right_covered : suc i < s.last → IsParent three steps n b top
    right_covered m = let h = f.low in record { step = k; earlier = l; covered = record { place = suc i; low = omega arith; high = m; vertex = f.right }; parent = new }

    -- the edge from a to the new vertex, and that from b
    left_side : IsParent one steps n top a ⊎ IsParent three steps n a top
    left_side = let h = f.low in elim (cases_lt s.first i) [ inl m ↦ inr (left_covered m) | inr m ↦ inl (first_is (omega arith)) ]

    right_side : IsParent two steps n top b ⊎ IsParent three steps n b top
    right_side = let h = f.high in elim (cases_lt (suc i) s.last) [ inl m ↦ inr (right_covered m) | inr m ↦ inl (last_is (omega arith)) ]

    -- the three corners
    at_left : 2 ≤ a → IsOrdered steps n a b top
    at_left some = elim (under (inl some)) [
      | inl p ↦ elim left_side [
        | inl q ↦ record { first = into one; second = into one; first_end = p; second_end = q; follow = refl }
        | inr q ↦ record { first = into one; second = out three; first_end = p; second_end = q; follow = refl }
      ]
      | inr p ↦ elim left_side [
        | inl q ↦ record { first = out two; second = into one; first_end = p; second_end = q; follow = refl }
        | inr q ↦ record { first = out two; second = out three; first_end = p; second_end = q; follow = refl }
      ]
    ]

    at_right : 2 ≤ b → IsOrdered steps n b top a
    at_right some = elim (under (inr some)) [
      | inl p ↦ elim right_side [
        | inl q ↦ record { first = into two; second = out one; first_end = q; second_end = p; follow = refl }
        | inr q ↦ record { first = out three; second = out one; first_end = q; second_end = p; follow = refl }
      ]
      | inr p ↦ elim right_side [
        | inl q ↦ record { first = into two; second = into two; first_end = q; second_end = p; follow = refl }
        | inr q ↦ record { first = out three; second = into two; first_end = q; second_end = p; follow = refl }
      ]
    ]

    at_top : IsOrdered steps n top a b
    at_top = elim left_side [
      | inl p ↦ elim right_side [
        | inl q ↦ record { first = out one; second = out two; first_end = p; second_end = q; follow = refl }
        | inr q ↦ record { first = out one; second = into three; first_end = p; second_end = q; follow = refl }
      ]
      | inr p ↦ elim right_side [
        | inl q ↦ record { first = into three; second = out two; first_end = p; second_end = q; follow = refl }
        | inr q ↦ record { first = into three; second = into three; first_end = p; second_end = q; follow = refl }
      ]
    ]

  IsOrdered-at : (n v u w a b c : ℕ) → v ≡ a → u ≡ b → w ≡ c → IsOrdered steps n a b c → IsOrdered steps n v u w
  IsOrdered-at n v u w a b c ev eu ew h =
      subst (λ v. IsOrdered steps n v u w) (sym ev) (subst (λ u. IsOrdered steps n a u w) (sym eu) (subst (λ w. IsOrdered steps n a b w) (sym ew) h))

  pub corners_ordered : (n v u w : ℕ) → IsRun steps n → 2 ≤ v → IsCorner steps n v u w → IsOrdered steps n v u w
  corners_ordered n v u w run some c = grind (arith, IsOrdered-at, at_left, at_right, at_top)

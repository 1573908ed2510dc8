-- The kinds of darts of a run, with the signs of their differences.
use Rattle.std.proofs.Common.{◌≡◌, ℕ, suc, ◌+◌, ◌-◌, ◌<◌, ◌≤◌, refl, sym, ap, ◌∙◌, subst, inl, inr, arith}
use Rattle.std.proofs.lemmas.Bool.{cases_lt, cases_order}
use Rattle.contour_runs.specs.Runs.{Stage}
use Rattle.contour_runs.specs.Wood.{Coordinates}
use Rattle.contour_runs.specs.FaceRuns.{Step, stage_after, IsDartOf}
use Rattle.contour_runs.specs.FaceRunsLaws.{GoesAlong}
use Rattle.convex_counts.specs.Counts.{face_counts}
use Rattle.convex_counts.proofs.Kept.{AreOnFirst, AreOnSecond, IsFirstSecond, IsSecondThird, IsThirdFirst}
use Rattle.convex_counts.specs.FacePointsLaws.{IsWholeRun}
use Rattle.convex_counts.proofs.Steps.{IsFalling-run}
use Rattle.convex_counts.proofs.Corners.{some_faces}
use Rattle.convex_counts.proofs.FacePointsSides.{on_first, on_second, on_third, first_second, second_third, third_first}
use Rattle.convex_counts.proofs.Apart.{new_apart}
use Rattle.convex_counts.specs.Rising.{IsDart}
use Rattle.convex_counts.proofs.Ends.{two_at_first, one_at_last}

-- x and y are new neighbours, y the one before
pub record AreApart (at : Coordinates) (x y : ℕ) : Type 0 where
  pub one : at.one x < at.one y
  pub sum : at.one y + at.two y ≡ at.one x + at.two x

module _ (steps : ℕ → Step) (n : ℕ) (whole : IsWholeRun steps n) where
  abbrev at : Coordinates
  at = face_counts steps n

  -- a dart of face i of the step k
  pub data IsKind (k i x y : ℕ) : Type 0 where
    first : (p : ℕ) → (steps k).cut i ≤ p → p < (steps k).turn i → (stage_after steps k).vertex p ≡ x → (stage_after steps k).vertex (suc p) ≡ y → AreOnFirst at x y → IsKind k i x y
    turn : (p : ℕ) → p ≡ (steps k).turn i → (stage_after steps k).vertex p ≡ x → (stage_after steps k).vertex (suc p) ≡ y → IsFirstSecond at x y → IsKind k i x y
    second : (p : ℕ) → (steps k).turn i < p → p < (steps k).cut (suc i) → (stage_after steps k).vertex p ≡ x → (stage_after steps k).vertex (suc p) ≡ y → AreOnSecond at x y → IsKind k i x y
    up_last : suc i ≡ (steps k).faces → (stage_after steps k).vertex (steps k).last ≡ x → (stage_after steps k).count + (steps k).vertices ≡ suc y → IsSecondThird at x y → at.one x ≤ at.one y → IsKind k i x y
    up_middle : suc i < (steps k).faces → (stage_after steps k).vertex ((steps k).cut (suc i)) ≡ x → y ≡ (stage_after steps k).count → IsSecondThird at x y → IsThirdFirst at y x → IsKind k i x y
    across : (stage_after steps k).count ≤ y → suc y ≡ x → x < (stage_after steps k).count + (steps k).vertices → AreApart at x y → IsKind k i x y
    down_first : i ≡ 0 → x ≡ (stage_after steps k).count → (stage_after steps k).vertex (steps k).first ≡ y → IsThirdFirst at x y → at.two y ≤ at.two x → IsKind k i x y
    down_middle : 0 < i → x ≡ (stage_after steps k).count → (stage_after steps k).vertex ((steps k).cut i) ≡ y → IsThirdFirst at x y → IsSecondThird at y x → IsKind k i x y

  IsKind-at : (k i x y x' y' : ℕ) → x ≡ x' → y ≡ y' → IsKind k i x y → IsKind k i x' y'
  IsKind-at k i x y x' y' ex ey h = subst (λ x. IsKind k i x y') ex (subst (IsKind k i x) ey h)

  module _ (k i : ℕ) (lk : k < n) (li : i < (steps k).faces) where
    abbrev g : Stage
    g = stage_after steps k

    abbrev s : Step
    s = steps k

    pub along_kind : (j : ℕ) → s.cut i ≤ j → j < s.cut (suc i) → IsKind k i (g.vertex j) (g.vertex (suc j))
    along_kind j a b = elim (cases_order j (s.turn i)) [
      | inl e ↦ turn j e refl refl (first_second steps n whole.turned k i lk li j (suc j) a (omega arith) (omega arith) (omega arith))
      | inr (inl before) ↦ first j a before refl refl (on_first steps n whole.turned k i lk li j (suc j) a (omega arith) (omega arith))
      | inr (inr behind) ↦ second j behind b refl refl (on_second steps n whole.turned k i lk li j (suc j) behind (omega arith) (omega arith))
    ]

    pub up_kind : (y : ℕ) → g.count + s.vertices ≡ suc y → IsKind k i (g.vertex (s.cut (suc i))) y
    up_kind y e =
        let step = whole.turned.run k lk in
        let h = second_third steps n whole.turned k i lk li (s.cut (suc i)) y (step.high i li) (omega arith) (omega arith) (omega arith) in
        grind (arith, cases_lt, third_first, IsKind-at, IsSecondThird, at, one_at_last)

    pub across_kind : (y : ℕ) → g.count ≤ y → suc y < g.count + s.vertices → IsKind k i (suc y) y
    across_kind y a b =
        let t = on_third steps n whole.turned k i lk li (suc y) y a (omega arith) b in
        across a refl b record { one = (new_apart steps n k y whole lk a b); sum = t.sum }

    pub down_kind : IsKind k i g.count (g.vertex (s.cut i))
    down_kind =
        let step = whole.turned.run k lk in
        let h = third_first steps n whole.turned k i lk li g.count (s.cut i) (omega arith) (omega arith) (omega arith) (step.low i li) in
        elim (cases_lt 0 i) [
          | inl more ↦
              let j : ℕ = i - 1 in
              let e : suc j ≡ i = omega arith in
              let m = step.high j (omega arith) in
              let c = ap s.cut e in
              down_middle more refl refl h (second_third steps n whole.turned k j lk (omega arith) (s.cut i) g.count (omega arith) (omega arith) (omega arith) (omega arith))
          | inr none ↦ grind (arith, IsKind-at, IsThirdFirst, at, two_at_first)
        ]

  pub kind_of : (k i x y : ℕ) → k < n → IsDartOf (stage_after steps k) (steps k) i x y → IsKind k i x y
  kind_of k i x y lk d =
      let li = d.within in
      elim d.dart [
        | inl a ↦ IsKind-at k i _ _ x y a.tail a.head (along_kind k i lk li a.place a.low a.high)
        | inr (inl a) ↦ IsKind-at k i _ _ x y a.tail refl (up_kind k i lk li y a.head)
        | inr (inr (inl a)) ↦ IsKind-at k i _ _ x y a.next refl (across_kind k i lk li y a.low (let h = a.high in let e = a.next in omega arith))
        | inr (inr (inr a)) ↦ IsKind-at k i _ _ x y (sym (sym a.tail)) a.head (down_kind k i lk li)
      ]

  -- a dart of the run at large
  pub data IsAnyKind (x y : ℕ) : Type 0 where
    made : (k i : ℕ) → k < n → i < (steps k).faces → IsKind k i x y → IsAnyKind x y
    right : (p : ℕ) → p < whole.top → GoesAlong (stage_after steps n) x y p → AreOnSecond at x y → IsAnyKind x y
    left : (p : ℕ) → whole.top ≤ p → GoesAlong (stage_after steps n) x y p → AreOnFirst at x y → IsAnyKind x y
    base : x ≡ 1 → y ≡ 0 → AreApart at x y → IsAnyKind x y

  pub base_apart : 0 < n → AreApart at 1 0
  base_apart some = grind (arith, IsFalling-run, some_faces)

  pub right_pair : (p x y : ℕ) → p < whole.top → GoesAlong (stage_after steps n) x y p → AreOnSecond at x y
  right_pair p x y l a =
      let r = whole.right p l in
      subst (λ x. AreOnSecond at x y) a.tail (subst (AreOnSecond at ((stage_after steps n).vertex p)) a.head record { one = r.one; two = r.two })

  pub left_pair : (p x y : ℕ) → whole.top ≤ p → GoesAlong (stage_after steps n) x y p → AreOnFirst at x y
  left_pair p x y l a =
      let r = whole.left p l a.within in
      subst (λ x. AreOnFirst at x y) a.tail (subst (AreOnFirst at ((stage_after steps n).vertex p)) a.head record { one = r.one; two = r.two })

  pub any_kind : (x y : ℕ) → 0 < n → IsDart steps n x y → IsAnyKind x y
  any_kind x y some d = elim d [
    | inl m ↦ made m.0 m.1 m.2 m.3.within (kind_of m.0 m.1 x y m.2 m.3)
    | inr (inl a) ↦ elim (cases_lt a.0 whole.top) [ inl l ↦ right a.0 l a.1 (right_pair a.0 x y l a.1) | inr l ↦ left a.0 l a.1 (left_pair a.0 x y l a.1) ]
    | inr (inr b) ↦ base b.0 b.1 (subst (λ x. AreApart at x y) (sym b.0) (subst (AreApart at 1) (sym b.1) (base_apart some)))
  ]

-- The faces of a removal: each has a part of the new contour for its own, and those of a single vertex pass it.
use Rattle.std.proofs.Common.{◌≡◌, ◌≢◌, ℕ, zero, suc, ◌+◌, ◌-◌, ◌<◌, ◌≤◌, Bool, sym, ap, ◌∙◌, subst, inl, inr, arith}
use Rattle.std.proofs.lemmas.Bool.{cases_Bool, cases_eq, cases_lt}
use Rattle.map_lists.specs.Lists.{Lists}
use Rattle.map_theory.specs.Maps.{HasDart, IsSimpleMap, follows}
use Rattle.map_theory.proofs.DartLemmas.{HasDart-follows}
use Rattle.convex_peeling.specs.Contours.{face_of, Passes, IsContour}
use Rattle.convex_peeling.specs.Removals.{Removal, IsTakenOff}
use Rattle.convex_peeling.proofs.Faces.{face_of-step}
use Rattle.convex_peeling.proofs.Removed.{gone_within, gone_from}

module _ (lists : Lists) (alive : ℕ → Bool) (w : ℕ → ℕ) (r : ℕ) (o : Removal) (simple : IsSimpleMap lists) (contour : IsContour lists alive w r) (off : IsTakenOff lists alive w r o) (next : IsContour lists o.alive o.contour o.places) where
  -- cuts rise
  pub cut_mono : (i j : ℕ) → i ≤ j → j ≤ o.faces → o.cut i ≤ o.cut j
  cut_mono i zero l m = let z : i ≡ 0 = omega arith in omega (arith, ap o.cut z)
  cut_mono i (suc j) l m =
      elim (cases_eq i (suc j)) [
        | inl e ↦ omega (arith, ap o.cut e)
        | inr ne ↦ (let h = cut_mono i j (omega arith) (omega arith) in let s = off.rises j m in omega arith)
      ]

  pub cut_low : (i : ℕ) → i ≤ o.faces → o.first ≤ o.cut i
  cut_low i l = let h = cut_mono 0 i (omega arith) l in let b = off.begin in omega arith

  pub cut_high : (i : ℕ) → i ≤ o.faces → o.cut i ≤ o.last
  cut_high i l = let h = cut_mono i o.faces l (omega arith) in let e = off.end in omega arith

  -- two parts between cuts are apart
  pub one_part : (i j p : ℕ) → i < o.faces → j < o.faces → o.cut i ≤ p → p < o.cut (suc i) → o.cut j ≤ p → p < o.cut (suc j) → i ≡ j
  one_part i j p l m a b c e =
      elim (cases_lt i j) [
        | inl less ↦ (let h = cut_mono (suc i) j (omega arith) (omega arith) in absurd (omega arith))
        | inr most ↦ elim (cases_lt j i) [
          | inl less ↦ (let h = cut_mono (suc j) i (omega arith) (omega arith) in absurd (omega arith))
          | inr most' ↦ omega arith
        ]
      ]

  -- the new contour has none of the vertices that go
  not_goer : (p q : ℕ) → p ≤ o.places → q < o.vertices → o.contour p ≢ w (suc (o.first + q))
  not_goer p q l m = gone_from lists alive w r o off contour q p m l

  pub not_first_goer : (p : ℕ) → p ≤ o.places → o.contour p ≢ w (suc o.first)
  not_first_goer p l e = let some = off.some_vertex in let z : suc o.first ≡ suc (o.first + 0) = omega arith in not_goer p 0 l some (e ∙ ap w z)

  pub not_last_goer : (p : ℕ) → p ≤ o.places → o.contour p ≢ w (o.first + o.vertices)
  not_last_goer p l e =
      let q : ℕ = o.vertices - 1 in
      let z : o.first + o.vertices ≡ suc (o.first + q) = omega arith in
      not_goer p q l (omega arith) (e ∙ ap w z)

  -- a dart along the new contour is no dart of the old one
  not_old : (p k : ℕ) → o.first ≤ p → p < o.last → k ≤ r → w k ≡ o.contour p → w (suc k) ≢ o.contour (suc p)
  not_old p k low high l e e' =
      elim (cases_lt o.first p) [
        | inl far ↦ off.fresh p k far high l (sym e)
        | inr near ↦
            let p_is : p ≡ o.first = omega arith in
            let k_is : k ≡ o.first = contour.distinct k o.first l (omega arith) (e ∙ (ap o.contour p_is ∙ off.before o.first (omega arith))) in
            elim (cases_lt (suc p) o.last) [
              | inl inside ↦ off.fresh (suc p) (suc k) (omega arith) inside (omega arith) (sym e')
              | inr end ↦
                  let z : suc p ≡ o.last + 0 = omega arith in
                  let at : suc k ≡ o.first + o.vertices + 1 + 0 = contour.distinct (suc k) (o.first + o.vertices + 1 + 0) (omega arith) (omega arith) (e' ∙ (ap o.contour z ∙ off.behind 0)) in
                  omega arith
            ]
      ]

  -- the faces along the new contour are the removed ones
  pub made_along : (i p : ℕ) → i < o.faces → o.cut i ≤ p → p < o.cut (suc i) → face_of lists (o.contour p) (o.contour (suc p)) ≡ o.made i
  made_along i p l low high =
      let x = o.contour p in
      let y = o.contour (suc p) in
      let first = cut_low i (omega arith) in
      let last = cut_high (suc i) l in
      let rim = next.edge p (omega arith) in
      let face = face_of lists x y in
      elim (cases_Bool (alive face)) [
        | inr dead ↦
            let found = contour.only x y (record { dart = rim.dart; outside = dead; inside = off.still (face_of lists y x) rim.inside }) in
            absurd (not_old p found.0 (omega arith) (omega arith) found.1 found.2 found.3)
        | inl live ↦
            let gone = off.gone face live rim.outside in
            let same : gone.0 ≡ i = elim (off.darts gone.0 x y gone.1 rim.dart gone.2) [
              | inl a ↦
                  let top = cut_high (suc gone.0) gone.1 in
                  let q : a.0 ≡ p = next.distinct a.0 p (omega arith) (omega arith) a.3 in
                  one_part gone.0 i p gone.1 l (omega arith) (omega arith) low high
              | inr (inl a) ↦ absurd (not_last_goer (suc p) (omega arith) a.1)
              | inr (inr (inl a)) ↦ (let a1 = a.1 in let q : ℕ = a.0 in absurd (not_goer p q (omega arith) a.2 a.3))
              | inr (inr (inr a)) ↦ absurd (not_first_goer p (omega arith) a.0)
            ] in
            gone.2 ∙ ap o.made same
      ]

  -- no face is removed twice
  pub made_once : (i j : ℕ) → i < o.faces → j < o.faces → o.made i ≡ o.made j → i ≡ j
  made_once i j l m e =
      let p = o.cut i in
      let s = off.rises i l in
      let top = cut_high (suc i) l in
      elim (off.darts j (o.contour p) (o.contour (suc p)) m (next.edge p (omega arith)).dart ((made_along i p l (omega arith) s) ∙ e)) [
        | inl a ↦
            let top' = cut_high (suc j) m in
            let q : a.0 ≡ p = next.distinct a.0 p (omega arith) (omega arith) a.3 in
            one_part i j p l m (omega arith) s (omega arith) (omega arith)
        | inr (inl a) ↦ absurd (not_last_goer (suc p) (omega arith) a.1)
        | inr (inr (inl a)) ↦ absurd (not_goer p a.0 (omega arith) a.2 a.3)
        | inr (inr (inr a)) ↦ absurd (not_first_goer p (omega arith) a.0)
      ]

  -- where one vertex goes, its faces do
  pub made_passes : o.vertices ≡ 1 → (i : ℕ) → i < o.faces → Passes lists (o.made i) (w (suc o.first))
  made_passes one i l =
      let s = off.rises i l in
      let top = cut_high (suc i) l in
      let p : ℕ = o.cut (suc i) - 1 in
      let x = o.contour p in
      let y = o.contour (suc p) in
      let rim = next.edge p (omega arith) in
      let z = follows lists y x in
      let has = HasDart-follows lists y x (simple.both_ways x y rim.dart) in
      let on : face_of lists y z ≡ o.made i = face_of-step lists simple x y rim.dart ∙ (made_along i p l (omega arith) (omega arith)) in
      elim (off.darts i y z l has on) [
        | inl a ↦
            absurd (omega (arith, next.distinct a.0 (suc p) (omega arith) (omega arith) a.3))
        | inr (inl a) ↦
            let v : z ≡ w (suc o.first) = a.1 ∙ (let n : o.first + o.vertices ≡ suc o.first = omega arith in ap w n) in
            let has' = HasDart-follows lists z y (simple.both_ways y z has) in
            (follows lists z y, subst (λ t. HasDart lists t (follows lists z y)) v has', ap (λ t. face_of lists t (follows lists z y)) (sym v) ∙ (face_of-step lists simple y z has ∙ on))
        | inr (inr (inl a)) ↦ (let a1 = a.1 in let a2 = a.2 in absurd (omega arith))
        | inr (inr (inr a)) ↦ absurd (not_first_goer (suc p) (omega arith) a.0)
      ]

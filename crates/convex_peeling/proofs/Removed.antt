-- What a removal leaves of the contour, and of what holds of it.
use Rattle.std.proofs.Common.{◌≡◌, ◌≢◌, ℕ, zero, suc, ◌+◌, ◌-◌, ◌<◌, ◌≤◌, Bool, false, sym, ap, ap₂, ◌∙◌, subst, inl, inr, arith}
use Rattle.std.proofs.lemmas.Bool.{cases_Bool, cases_lt, true≢false}
use Rattle.map_lists.specs.Lists.{Lists}
use Rattle.map_theory.specs.Maps.{HasDart}
use Rattle.convex_peeling.specs.Contours.{face_of, IsContour, IsBegun}
use Rattle.convex_peeling.specs.Removals.{Removal, IsTakenOff}

module _ (lists : Lists) (alive : ℕ → Bool) (w : ℕ → ℕ) (r : ℕ) (o : Removal) (off : IsTakenOff lists alive w r o) where
  -- the vertices that go stand on the contour
  pub gone_within : o.first + o.vertices + 1 ≤ r
  gone_within = let a = off.within in let b = off.width in omega arith

  pub first_lt : o.first < o.last
  first_lt = let a = off.begin in let b = off.end in let c = off.some_face in let d = cut-le o.faces c (omega arith) in omega arith
    where
      cut-le : (i : ℕ) → 0 < i → i ≤ o.faces → o.cut 0 < o.cut i
      cut-le zero l m = absurd (omega arith)
      cut-le (suc i) l m =
          let s = off.rises i m in
          elim (cases_lt 0 i) [
            | inl some ↦ let h = cut-le i some (omega arith) in omega arith
            | inr none ↦ let z : i ≡ 0 = omega arith in let e = ap o.cut z in omega arith
          ]

  -- what is taken off stays so
  pub stays_dead : (x : ℕ) → alive x ≡ false → o.alive x ≡ false
  stays_dead x f = elim (cases_Bool (o.alive x)) [ inr g ↦ g | inl t ↦ absurd (true≢false (sym (off.still x t) ∙ f)) ]

  -- the contour ends as before
  pub ends_as_before : o.contour o.places ≡ w r
  ends_as_before =
      let q : ℕ = r - (o.first + o.vertices + 1) in
      let z : o.places ≡ o.last + q = omega arith in
      let z' : o.first + o.vertices + 1 + q ≡ r = omega arith in
      ap o.contour z ∙ (off.behind q ∙ ap w z')

  pub begins_as_before : o.contour 0 ≡ w 0
  begins_as_before = off.before 0 (omega arith)

  -- no vertex that goes is left on the contour
  pub gone_from : IsContour lists alive w r → (q p : ℕ) → q < o.vertices → p ≤ o.places → o.contour p ≢ w (suc (o.first + q))
  gone_from contour q p l m e =
      elim (cases_lt o.first p) [
        | inr low ↦ let z : p ≡ suc (o.first + q) = contour.distinct p (suc (o.first + q)) (omega arith) (omega arith) (sym (off.before p low) ∙ e) in omega arith
        | inl far ↦ elim (cases_lt p o.last) [
          | inl between ↦ off.fresh p (suc (o.first + q)) far between (omega arith) e
          | inr high ↦
              let s : ℕ = p - o.last in
              let z : p ≡ o.last + s = omega arith in
              let n : ℕ = o.first + o.vertices + 1 + s in
              omega (arith, contour.distinct n (suc (o.first + q)) (omega arith) (omega arith) (sym (ap o.contour z ∙ off.behind s) ∙ e))
        ]
      ]

  -- once begun, the removals go on
  pub goes_on_begun : IsBegun lists alive w r → IsBegun lists o.alive o.contour o.places
  goes_on_begun b = grind (arith, ends_as_before, begins_as_before, HasDart, face_of, ap₂, stays_dead)

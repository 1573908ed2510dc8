-- Whether all edges along the contour are of the face inside of the base, by the count of its number.
use Rattle.std.proofs.Common.{◌≡◌, ◌≢◌, ℕ, zero, suc, ◌+◌, ◌<◌, Bool, true, false, eqb, eqb-true, eq-eqb, List, [], ◌∷◌, length, slice_index, refl, sym, ap, ◌∙◌, inl, inr, arith}
use Rattle.std.specs.Prelude.{if◌then◌else◌}
use Rattle.std.proofs.lemmas.Bool.{cases_Bool, cases_eq, true≢false}
use Rattle.std.proofs.lemmas.List.{append-nil}
use Rattle.classes.specs.Classes.{count_below}
use Rattle.classes.proofs.Counting.{count_below-le}
use Rattle.map_lists.specs.Lists.{Lists}
use Rattle.convex_orders.specs.FaceNumbers.{entry}
use Rattle.convex_orders.specs.Contours.{contour_of, inner_number}
use Rattle.convex_orders.specs.Counts.{AreCounts}
use Rattle.convex_orders.specs.Standing.{HasOther, AllInner}

-- where the count is all, all pass the test
all_pass : (p : ℕ → Bool) (n : ℕ) → count_below p n ≡ n → (i : ℕ) → i < n → p i ≡ true
all_pass p zero e i l = absurd (omega arith)
all_pass p (suc n) e i l =
    elim (cases_Bool (p n)) [
      | inl t ↦ elim (cases_eq i n) [
        | inl z ↦ ap p z ∙ t
        | inr ne ↦ all_pass p n (omega (arith, e, ap {B = ℕ} (λ b. if b then 1 else 0) t)) i (omega arith)
      ]
      | inr f ↦ absurd (omega (arith, e, count_below-le p n, ap {B = ℕ} (λ b. if b then 1 else 0) f))
    ]

-- where it is not, some does not
some_fails : (p : ℕ → Bool) (n : ℕ) → count_below p n ≢ n → (i : ℕ) × (i < n) × (p i ≡ false)
some_fails p zero ne = absurd (ne refl)
some_fails p (suc n) ne =
    elim (cases_Bool (p n)) [
      | inr f ↦ (n, omega arith, f)
      | inl t ↦
          let h = some_fails p n (λ e. ne (omega (arith, e, ap {B = ℕ} (λ b. if b then 1 else 0) t))) in
          (h.0, omega arith, h.2)
    ]

module _ (lists own : Lists) (count : ℕ) (ws places edges : List ℕ) (s d base : ℕ) (counts : AreCounts lists own count ws places edges) (base_is : base ≡ entry lists own d s) (base_in : base < count) (r : ℕ) (long : suc r ≡ length ws) where
  pub all_inner : slice_index edges base + 1 ≡ length ws → AllInner lists own s d ws
  all_inner e i l =
      let z : suc i ≡ i + 1 = omega arith in
      let full = counts.edges_are base r base_in long in
      let t = all_pass (λ k. eqb (inner_number lists own ws k) base) r (omega arith) i (omega arith) in
      ap (λ k. entry lists own (slice_index ws k) (slice_index ws i)) (sym z) ∙ (eqb-true (inner_number lists own ws i) base t ∙ base_is)

  pub some_other : slice_index edges base + 1 ≢ length ws → HasOther lists own s d ws
  some_other ne =
      let full = counts.edges_are base r base_in long in
      let h = some_fails (λ k. eqb (inner_number lists own ws k) base) r (λ e. ne (omega arith)) in
      let i = h.0 in
      let z : i + 1 ≡ suc i = omega arith in
      (i, omega arith, λ e. true≢false (sym (eq-eqb (inner_number lists own ws i) base (ap (λ k. entry lists own (slice_index ws k) (slice_index ws i)) (sym z) ∙ (e ∙ sym base_is))) ∙ h.2))

-- nothing stands behind the place
pub contour_all : (left right : List ℕ) → length right ≡ 0 → contour_of left right ≡ left
contour_all left [] e = append-nil left
contour_all left (x ∷ right) e = absurd (omega arith)

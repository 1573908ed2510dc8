-- One stretch by counts: a stretch begins at a place that is passed and comes behind no edge of the face, and places are as many as edges and beginnings.
use Rattle.std.proofs.Common.{◌≡◌, ◌≢◌, ◌&&◌, ℕ, zero, suc, ◌+◌, ◌<◌, ◌≤◌, Bool, true, false, not, eqb, refl, sym, ap, ◌∙◌, subst, inl, inr, arith, eqb-true, eq-eqb}
use Rattle.std.proofs.lemmas.Bool.{cases_Bool, cases_eq, cases_lt, true≢false, and_parts, and_from, not-true}
use Rattle.classes.specs.Classes.{count_below}
use Rattle.classes.proofs.Counting.{one_if, count_below_none, count_below_more, count_below_into}
use Rattle.convex_peeling.specs.Contours.{face_of, Passes, IsContour, IsStretch}
use Rattle.convex_peeling.proofs.Faces.{first_or_none}
use Rattle.convex_peeling.proofs.Sections.{cases_is}
use Rattle.convex_peeling.proofs.ChainsOff.{edge_passes, two_cuts}
use Rattle.std.specs.Prelude.{◌↔◌, ◌==◌}
use Rattle.map_lists.specs.Lists.{Lists}
use Rattle.map_theory.specs.Maps.{IsSimpleMap}

module _ (passed own : ℕ → Bool) (r : ℕ) (ends : (i : ℕ) → i < r → own i ≡ true → (passed i ≡ true) × (passed (suc i) ≡ true)) where
  -- an edge of the face comes before a place
  abbrev behind : ℕ → Bool
  behind zero = false
  behind (suc i) = own i

  -- a stretch begins
  abbrev begins : ℕ → Bool
  begins i = passed i && not (behind i)

  begins-from : (i : ℕ) → passed i ≡ true → behind i ≡ false → begins i ≡ true
  begins-from i p f = and_from (passed i) (not (behind i)) p (ap not f)

  begins-is : (i : ℕ) → begins i ≡ true → (passed i ≡ true) × (behind i ≡ false)
  begins-is i t = let a = and_parts (passed i) (not (behind i)) t in (a.0, not-true (behind i) a.1)

  here : (a b : Bool) → (b ≡ true → a ≡ true) → one_if a ≡ one_if b + one_if (a && not b)
  here x0 x1 h = grind (arith, true≢false)

  -- places are as many as edges and beginnings
  counts : (n : ℕ) → n ≤ r → count_below passed (suc n) ≡ count_below own n + count_below begins (suc n)
  counts zero l = let h = here (passed 0) false (λ e. absurd (true≢false (sym e))) in omega (arith, h)
  counts (suc n) l =
      omega (arith, counts n (omega arith), here (passed (suc n)) (own n) (λ t. (ends n l t).1))

  -- below a place that is passed a stretch begins, and behind a place whose edge is another's
  begun : (x : ℕ) → x ≤ r → passed x ≡ true → (y : ℕ) × (y ≤ x) × (begins y ≡ true)
  begun zero l p = (0, omega arith, begins-from 0 p refl)
  begun (suc x) l p =
      elim (cases_Bool (own x)) [
        | inr f ↦ (suc x, omega arith, begins-from (suc x) p f)
        | inl t ↦ (let at = begun x (omega arith) (ends x l t).0 in let m = at.1 in (at.0, omega arith, at.2))
      ]

  begun_behind : (i x : ℕ) → own i ≡ false → i < x → x ≤ r → passed x ≡ true → (y : ℕ) × (i < y) × (y ≤ x) × (begins y ≡ true)
  begun_behind i zero none l m p = absurd (omega arith)
  begun_behind i (suc x) none l m p =
      elim (cases_Bool (own x)) [
        | inr f ↦ (suc x, l, omega arith, begins-from (suc x) p f)
        | inl t ↦
            let ne : i ≢ x = λ e. true≢false (sym t ∙ (ap own (sym e) ∙ none)) in
            let at = begun_behind i x none (omega arith) (omega arith) (ends x m t).0 in
            (at.0, at.1, omega arith, at.3)
      ]

  -- one beginning, and no edge of another between two places
  abbrev pub AllOwn : Type 0
  AllOwn = (a i b : ℕ) → a ≤ i → i < b → b ≤ r → passed a ≡ true → passed b ≡ true → own i ≡ true

  pub own_from_counts : count_below passed (suc r) ≡ count_below own r + 1 → AllOwn
  own_from_counts e a i b l m k at_a at_b =
      elim (cases_Bool (own i)) [
        | inl t ↦ t
        | inr f ↦
            let one = begun a (omega arith) at_a in
            let two = begun_behind i b f m k at_b in
            let P : ℕ → Type 0 = λ t. (two_cuts one.0 two.0 t < suc r) × (begins (two_cuts one.0 two.0 t) ≡ true) in
            let into = count_below_into (two_cuts one.0 two.0) (λ t. true) begins 2 (suc r)
            (λ t n q. elim (cases_eq t 0) [
              | inl z ↦ subst P (sym z) (omega arith, one.2)
              | inr nz ↦ (let z : t ≡ 1 = omega arith in subst P (sym z) (omega arith, two.3))
            ])
            (λ s t n n' q q' same. elim (cases_eq s 0) [
              | inl z ↦ grind (arith, cases_eq, two_cuts)
              | inr nz ↦ (let z : s ≡ 1 = omega arith in elim (cases_eq t 0) [
                | inl z' ↦ (let e' : two.0 ≡ one.0 = sym (ap (two_cuts one.0 two.0) z) ∙ (same ∙ ap (two_cuts one.0 two.0) z') in absurd (omega arith))
                | inr nz' ↦ (let z' : t ≡ 1 = omega arith in z ∙ sym z')
              ])
            ]) in
            absurd (omega (arith, into, counts r (omega arith), e))
      ]

  pub counts_from_own : (p : ℕ) → p ≤ r → passed p ≡ true → AllOwn → count_below passed (suc r) ≡ count_below own r + 1
  counts_from_own p l at own_all =
      elim (first_or_none (λ i. passed i ≡ true) (suc r) (λ i m. cases_is (passed i) true)) [
        | inr none ↦ absurd (none p (omega arith) at)
        | inl found ↦
            let a = found.0 in
            let others : (i : ℕ) → i < suc r → i ≢ a → false ≡ begins i = λ i m ne. elim (cases_Bool (begins i)) [
              | inr f ↦ sym f
              | inl t ↦
                  let is = begins-is i t in
                  let low : a ≤ i = elim (cases_lt i a) [ inl less ↦ absurd (found.3 i less is.0) | inr more ↦ more ] in
                  absurd (true≢false (sym (edge_before a i (omega arith) (omega arith) found.2 is.0) ∙ is.1))
            ] in
            let one = count_below_more (λ i. false) begins (suc r) a found.1 refl (begins-from a found.2 (no_edge a found.1 found.3)) others in
            omega (arith, counts r (omega arith), one, count_below_none (suc r))
      ]
    where
      no_edge : (a : ℕ) → a < suc r → ((j : ℕ) → j < a → ¬ (passed j ≡ true)) → behind a ≡ false
      no_edge zero m least = refl
      no_edge (suc a) m least = elim (cases_Bool (own a)) [ inr f ↦ f | inl t ↦ absurd (least a (omega arith) (ends a (omega arith) t).0) ]

      edge_before : (a i : ℕ) → a < i → i ≤ r → passed a ≡ true → passed i ≡ true → behind i ≡ true
      edge_before a zero m n at_a at_i = absurd (omega arith)
      edge_before a (suc i) m n at_a at_i = own_all a i (suc i) (omega arith) (omega arith) n at_a at_i

-- A face that passes some place meets the contour in one stretch exactly where it passes one place more than the contour has edges of its own, the base not counted.
pub stretch_by_counts_law : (lists : Lists) (alive : ℕ → Bool) (w : ℕ → ℕ) (r face p : ℕ) (passed : ℕ → Bool) → IsSimpleMap lists → IsContour lists alive w r → ((i : ℕ) → i ≤ r → (passed i ≡ true) ↔ Passes lists face (w i)) → p ≤ r → Passes lists face (w p) → (count_below passed (suc r) ≡ count_below (λ i. face_of lists (w (suc i)) (w i) == face) r + 1) ↔ IsStretch lists w r face
stretch_by_counts_law lists alive w r face p passed simple contour tells p_r at =
    let own : ℕ → Bool = λ i. eqb (face_of lists (w (suc i)) (w i)) face in
    let ends : (i : ℕ) → i < r → own i ≡ true → (passed i ≡ true) × (passed (suc i) ≡ true) = λ i l t.
    let e = eqb-true (face_of lists (w (suc i)) (w i)) face t in
    let both = edge_passes lists alive w r simple contour i (omega arith) in
    ((tells i (omega arith)).1 (subst (λ f. Passes lists f (w i)) e both.0), (tells (suc i) l).1 (subst (λ f. Passes lists f (w (suc i))) e both.1)) in (
      λ counts a i b l m k at_a at_b. eqb-true (face_of lists (w (suc i)) (w i)) face (own_from_counts passed own r ends counts a i b l m k ((tells a (omega arith)).1 at_a) ((tells b k).1 at_b)),
      λ stretch. counts_from_own passed own r ends p p_r ((tells p p_r).1 at) (λ a i b l m k at_a at_b. eq-eqb (face_of lists (w (suc i)) (w i)) face (stretch a i b l m k ((tells a (omega arith)).0 at_a) ((tells b k).0 at_b))),
    )

-- The cuts so far, one place more at a time.
use Rattle.std.proofs.Common.{◌≡◌, ◌≢◌, ℕ, zero, suc, ◌+◌, ◌<◌, ◌≤◌, Bool, true, false, List, [], ◌∷◌, ◌++◌, length, slice_index, get_or, if◌then◌else◌, refl, sym, ap, ◌∙◌, inl, inr, arith}
use Rattle.std.proofs.lemmas.Bool.{cases_eq, true≢false}
use Rattle.std.proofs.lemmas.List.{length-append, get_or_append_left, get_or_push}
use Rattle.convex_orders.specs.Cuts.{AreCutPlaces, IsCutRow}

-- The row has the cuts before place p: those up to number `at`.
pub record IsCutTo (row : List ℕ) (first p : ℕ) (faces : ℕ) (cut : ℕ → ℕ) : Type 0 where
  pub at : ℕ
  pub within : at < faces
  pub long : length row ≡ suc at
  pub each : (i : ℕ) → i ≤ at → slice_index row i + first ≡ cut i
  pub low : cut at < p
  pub high : p ≤ cut (suc at)

module _ (number : ℕ → ℕ) (first last faces : ℕ) (cut : ℕ → ℕ) (are : AreCutPlaces number first last faces cut) where
  cut_mono : (i j : ℕ) → i ≤ j → j ≤ faces → cut i ≤ cut j
  cut_mono i zero l m = let z : i ≡ 0 = omega arith in omega (arith, ap cut z)
  cut_mono i (suc j) l m =
      elim (cases_eq i (suc j)) [
        | inl e ↦ omega (arith, ap cut e)
        | inr ne ↦ (let h = cut_mono i j (omega arith) (omega arith) in let s = are.rises j m in omega arith)
      ]

  -- the row with a cut more
  push_cut : (row : List ℕ) (x at : ℕ) → length row ≡ suc at → ((i : ℕ) → i ≤ at → slice_index row i + first ≡ cut i) → x + first ≡ cut (suc at) → (i : ℕ) → i ≤ suc at → slice_index (row ++ x ∷ []) i + first ≡ cut i
  push_cut row x at long each here i l =
      elim (cases_eq i (suc at)) [
        | inl e ↦ (let a = get_or_push row x 0 i (omega arith) in let b = ap cut e in omega (arith, a, b, here))
        | inr ne ↦ (let a = get_or_append_left row (x ∷ []) 0 i (omega arith) in let b = each i (omega arith) in omega (arith, a, b))
      ]

  pub cuts_more : (row new : List ℕ) (p q : ℕ) (test : Bool) → suc q ≡ p → p < last → (test ≡ true → number q ≡ number (suc q)) → (number q ≡ number (suc q) → test ≡ true) → (x : ℕ) → x + first ≡ p → new ≡ (if test then row else (row ++ x ∷ [])) → IsCutTo row first p faces cut → IsCutTo new first (suc p) faces cut
  cuts_more row new p q true before less same_is same_from x x_is e c =
      let low = c.low in
      let high = c.high in
      let more : p ≢ cut (suc c.at) = λ z. elim (cases_eq (suc c.at) faces) [
        | inl all ↦ (let end = are.end in let a = ap cut all in omega (arith, a, end, z))
        | inr ne ↦ (let w = c.within in are.changes c.at q (omega arith) (before ∙ z) (same_is refl))
      ] in
      record { at = c.at; within = c.within; long = ap length e ∙ c.long; each = λ i l. ap (λ (z : List ℕ). get_or z i 0 + first) e ∙ c.each i l; low = omega arith; high = omega arith }
  cuts_more row new p q false before less same_is same_from x x_is e c =
      let low = c.low in
      let high = c.high in
      let w = c.within in
      let end = are.end in
      let cut_here : p ≡ cut (suc c.at) = elim (cases_eq p (cut (suc c.at))) [
        | inl z ↦ z
        | inr ne ↦ absurd (true≢false (sym (same_from (are.same c.at q w (omega arith) (omega arith)))))
      ] in
      let not_all : suc c.at ≢ faces = λ z. (let a = ap cut z in omega (arith, a, end, cut_here)) in
      let s = are.rises (suc c.at) (omega arith) in
      record {
        at = suc c.at;
        within = omega arith;
        long = ap length e ∙ (length-append row (x ∷ []) ∙ (let n = c.long in omega arith));
        each = λ i l. ap (λ (z : List ℕ). get_or z i 0 + first) e ∙ push_cut row x c.at c.long c.each (x_is ∙ cut_here) i l;
        low = omega arith;
        high = omega arith;
      }

  pub cuts_last : (row new : List ℕ) (x : ℕ) → x + first ≡ last → new ≡ row ++ x ∷ [] → IsCutTo row first last faces cut → IsCutRow new first faces cut
  cuts_last row new x x_is e c =
      let low = c.low in
      let high = c.high in
      let w = c.within in
      let end = are.end in
      let all : suc c.at ≡ faces = elim (cases_eq (suc c.at) faces) [
        | inl z ↦ z
        | inr ne ↦ (let s = are.rises (suc c.at) (omega arith) in let m = cut_mono (suc (suc c.at)) faces (omega arith) (omega arith) in absurd (omega arith))
      ] in
      let here : last ≡ cut (suc c.at) = sym end ∙ ap cut (sym all) in
      record {
        long = ap length e ∙ (length-append row (x ∷ []) ∙ (let n = c.long in omega arith));
        each = λ i l. ap (λ (z : List ℕ). get_or z i 0 + first) e ∙ push_cut row x c.at c.long c.each (x_is ∙ here) i (omega arith);
      }

  -- numbers that are alike have the same cuts
  pub cuts_same : (other : ℕ → ℕ) → ((p : ℕ) → first ≤ p → p < last → other p ≡ number p) → AreCutPlaces other first last faces cut
  cuts_same other alike = record {
    some = are.some;
    begin = are.begin;
    end = are.end;
    rises = are.rises;
    same = λ i p l low high.
        let begin = are.begin in
        let end = are.end in
        let from = cut_mono 0 i (omega arith) (omega arith) in
        let to = cut_mono (suc i) faces l (omega arith) in
        alike p (omega arith) (omega arith) ∙ (are.same i p l low high ∙ sym (alike (suc p) (omega arith) (omega arith)));
    changes = λ i p l at e.
        let begin = are.begin in
        let end = are.end in
        let from = cut_mono 0 i (omega arith) (omega arith) in
        let step = are.rises i (omega arith) in
        let next = are.rises (suc i) l in
        let to = cut_mono (suc (suc i)) faces l (omega arith) in
        are.changes i p l at (sym (alike p (omega arith) (omega arith)) ∙ (e ∙ alike (suc p) (omega arith) (omega arith)));
  }

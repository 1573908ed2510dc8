-- Lines that are gone over, one after another.
use Rattle.std.proofs.Common.{◌≡◌, ℕ, suc, ◌+◌, ◌<◌, ◌≤◌, List, length, get_or, set, sym, ap, ◌∙◌, arith, inl, inr, get_or-set_same, get_or-set_other}
use Rattle.std.proofs.lemmas.Bool.{cases_eq}
use Rattle.rect_dual.specs.Lines.{AreLines, AreWalked}

module _ (f : ℕ → ℕ) (m q first : ℕ) (lines next : List ℕ) (h : AreLines f m q first lines next) where
  pub AreWalked-more : (k r : ℕ) (numbers : List ℕ) → m ≤ length numbers → k < q → AreWalked f m q first lines next h k r numbers → AreWalked f m q first lines next h (k + 1) (get_or next r 0) (set numbers r k)
  AreWalked-more k r numbers size l w =
      let here = w.here l in
      let p = h.within k l in
      record {
        written = λ i b o. elim (cases_eq i k) [
          | inl e ↦ ap (λ v. get_or (set numbers r k) v 0) (ap h.at e ∙ sym here) ∙ (get_or-set_same numbers r k 0 (omega (arith, here, p, size)) ∙ sym e)
          | inr ne ↦ get_or-set_other numbers r (h.at i) k 0 (λ x. ne (sym (h.own i o) ∙ (ap f (x ∙ here) ∙ h.own k l))) ∙ w.written i (omega arith) o
        ];
        here = λ o. let z : suc k ≡ k + 1 = omega arith in ap (λ v. get_or next v 0) here ∙ (h.links k (omega arith) ∙ ap h.at z);
      }

  -- all of them
  pub number-walked : (r : ℕ) (numbers : List ℕ) → AreWalked f m q first lines next h q r numbers → (v : ℕ) → v < m → get_or numbers (get_or lines v 0) 0 ≡ f v
  number-walked r numbers w v l =
      let n = h.number_lt v l in
      ap (λ u. get_or numbers u 0) (h.line_is v l) ∙ w.written (f v) n n

-- The two tables, row after row.
use Rattle.std.proofs.Common.{◌≡◌, ℕ, ◌+◌, ◌<◌, List, length, get_or, set, sym, ap, ◌∙◌, subst, inl, inr, arith}
use Rattle.std.proofs.lemmas.Bool.{cases_eq}
use Rattle.std.proofs.lemmas.List.{get_or-set_same, get_or-set_other}
use Rattle.map_lists.specs.Lists.{Lists}
use Rattle.map_theory.specs.Maps.{list_of}
use Rattle.rect_dual.specs.Sides.{IsWritten}
use Rattle.rect_dual.specs.EdgeLabelsTables.{StandsLeft, AreFirsts, AreLefts}

-- a row more: with which vertex it begins
pub AreFirsts-more : (rows : Lists) (n : ℕ) (first first' : List ℕ) → AreFirsts rows n first → first' ≡ set first (n + 2) (get_or (list_of rows n) 0 0) → n + 2 < length first → AreFirsts rows (n + 1) first'
AreFirsts-more rows n first first' h e size =
    let a : ℕ = get_or (list_of rows n) 0 0 in
    record {
      of_row = λ k l. elim (cases_eq k n) [
        | inl q ↦ subst (λ i. get_or first' (i + 2) 0 ≡ get_or (list_of rows i) 0 0) (sym q) (ap (λ us. get_or us (n + 2) 0) e ∙ get_or-set_same first (n + 2) a 0 size)
        | inr ne ↦ ap (λ us. get_or us (k + 2) 0) e ∙ (get_or-set_other first (n + 2) (k + 2) a 0 (λ q. ne (omega (arith, q))) ∙ h.of_row k (omega (arith, l, ne)))
      ];
      none = λ k l. ap (λ us. get_or us (k + 2) 0) e ∙ (get_or-set_other first (n + 2) (k + 2) a 0 (λ q. omega (arith, q, l)) ∙ h.none k (omega (arith, l)));
    }

-- and which vertices stand left in it
pub AreLefts-more : (rows : Lists) (places : List ℕ) (n : ℕ) (left left' : List ℕ) → AreLefts rows places n left → IsWritten left left' (list_of rows n) 0 (get_or places n 0 + 1) (n + 2) → AreLefts rows places (n + 1) left'
AreLefts-more rows places n left left' h w = record {
  latest = λ k v l a. elim (w v) [
    | inl x ↦ omega (arith, x.1, l)
    | inr x ↦ elim (cases_eq k n) [
      | inl q ↦ absurd (x.0 (subst (λ i. StandsLeft rows places i v) q a))
      | inr ne ↦ omega (arith, x.1, h.latest k v (omega (arith, l, ne)) a)
    ]
  ];
  sound = λ k v e. elim (w v) [
    | inl x ↦ let q : n ≡ k = omega (arith, x.1, e) in (omega (arith, q), subst (λ i. StandsLeft rows places i v) q x.0)
    | inr x ↦ let o = h.sound k v (sym x.1 ∙ e) in (omega (arith, o.0), o.1)
  ];
}

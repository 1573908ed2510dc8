-- Marks that tell two sets, and one vertex more.
use Rattle.std.proofs.Common.{◌≡◌, ◌≢◌, ◌⊎◌, ℕ, ◌+◌, ◌<◌, List, length, get_or, sym, ap, ◌∙◌, subst, inl, inr, arith, get_or-set_other, get_or-set_same}
use Rattle.std.proofs.lemmas.Bool.{cases_eq, cases_lt}
use Rattle.map_lists.specs.Lists.{Lists}
use Rattle.map_theory.specs.Maps.{list_of}
use Rattle.convex_class.specs.Passing.{IsPassed, IsSeen, IsTwiceSeen, AreMarks, IsUnused, IsMarked}

-- each is in the one set exactly where it is in the other
abbrev pub Alike : (ℕ → Type 0) → (ℕ → Type 0) → Type 0
Alike S R = (x : ℕ) → (S x → R x) × (R x → S x)

pub AreMarks-alike : (n u : ℕ) (S R T U : ℕ → Type 0) (marks : List ℕ) (best : ℕ) → Alike S R → Alike T U → AreMarks n u S T marks best → AreMarks n u R U marks best
AreMarks-alike n u S R T U marks best s t m = grind arith

module _ (u w : ℕ) (marks : List ℕ) (best : ℕ) (new : List ℕ) (result : ℕ) (in_marks : w < length marks) (h : IsMarked u w marks best new result) where
  here : get_or new w 0 ≡ u
  here = ap (λ (l : List ℕ). get_or l w 0) h.set ∙ get_or-set_same marks w u 0 in_marks

  elsewhere : (x : ℕ) → x ≢ w → get_or new x 0 ≡ get_or marks x 0
  elsewhere x ne = ap (λ (l : List ℕ). get_or l x 0) h.set ∙ get_or-set_other marks w x u 0 ne

  -- a vertex more
  pub AreMarks-more : (n : ℕ) (S T : ℕ → Type 0) → w < n → AreMarks n u S T marks best → AreMarks n u (λ x. S x ⊎ (x ≡ w)) (λ x. T x ⊎ ((x ≡ w) × S w)) new result
  AreMarks-more n S T in_n m = grind (arith, cases_eq, elsewhere, get_or, here)

  pub IsUnused-more : (x : ℕ) → x ≢ u → IsUnused marks x → length new ≡ length marks → IsUnused new x
  IsUnused-more x ne old size v l e =
      elim (cases_eq v w) [
        | inl q ↦ ne (sym e ∙ (ap (λ y. get_or new y 0) q ∙ here))
        | inr other ↦ old v (omega arith) (sym (elsewhere v other) ∙ e)
      ]

-- ---- one dart of u more
pub IsSeen-more : (lists : Lists) (u k : ℕ) → Alike (λ x. IsSeen lists u k x ⊎ IsPassed lists u (get_or (list_of lists u) k 0) x) (IsSeen lists u (k + 1))
IsSeen-more lists u k x = grind (arith, cases_lt, IsPassed, get_or, list_of)

pub IsTwiceSeen-more : (lists : Lists) (u k : ℕ) → Alike (λ x. IsTwiceSeen lists u k x ⊎ (IsSeen lists u k x × IsPassed lists u (get_or (list_of lists u) k 0) x)) (IsTwiceSeen lists u (k + 1))
IsTwiceSeen-more lists u k x = grind (arith, cases_lt, IsPassed, get_or, list_of)

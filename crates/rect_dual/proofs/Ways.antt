-- A way that is gone along, up to the first that is marked.
use Rattle.std.proofs.Common.{◌≡◌, ℕ, suc, ◌+◌, ◌<◌, ◌≤◌, Bool, true, false, List, get_or, sym, ap, ◌∙◌, inl, inr, arith}
use Rattle.std.proofs.lemmas.Bool.{cases_eq, both_ways}
use Rattle.rect_dual.specs.Ways.{is_marked, IsWay, IsFirstAlong}

-- k links were gone along, and v is next; none before was marked
pub record IsOnWay (marks : List Bool) (way : ℕ → ℕ) (m k v : ℕ) : Type 0 where
  pub within : k ≤ m
  pub vertex : v ≡ way k
  pub before : (j : ℕ) → j < k → is_marked marks (way j) ≡ false

pub IsOnWay-begin : (marks : List Bool) (way : ℕ → ℕ) (m v : ℕ) → v ≡ way 0 → IsOnWay marks way m 0 v
IsOnWay-begin marks way m v e = record { within = omega arith; vertex = e; before = λ j l. absurd (omega (arith, l)) }

module _ (marks : List Bool) (way : ℕ → ℕ) (m k v : ℕ) (h : IsOnWay marks way m k v) where
  pub IsFirstAlong-from : is_marked marks v ≡ true → IsFirstAlong marks way m v
  IsFirstAlong-from t = record { place = k; within = h.within; vertex = h.vertex; here = ap (is_marked marks) (sym h.vertex) ∙ t; before = h.before }

  pub IsOnWay-more : is_marked marks v ≡ false → (links : List ℕ) → IsWay links way m → is_marked marks (way m) ≡ true → IsOnWay marks way m (k + 1) (get_or links v 0)
  IsOnWay-more f links leads end =
      let w = h.within in
      let here : is_marked marks (way k) ≡ false = ap (is_marked marks) (sym h.vertex) ∙ f in
      let more : k < m = elim (cases_eq k m) [ inl e ↦ absurd (both_ways (is_marked marks (way m)) (ap (λ j. is_marked marks (way j)) (sym e) ∙ here) end) | inr ne ↦ omega arith ] in
      let one : suc k ≡ k + 1 = omega arith in
      record {
        within = omega arith;
        vertex = ap (λ u. get_or links u 0) h.vertex ∙ (leads k more ∙ ap way one);
        before = λ j l. elim (cases_eq j k) [ inl e ↦ ap (λ i. is_marked marks (way i)) e ∙ here | inr ne ↦ h.before j (omega arith) ];
      }

-- One vertex of the contour more that is noted.
use Rattle.std.proofs.Common.{◌≡◌, ◌≢◌, ℕ, suc, ◌<◌, ◌≤◌, List, length, slice_index, set, length-set, sym, ap, ◌∙◌, inl, inr, arith}
use Rattle.std.proofs.lemmas.Bool.{cases_eq}
use Rattle.std.proofs.lemmas.List.{get_or-set_same, get_or-set_other}
use Rattle.map_lists.specs.Lists.{Lists}
use Rattle.convex_orders.specs.declared.contour_tracing.ContourFaces.{ContourFaces}
use Rattle.convex_orders.specs.FaceNumbers.{entry}
use Rattle.convex_orders.specs.Noted.{AreRims, IsSeen, IsNoted, AreNoted}

IsNoted-more : (number w : ℕ → ℕ) (a p x y : ℕ) (old mid new : List ℕ) → a ≤ p → ((i : ℕ) → a ≤ i → i < p → w i ≢ x) → w p ≡ x → y ≡ number p → x < length mid → new ≡ set mid x y → IsNoted number w a p old mid → IsNoted number w a (suc p) old new
IsNoted-more number w a p x y old mid new order apart at is within e h = record {
  long = ap length e ∙ (length-set mid x y ∙ h.long);
  here = λ i l m. ap (λ (z : List ℕ). slice_index z (w i)) e ∙ elim (cases_eq i p) [
    | inl z ↦ ap (λ k. slice_index (set mid x y) (w k)) z ∙ (ap (slice_index (set mid x y)) at ∙ (get_or-set_same mid x y 0 within ∙ (is ∙ ap number (sym z))))
    | inr ne ↦ get_or-set_other mid x (w i) y 0 (apart i l (omega arith)) ∙ h.here i l (omega arith)
  ];
  elsewhere = λ v off.
      ap (λ (z : List ℕ). slice_index z v) e ∙ (get_or-set_other mid x v y 0 (λ z. off p order (omega arith) (at ∙ sym z)) ∙ h.elsewhere v (λ i l m. off i l (omega arith)));
}

module _ (lists own : Lists) (w : ℕ → ℕ) (a : ℕ) where
  pub AreNoted-more : (p x y n : ℕ) (old mid new : ContourFaces) → a ≤ p → ((i : ℕ) → a ≤ i → i < p → w i ≢ x) → w p ≡ x → w (suc p) ≡ y → x < n → AreRims mid n → IsSeen lists own x y mid new → AreNoted lists own w a p old mid → AreNoted lists own w a (suc p) old new
  AreNoted-more p x y n old mid new order apart at to within size seen h = record {
    inner = IsNoted-more (λ i. entry lists own (w (suc i)) (w i)) w a p x (entry lists own y x) old.inner.items mid.inner.items new.inner.items order apart at (ap (λ v. entry lists own v x) (sym to) ∙ ap (entry lists own (w (suc p))) (sym at)) (omega (arith, within, size.inner)) seen.inner h.inner;
    outer = IsNoted-more (λ i. entry lists own (w i) (w (suc i))) w a p x (entry lists own x y) old.outer.items mid.outer.items new.outer.items order apart at (ap (entry lists own x) (sym to) ∙ ap (λ v. entry lists own v (w (suc p))) (sym at)) (omega (arith, within, size.outer)) seen.outer h.outer;
  }

pub AreRims-seen : (lists own : Lists) (x y n : ℕ) (old new : ContourFaces) → IsSeen lists own x y old new → AreRims old n → AreRims new n
AreRims-seen lists own x y n old new seen size = record {
  hints = seen.hints ∙ size.hints;
  inner = ap length seen.inner ∙ (length-set old.inner.items x (entry lists own y x) ∙ size.inner);
  outer = ap length seen.outer ∙ (length-set old.outer.items x (entry lists own x y) ∙ size.outer);
}

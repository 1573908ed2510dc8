-- Meetings of fewer edges, of a step more, and what two of one face tell.
use Rattle.std.proofs.Common.{◌≡◌, ◌≢◌, ◌⊎◌, ℕ, ◌+◌, ◌<◌, ◌≤◌, List, refl, sym, ap, ◌∙◌, subst, inl, inr, arith}
use Rattle.std.proofs.lemmas.Bool.{cases_lt, cases_eq}
use Rattle.convex_class.specs.declared.face_pairs.face_meetings.Meeting.{Meeting}
use Rattle.convex_class.specs.Meetings.{ArePartedBy, IsMet, meeting_at}

-- a lesser number
ArePartedBy-lower : (best less x y v w : ℕ) → less ≤ best → ArePartedBy best x y v w → ArePartedBy less x y v w
ArePartedBy-lower best less x y v w l (p, q) = (
  λ ne. let a = (p ne).0 in let b = (p ne).1 in (omega arith, omega arith),
  λ ne. let a = (q ne).0 in let b = (q ne).1 in (omega arith, omega arith),
)

-- the edge of a meeting is (x, y), or is parted from it
abbrev IsFirstOr : ℕ → Meeting → ℕ → ℕ → Type 0
IsFirstOr best m x y = ((m.tail ≡ x) × (m.head ≡ y)) ⊎ ArePartedBy best m.tail m.head x y

IsFirstOr-lower : (best less : ℕ) (m : Meeting) (x y : ℕ) → less ≤ best → IsFirstOr best m x y → IsFirstOr less m x y
IsFirstOr-lower best less m x y l (inl e) = inl e
IsFirstOr-lower best less m x y l (inr p) = inr (ArePartedBy-lower best less m.tail m.head x y l p)

-- no meeting
pub IsMet-none : (f : ℕ) (Z : ℕ → ℕ → ℕ → Type 0) (met : List Meeting) (best : ℕ) → ((z x y : ℕ) → Z z x y → ⊥) → IsMet f Z met best met best
IsMet-none f Z met best none = record { lower = omega arith; met = λ z x y h. absurd (none z x y h); first = λ z x y h. absurd (none z x y h); kept = λ z q. refl }

module _ (f : ℕ) (old : List Meeting) (best : ℕ) (new : List Meeting) (result : ℕ) where
  -- fewer edges
  pub IsMet-fewer : (Z Y : ℕ → ℕ → ℕ → Type 0) → ((z x y : ℕ) → Y z x y → Z z x y) → IsMet f Z old best new result → IsMet f Y old best new result
  IsMet-fewer Z Y fewer s =
      record { lower = s.lower; met = λ z x y h. s.met z x y (fewer z x y h); first = λ z x y h. s.first z x y (fewer z x y h); kept = s.kept }

  -- two in turn
  pub IsMet-both : (Z Y : ℕ → ℕ → ℕ → Type 0) (mid : List Meeting) (least : ℕ) → IsMet f Z old best mid least → IsMet f Y mid least new result → IsMet f (λ z x y. Z z x y ⊎ Y z x y) old best new result
  IsMet-both Z Y mid least s t = grind (arith, Meeting, IsFirstOr, IsFirstOr-lower, meeting_at)

  -- a step more
  pub IsMet-more : (k : ℕ) (Z : ℕ → ℕ → ℕ → ℕ → Type 0) (mid : List Meeting) (least : ℕ) → IsMet f (λ z x y. (i : ℕ) × (i < k) × Z i z x y) old best mid least → IsMet f (Z k) mid least new result → IsMet f (λ z x y. (i : ℕ) × (i < k + 1) × Z i z x y) old best new result
  IsMet-more k Z mid least s t =
      IsMet-fewer (λ z x y. ((i : ℕ) × (i < k) × Z i z x y) ⊎ Z k z x y) (λ z x y. (i : ℕ) × (i < k + 1) × Z i z x y)
      (λ z x y h. elim (cases_lt h.0 k) [
        | inl l ↦ inl (h.0, l, h.2)
        | inr m ↦ let l = h.1 in let e : h.0 ≡ k = omega arith in inr (subst (λ i. Z i z x y) e h.2)
      ])
      (IsMet-both (λ z x y. (i : ℕ) × (i < k) × Z i z x y) (Z k) mid least s t)

-- a vertex of the first edge that is not on one that is first or parted from it
on_first : (best t h v w u : ℕ) → ((t ≡ v) × (h ≡ w)) ⊎ ArePartedBy best t h v w → (u ≡ t) ⊎ (u ≡ h) → u ≢ v → u ≢ w → best ≤ u
on_first best t h v w u (inl e) (inl at) ne ne' = absurd (ne (at ∙ e.0))
on_first best t h v w u (inl e) (inr at) ne ne' = absurd (ne' (at ∙ e.1))
on_first best t h v w u (inr p) (inl at) ne ne' = let l = (p.1 (λ e. ne' (at ∙ e))).0 in omega arith
on_first best t h v w u (inr p) (inr at) ne ne' = let l = (p.0 (λ e. ne (at ∙ e))).0 in omega arith

-- a vertex of one of two edges that is not on the other one, where each is first or parted from the first
on_one : (best : ℕ) (m : Meeting) (x y v w u : ℕ) → IsFirstOr best m x y → IsFirstOr best m v w → (u ≡ x) ⊎ (u ≡ y) → u ≢ v → u ≢ w → best ≤ u
on_one best m x y v w u x7 q x9 ne ne' = grind (arith, on_first, cases_eq)

-- so it is of two meetings of one face
pub IsMet-apart : (f : ℕ) (Z : ℕ → ℕ → ℕ → Type 0) (old : List Meeting) (best : ℕ) (new : List Meeting) (result : ℕ) → IsMet f Z old best new result → (z x y v w u : ℕ) → Z z x y → Z z v w → (u ≡ x) ⊎ (u ≡ y) → u ≢ v → u ≢ w → result ≤ u
IsMet-apart f Z old best new result s z x y v w u p q = on_one result (meeting_at new z) x y v w u (s.first z x y p) (s.first z v w q)

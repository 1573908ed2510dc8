-- The order of the sweep.
use Rattle.std.proofs.Common.{◌≡◌, ◌≢◌, ℕ, zero, suc, ◌+◌, ◌<◌, ◌≤◌, ◌≤ℤ◌, inl, inr, ap, subst, ◌∙◌, arith}
use Rattle.std.proofs.lemmas.Int.{ints}
use Rattle.std.proofs.lemmas.Bool.{cases_lt}
use Rattle.pg_plane.specs.declared.grid_points.Point.{Point}
use Rattle.plane_drawings.specs.PlaneSweepLines.{IsBefore, AreInOrder}

pub IsBefore-apart : (p q : Point) → IsBefore p q → p ≢ q
IsBefore-apart p q (inl l) e = let f = ap (λ (r : Point). r.x) e in omega (arith, ints)
IsBefore-apart p q (inr l) e = let f = ap (λ (r : Point). r.y) e in let m = l.1 in omega (arith, ints)

IsBefore-trans : (p q r : Point) → IsBefore p q → IsBefore q r → IsBefore p r
IsBefore-trans p q r (inl l) (inl m) = inl (omega (arith, ints))
IsBefore-trans p q r (inl l) (inr m) = inl (let e = m.0 in omega (arith, ints))
IsBefore-trans p q r (inr l) (inl m) = inl (let e = l.0 in omega (arith, ints))
IsBefore-trans p q r (inr l) (inr m) = inr (l.0 ∙ m.0, let f = l.1 in let g = m.1 in omega (arith, ints))

-- points of which each comes before the next
pub AreInOrder-by_next : (n : ℕ) (at : ℕ → Point) → ((i : ℕ) → i + 1 < n → IsBefore (at i) (at (i + 1))) → AreInOrder n at
AreInOrder-by_next n at next i zero l m = absurd (omega arith)
AreInOrder-by_next n at next i (suc j) l m =
    let e : j + 1 ≡ suc j = omega arith in
    let one : IsBefore (at j) (at (suc j)) = subst (λ k. IsBefore (at j) (at k)) e (next j (omega arith)) in
    elim (cases_lt i j) [
      | inl k ↦ IsBefore-trans (at i) (at j) (at (suc j)) (AreInOrder-by_next n at next i j k (omega arith)) one
      | inr k ↦ (let f : j ≡ i = omega arith in subst (λ k. IsBefore (at k) (at (suc j))) f one)
    ]

-- what comes later is not to the left
pub rightward : (n : ℕ) (at : ℕ → Point) → AreInOrder n at → (i j : ℕ) → i ≤ j → j < n → (at i).x ≤ℤ (at j).x
rightward n at order i j l m =
    elim (cases_lt i j) [
      | inl s ↦ elim (order i j s m) [ inl g ↦ omega (arith, ints) | inr g ↦ (let e = g.0 in omega (arith, ints)) ]
      | inr s ↦ (let e : (at i).x ≡ (at j).x = ap (λ k. (at k).x) (let f : i ≡ j = omega arith in f) in omega (arith, ints))
    ]

-- Which of two directions comes first, by their halves.
use Rattle.std.proofs.Common.{◌≡◌, ◌<ℤ◌, ◌↔◌, pos, Bool, true, false, sym, inl, inr, ⊎_elim, refl}
use Rattle.std.specs.Prelude.{IsTrue}
use Rattle.std.specs.Bool.{beq}
use Rattle.std.proofs.lemmas.Bool.{true≢false}
use Rattle.pg_plane.specs.declared.grid_points.Point.{Point}
use Rattle.pg_plane.specs.Geometry.{cross, IsFirstHalf, IsClockBefore}

-- two directions of one half
pub clock_same : (first second : Bool) (d e : Point) → (IsTrue first ↔ IsFirstHalf d) → (IsTrue second ↔ IsFirstHalf e) → beq first second ≡ true → (cross d e <ℤ pos 0) ↔ IsClockBefore d e
clock_same true true d e p q t = (
  λ l. inr (inl (p.0 refl, q.0 refl, l)),
  λ b. ⊎_elim (λ x. absurd (x.1 (q.0 refl))) (λ x. ⊎_elim (λ y. y.2) (λ y. y.2) x) b,
)
clock_same false false d e p q t = (
  λ l. inr (inr (λ f. true≢false (sym (p.1 f)), λ f. true≢false (sym (q.1 f)), l)),
  λ b. ⊎_elim (λ x. absurd (true≢false (sym (p.1 x.0)))) (λ x. ⊎_elim (λ y. y.2) (λ y. y.2) x) b,
)
clock_same true false d e p q t = absurd (true≢false (sym t))
clock_same false true d e p q t = absurd (true≢false (sym t))

-- two directions of different halves
pub clock_other : (first second : Bool) (d e : Point) → (IsTrue first ↔ IsFirstHalf d) → (IsTrue second ↔ IsFirstHalf e) → beq first second ≡ false → IsTrue first ↔ IsClockBefore d e
clock_other true true d e p q n = absurd (true≢false n)
clock_other false false d e p q n = absurd (true≢false n)
clock_other true false d e p q n = (λ t. inl (p.0 refl, λ f. true≢false (sym (q.1 f))), λ b. refl)
clock_other false true d e p q n = (
  λ t. absurd (true≢false (sym t)),
  λ b. ⊎_elim (λ x. absurd (x.1 (q.0 refl))) (λ x. ⊎_elim (λ y. p.1 y.0) (λ y. absurd (y.1 (q.0 refl))) x) b,
)

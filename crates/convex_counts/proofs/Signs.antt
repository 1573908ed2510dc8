-- What lies on the two sides of an edge, by the signs of its differences.
use Rattle.std.proofs.Common.{◌≡◌, ℕ, ◌+◌, ◌<◌, refl, inl, inr, arith}
use Rattle.std.proofs.lemmas.Bool.{cases_lt}
use Rattle.contour_runs.specs.Wood.{Coordinates}
use Rattle.convex_counts.proofs.Kept.{AreOnFirst, AreOnSecond, IsFirstSecond, IsSecondThird, IsThirdFirst}
use Rattle.convex_counts.specs.declared.face_woods.axis.Axis.{Axis}
use Rattle.convex_counts.specs.declared.face_woods.axis.Axis.TheVariants.{One, Two, Three}
use Rattle.convex_counts.specs.Axes.{out, into, IsAhead, IsBehind}
use Rattle.convex_counts.specs.Rising.{IsRising}

-- what holds of none of the three axes
pub for_none : (P : Axis → Type 0) → ¬ P One → ¬ P Two → ¬ P Three → (c : Axis) → ¬ P c
for_none P a b d One h = a h
for_none P a b d Two h = b h
for_none P a b d Three h = d h

module _ (at : Coordinates) where
  -- no two coordinates rise alone along one edge, and none rises both ways
  pub IsRising-one : (c d : Axis) (x y : ℕ) → IsRising at c x y → IsRising at d x y → c ≡ d
  IsRising-one x0 x1 x y h k = grind (arith, One, Two, Three)

  pub IsRising-other : (c : Axis) (x y : ℕ) → IsRising at c x y → ¬ IsRising at c y x
  IsRising-other One x y h k = omega arith
  IsRising-other Two x y h k = omega arith
  IsRising-other Three x y h k = omega arith

  module _ (x y : ℕ) where
    -- along the first side, the second and the third there is one sector at both ends
    pub first_sides : AreOnFirst at x y → IsAhead (IsRising at) x y One × IsBehind (IsRising at) y x One
    first_sides h =
        let b : IsRising at Three y x = let e = h.one in let l = h.two in (omega arith, omega arith, omega arith) in
        ((Three, out Two (let e = h.one in let l = h.two in (l, omega arith, omega arith)) refl refl), (Two, out Three b refl refl))

    pub second_sides : AreOnSecond at x y → IsAhead (IsRising at) x y Two × IsBehind (IsRising at) y x Two
    second_sides h =
        let b : IsRising at One y x = let e = h.two in let l = h.one in (l, omega arith, omega arith) in
        ((One, out Three (let e = h.two in let l = h.one in (omega arith, omega arith, omega arith)) refl refl), (Three, out One b refl refl))

    pub third_sides : at.one x < at.one y → at.one y + at.two y ≡ at.one x + at.two x → IsAhead (IsRising at) x y Three × IsBehind (IsRising at) y x Three
    third_sides l e =
        ((Two, out One ((l, omega arith, omega arith)) refl refl), (One, out Two ((omega arith, omega arith, omega arith)) refl refl))

    -- from one side to the next the sector changes
    pub first_second_sides : IsFirstSecond at x y → IsAhead (IsRising at) x y One × IsBehind (IsRising at) y x Two
    first_second_sides h =
        let l = h.one in
        let m = h.two in (
          elim (cases_lt (at.one y + at.two y) (at.one x + at.two x)) [
            | inl less ↦ let b : IsRising at One y x = (l, omega arith, omega arith) in (One, into One b (for_none (λ c. IsRising at c x y) (λ z. omega arith) (λ z. omega arith) (λ z. omega arith)) refl refl)
            | inr more ↦ let a : IsRising at Two x y = (m, omega arith, omega arith) in (Three, out Two a refl refl)
          ],
          elim (cases_lt (at.one x + at.two x) (at.one y + at.two y)) [
            | inl less ↦ let a : IsRising at Two x y = (m, omega arith, omega arith) in (Two, into Two a (for_none (λ c. IsRising at c y x) (λ z. omega arith) (λ z. omega arith) (λ z. omega arith)) refl refl)
            | inr more ↦ let b : IsRising at One y x = (l, omega arith, omega arith) in (Three, out One b refl refl)
          ],
        )

    pub second_third_sides : IsSecondThird at x y → IsAhead (IsRising at) x y Two × IsBehind (IsRising at) y x Three
    second_third_sides h =
        let l = h.two in
        let m = h.sum in (
          elim (cases_lt (at.one x) (at.one y)) [
            | inl less ↦ let b : IsRising at Two y x = (l, omega arith, omega arith) in (Two, into Two b (for_none (λ c. IsRising at c x y) (λ z. omega arith) (λ z. omega arith) (λ z. omega arith)) refl refl)
            | inr more ↦ let a : IsRising at Three x y = (m, omega arith, omega arith) in (One, out Three a refl refl)
          ],
          elim (cases_lt (at.one y) (at.one x)) [
            | inl less ↦ let a : IsRising at Three x y = (m, omega arith, omega arith) in (Three, into Three a (for_none (λ c. IsRising at c y x) (λ z. omega arith) (λ z. omega arith) (λ z. omega arith)) refl refl)
            | inr more ↦ let b : IsRising at Two y x = (l, omega arith, omega arith) in (One, out Two b refl refl)
          ],
        )

    pub third_first_sides : IsThirdFirst at x y → IsAhead (IsRising at) x y Three × IsBehind (IsRising at) y x One
    third_first_sides h =
        let l = h.one in
        let m = h.sum in (
          elim (cases_lt (at.two x) (at.two y)) [
            | inl less ↦ let b : IsRising at Three y x = (m, omega arith, omega arith) in (Three, into Three b (for_none (λ c. IsRising at c x y) (λ z. omega arith) (λ z. omega arith) (λ z. omega arith)) refl refl)
            | inr more ↦ let a : IsRising at One x y = (l, omega arith, omega arith) in (Two, out One a refl refl)
          ],
          elim (cases_lt (at.two y) (at.two x)) [
            | inl less ↦ let a : IsRising at One x y = (l, omega arith, omega arith) in (One, into One a (for_none (λ c. IsRising at c y x) (λ z. omega arith) (λ z. omega arith) (λ z. omega arith)) refl refl)
            | inr more ↦ let b : IsRising at Three y x = (m, omega arith, omega arith) in (Two, out Three b refl refl)
          ],
        )

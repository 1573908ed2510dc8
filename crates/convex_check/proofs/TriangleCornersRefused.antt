-- Answers that wrong bodies would give: the clauses refuse them.
use Rattle.std.proofs.Common.{◌≡◌, ◌↔◌, ◌<◌, ℕ, zero, suc, List, [], ◌∷◌, true, false, IsTrue, pos, refl, inl, inr, arith}
use Rattle.std.proofs.lemmas.Int.{ints}
use Rattle.pg_plane.specs.declared.grid_points.Point.{Point}
use Rattle.plane_drawings.specs.PlaneSweepLines.{IsBefore}
use Rattle.drawings.specs.Corners.{IsOnTriangle, AreCorners, HasCorners}
use Rattle.convex_check.proofs.Points.{point_at, each_point}
use Rattle.convex_check.proofs.TriangleCornersCases.{at}

not_itself : (q : Point) → ¬ IsBefore q q
not_itself q (inl l) = omega (arith, ints)
not_itself q (inr h) = let l = h.1 in omega (arith, ints)

-- the first of two points is taken for the last
first_for_last : (p q : Point) → IsBefore p q → ¬ ((r : Point) → ¬ IsBefore q r → ¬ IsBefore p r)
first_for_last p q before after = after q (not_itself q) before

-- three points, of which the second lies to the right of the way from the first to the last
abbrev below : List Point
below = at (pos 0) (pos 1) ∷ at (pos 1) (pos 0) ∷ at (pos 2) (pos 1) ∷ []

each_on : (i : ℕ) → i < 3 → IsOnTriangle (point_at below i) (at (pos 0) (pos 1)) (at (pos 1) (pos 0)) (at (pos 2) (pos 1))
each_on zero l = inl (record { on_line = refl; between_x = inl (omega (arith, ints), omega (arith, ints)); between_y = inr (omega (arith, ints), omega (arith, ints)) })
each_on (suc zero) l = inr (inl (record { on_line = refl; between_x = inl (omega (arith, ints), omega (arith, ints)); between_y = inl (omega (arith, ints), omega (arith, ints)) }))
each_on (suc (suc zero)) l = inr (inr (record { on_line = refl; between_x = inr (omega (arith, ints), omega (arith, ints)); between_y = inl (omega (arith, ints), omega (arith, ints)) }))
each_on (suc (suc (suc i))) l = absurd (omega arith)

corners : AreCorners below (at (pos 0) (pos 1)) (at (pos 1) (pos 0)) (at (pos 2) (pos 1))
corners = record {
  first = (0, omega arith, refl);
  second = (1, omega arith, refl);
  third = (2, omega arith, refl);
  apart = λ e. omega (arith, ints, e);
  all = each_point (λ p. IsOnTriangle p (at (pos 0) (pos 1)) (at (pos 1) (pos 0)) (at (pos 2) (pos 1))) below each_on;
}

-- the third corner is looked for on the other side alone
one_side_alone : ¬ (IsTrue false ↔ HasCorners below)
one_side_alone w = let h : false ≡ true = w.1 (at (pos 0) (pos 1), at (pos 1) (pos 0), at (pos 2) (pos 1), corners) in cc

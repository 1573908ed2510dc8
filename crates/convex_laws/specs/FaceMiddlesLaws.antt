-- Faces with middles are a plane drawing.
use Rattle.std.specs.Prelude.{ℕ}
use Rattle.pg_plane.specs.declared.grid_points.Point.{Point}
use Rattle.convex_laws.specs.Middles.{IsMiddled, IsPlaneRound}

-- Where each dart but the base has the middle of its face on its left, and the base has it on its right, the drawing is plane.
abbrev pub MiddlesArePlane : Type 0
MiddlesArePlane =
    (k : ℕ) (twin step back : ℕ → ℕ) (at : ℕ → Point) (tail face : ℕ → ℕ) (middle : ℕ → Point) (base : ℕ) → IsMiddled k twin step back at tail face middle base
    → IsPlaneRound k twin step back at tail

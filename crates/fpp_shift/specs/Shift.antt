-- The shift method of de Fraysseix, Pach and Pollack (1990), over a run: each new vertex moves what stands on its right out of the way, and goes to where two diagonals meet.
use Rattle.std.specs.Prelude.{ℕ, zero, suc, ◌+◌, ◌-◌, ◌/◌, nat_lt, nat_le, if◌then◌else◌, pos}
use Rattle.pg_plane.specs.declared.grid_points.Point.{Point}
use Rattle.contour_runs.specs.Runs.{Step, Stage, stage_after}

-- how far a step moves to the right what stands at a place, and all that has gone under it: nothing up to the first, 1 strictly between, 2 from the last on
unfoldable pub shift : Step → ℕ → ℕ
shift s i = if nat_le i s.first then 0 else if nat_lt i s.last then 1 else 2

-- a point for each placed vertex
pub record Places : Type 0 where
  pub x : ℕ → ℕ
  pub y : ℕ → ℕ

-- Where a new vertex goes, with p and q at the first place and at the last, which has moved by 2: on a diagonal that rises from p and one that falls to q.
abbrev pub top_x : Places → ℕ → ℕ → ℕ
top_x at p q = (at.x p + (at.x q + 2) + at.y q - at.y p) / 2

abbrev pub top_y : Places → ℕ → ℕ → ℕ
top_y at p q = (at.x q + 2 - at.x p + at.y p + at.y q) / 2

-- x and y of each vertex after a step
unfoldable pub x_after : Stage → Step → Places → ℕ → ℕ
x_after g s at v = if nat_lt v g.count then at.x v + shift s (g.place v) else top_x at (g.vertex s.first) (g.vertex s.last)

unfoldable pub y_after : Stage → Step → Places → ℕ → ℕ
y_after g s at v = if nat_lt v g.count then at.y v else top_y at (g.vertex s.first) (g.vertex s.last)

-- The points after the first k steps. Both vertices of the base begin at (0, 0), so the first step puts the third vertex at (1, 1), with the second at (2, 0).
abbrev pub shift_points : (ℕ → Step) → ℕ → Places
shift_points steps zero = record { x = λ v. 0; y = λ v. 0 }
shift_points steps (suc k) = record {
  x = x_after (stage_after steps k) (steps k) (shift_points steps k);
  y = y_after (stage_after steps k) (steps k) (shift_points steps k);
}

-- the point of a vertex
abbrev pub point_of : Places → ℕ → Point
point_of at v = record { x = pos (at.x v); y = pos (at.y v) }

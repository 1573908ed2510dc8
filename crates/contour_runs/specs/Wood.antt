-- Schnyder's coordinates (1990), over a run: each new vertex adds to one of two coordinates of all that stand, by the side of it on which their place lies.
use Rattle.std.specs.Prelude.{ℕ, zero, suc, ◌+◌, ◌-◌, ◌==◌, nat_lt, nat_le, if◌then◌else◌, pos}
use Rattle.pg_plane.specs.declared.grid_points.Point.{Point}
use Rattle.contour_runs.specs.Runs.{Step, Stage, stage_after}

-- what a step adds to coordinate one of what stands at a place: 1 up to its first place
unfoldable pub one_gain : Step → ℕ → ℕ
one_gain s i = if nat_le i s.first then 1 else 0

-- what a step adds to coordinate two of what stands at a place: 1 after its first place
unfoldable pub two_gain : Step → ℕ → ℕ
two_gain s i = if nat_le i s.first then 0 else 1

-- two coordinates for each placed vertex
pub record Coordinates : Type 0 where
  pub one : ℕ → ℕ
  pub two : ℕ → ℕ

-- Coordinates one and two of each vertex after a step. The new vertex has one more than the vertex at the last place had as one, and as two what that at the first place had.
unfoldable pub one_after : Stage → Step → Coordinates → ℕ → ℕ
one_after g s at v = if nat_lt v g.count then at.one v + one_gain s (g.place v) else at.one (g.vertex s.last) + 1

unfoldable pub two_after : Stage → Step → Coordinates → ℕ → ℕ
two_after g s at v = if nat_lt v g.count then at.two v + two_gain s (g.place v) else at.two (g.vertex s.first)

-- the coordinates after a step
abbrev pub coordinates_after : Stage → Step → Coordinates → Coordinates
coordinates_after g s at = record { one = one_after g s at; two = two_after g s at }

-- of the base alone: 1 and 0 for the first vertex, 0 and 0 for the second
abbrev pub base_coordinates : Coordinates
base_coordinates = record { one = λ v. if v == 0 then 1 else 0; two = λ v. 0 }

-- the coordinates after the first k steps
abbrev pub coordinates : (ℕ → Step) → ℕ → Coordinates
coordinates steps zero = base_coordinates
coordinates steps (suc k) = coordinates_after (stage_after steps k) (steps k) (coordinates steps k)

-- where the drawing has a vertex: the first one to the left and up, all others at their coordinates
unfoldable pub drawn_one : Coordinates → ℕ → ℕ
drawn_one at v = if v == 0 then at.one 0 - 1 else at.one v

unfoldable pub drawn_two : Coordinates → ℕ → ℕ
drawn_two at v = if v == 0 then at.two 0 + 1 else at.two v

-- the drawing by some coordinates
abbrev pub drawn : Coordinates → Coordinates
drawn at = record { one = drawn_one at; two = drawn_two at }

-- the drawing after the first n steps
abbrev pub wood_points : (ℕ → Step) → ℕ → Coordinates
wood_points steps n = drawn (coordinates steps n)

-- the point of a vertex
abbrev pub point_of : Coordinates → ℕ → Point
point_of at v = record { x = pos (at.one v); y = pos (at.two v) }

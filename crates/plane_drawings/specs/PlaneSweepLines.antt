-- The lines of a sweep over points at 0, 1, 2 and on: i is the number of a vertex in the order of the sweep, and `at i` its point.
use Rattle.std.specs.Prelude.{ℕ, ◌<◌, ◌≤◌, ◌≡◌, ◌⊎◌, ℤ, pos, ◌≤ℤ◌, ◌<ℤ◌}
use Rattle.pg_plane.specs.declared.grid_points.Point.{Point}
use Rattle.pg_plane.specs.Geometry.{area, DoCross}
use Rattle.plane_drawings.specs.declared.plane_sweep.line.Line.{Line}

-- the sweep comes to p strictly before it comes to q: by x, and where x is one by y
abbrev pub IsBefore : Point → Point → Type 0
IsBefore p q = (p.x <ℤ q.x) ⊎ ((p.x ≡ q.x) × (p.y <ℤ q.y))

-- the first n points stand in the order of the sweep
abbrev pub AreInOrder : ℕ → (ℕ → Point) → Type 0
AreInOrder n at = (i j : ℕ) → i < j → j < n → IsBefore (at i) (at j)

-- a line between two of the first n points
pub record IsLine (n : ℕ) (e : Line) : Type 0 where
  pub rises : e.low < e.high
  pub within : e.high < n

-- twice the area of a line and w: positive where w is above the line, negative where it is below
abbrev pub rise : (ℕ → Point) → Line → ℕ → ℤ
rise at e w = area (at e.low) (at e.high) (at w)

-- where the later of them begins, f is not below e
abbrev pub Starts : (ℕ → Point) → Line → Line → Type 0
Starts at e f = ((e.low ≤ f.low) × (pos 0 ≤ℤ rise at e f.low)) ⊎ ((f.low ≤ e.low) × (rise at f e.low ≤ℤ pos 0))

-- where the earlier of them ends, f is not below e
abbrev pub Ends : (ℕ → Point) → Line → Line → Type 0
Ends at e f = ((f.high ≤ e.high) × (pos 0 ≤ℤ rise at e f.high)) ⊎ ((e.high ≤ f.high) × (rise at f e.high ≤ℤ pos 0))

-- two lines cross
abbrev pub Cross : (ℕ → Point) → Line → Line → Type 0
Cross at e f = DoCross (at e.low) (at e.high) (at f.low) (at f.high)

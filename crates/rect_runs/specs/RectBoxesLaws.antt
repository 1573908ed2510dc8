-- That the boxes of a run are a rectangular dual of it.
use Rattle.std.specs.Prelude.{ℕ, zero, suc, ◌+◌, ◌*◌, ◌-◌, ◌<◌, ◌≤◌, ◌≡◌, ◌⊎◌, ◌↔◌}
use Rattle.contour_runs.specs.Runs.{Step}
use Rattle.rect_runs.specs.Later.{StandsOver}
use Rattle.rect_runs.specs.Boxes.{Boxes, boxes, grid_width, grid_height, IsRectRun}

-- u and v are the base, or one of the first m steps puts v on over u
abbrev pub AreJoined : (ℕ → Step) → ℕ → ℕ → ℕ → Type 0
AreJoined steps m u v = ((u ≡ 0) × (v ≡ 1)) ⊎ ((k : ℕ) × (k < m) × StandsOver steps k u v)

-- v is to the right of u, and they share a piece of an upright line
pub record IsBeside (b : Boxes) (u v : ℕ) : Type 0 where
  pub line : b.right u ≡ b.left v
  pub first : b.low u < b.high v
  pub second : b.low v < b.high u

-- v is above u, and they share a piece of a level line
pub record IsAbove (b : Boxes) (u v : ℕ) : Type 0 where
  pub line : b.high u ≡ b.low v
  pub first : b.left u < b.right v
  pub second : b.left v < b.right u

-- two boxes share a side of positive length
abbrev pub ShareSide : Boxes → ℕ → ℕ → Type 0
ShareSide b u v = (IsBeside b u v ⊎ IsBeside b v u) ⊎ (IsAbove b u v ⊎ IsAbove b v u)

-- nothing is inside of both
abbrev pub AreApart : Boxes → ℕ → ℕ → Type 0
AreApart b u v = ((b.right u ≤ b.left v) ⊎ (b.right v ≤ b.left u)) ⊎ ((b.high u ≤ b.low v) ⊎ (b.high v ≤ b.low u))

-- the area of the first m boxes
abbrev pub area_of : Boxes → ℕ → ℕ
area_of b zero = 0
area_of b (suc m) = area_of b m + (b.right m - b.left m) * (b.high m - b.low m)

-- The first m boxes tile the grid of this width and height: none overlap, and their areas add up to its area.
pub record AreFilling (b : Boxes) (m width height : ℕ) : Type 0 where
  pub wide : (v : ℕ) → v < m → b.left v < b.right v
  pub tall : (v : ℕ) → v < m → b.low v < b.high v
  pub within : (v : ℕ) → v < m → (b.right v ≤ width) × (b.high v ≤ height)
  pub apart : (u v : ℕ) → u < v → v < m → AreApart b u v
  pub areas : area_of b m ≡ width * height

-- The four of the frame: the first vertex is at the left, the second reaches along the bottom, the last but one is at the right, the last reaches along the top.
pub record IsFramed (b : Boxes) (n width height : ℕ) : Type 0 where
  pub first : b.left 0 ≡ 0
  pub bottom : (b.left 1 ≡ 0) × (b.right 1 ≡ width) × (b.low 1 ≡ 0)
  pub right : b.right (n + 1) ≡ width
  pub top : (b.left (n + 2) ≡ 0) × (b.right (n + 2) ≡ width) × (b.high (n + 2) ≡ height)

-- The boxes of a run are a rectangular dual of it: with n + 3 vertices they fill a grid of at most n + 1 by n + 1, two of them share a side of positive length exactly where their vertices are joined, and four are the frame.
pub record IsRunDual (steps : ℕ → Step) (n : ℕ) (b : Boxes) (width height : ℕ) : Type 0 where
  pub filling : AreFilling b (n + 3) width height
  pub bounded : (width ≤ n + 1) × (height ≤ n + 1)
  pub contacts : (u v : ℕ) → u < v → v < n + 3 → ShareSide b u v ↔ AreJoined steps (suc n) u v
  pub frame : IsFramed b n width height

-- The boxes of a rectangular run are a rectangular dual of it.
abbrev pub BoxesAreDual : Type 0
BoxesAreDual = (steps : ℕ → Step) (n : ℕ) → IsRectRun steps n → IsRunDual steps n (boxes steps n) (grid_width steps n) (grid_height steps n)

-- The left and the lower sides of the boxes of a run, by one name each.
use Rattle.std.specs.Prelude.{ℕ, Bool, not, ◌+◌, ◌<◌, ◌≡◌, List, slice_index}
use Rattle.contour_runs.specs.Runs.{Step}
use Rattle.rect_runs.specs.Numbers.{Numbers, numbers}
use Rattle.rect_dual.specs.States.{IsLeftState, IsLowState}
use Rattle.rect_dual.specs.declared.side.Side.{Side}
use Rattle.rect_dual.specs.declared.side.Side.TheVariants.{Left, Low}

-- the numbers of a side
abbrev pub number_of : Side → Numbers → ℕ → ℕ
number_of Left at = at.x
number_of Low at = at.y

-- whether a step that turns at a run, or at a rise, gives the new vertex a line of its own
abbrev pub gets_line : Side → Bool → Bool
gets_line Left run = not run
gets_line Low run = run

-- The place in a row of the vertex at which a step looks: the one behind the turn, or the one at it.
abbrev pub place_in : Side → ℕ → ℕ
place_in Left c = c + 1
place_in Low c = c

-- the line of the second vertex of the base, where the lines of the base are 0 or 0 and 1
abbrev pub second_line : Side → ℕ
second_line Left = 0
second_line Low = 1

-- what is kept after k of n steps
abbrev pub IsSideState : Side → (ℕ → Step) → ℕ → ℕ → (lines next links : List ℕ) → (leads : List Bool) → Type 0
IsSideState Left = IsLeftState
IsSideState Low = IsLowState

-- the numbers after n steps of all vertices that are placed
pub record AreNumbers (steps : ℕ → Step) (n : ℕ) (xs ys : List ℕ) : Type 0 where
  pub xs_are : (v : ℕ) → v < n + 2 → slice_index xs v ≡ (numbers steps n).x v
  pub ys_are : (v : ℕ) → v < n + 2 → slice_index ys v ≡ (numbers steps n).y v

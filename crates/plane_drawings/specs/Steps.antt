-- A step of the sweep. The status is the list of the lines that reach over the place of the sweep, bottom to top.
use Rattle.std.specs.Prelude.{ℕ, ◌+◌, ◌<◌, ◌≡◌, ◌↔◌, List, [], ◌∷◌, ◌++◌, length, All, Contains, pos, ◌<ℤ◌}
use Rattle.std.specs.List.{AllAdjacentBelow}
use Rattle.pg_plane.specs.declared.grid_points.Point.{Point}
use Rattle.plane_drawings.specs.declared.plane_sweep.line.Line.{Line}
use Rattle.plane_drawings.specs.PlaneSweepLines.{rise, Ends}

-- each line of a status and the next end in their order
abbrev pub AreStacked : (ℕ → Point) → List Line → Type 0
AreStacked at status = AllAdjacentBelow (Ends at) status (length status)

-- i is strictly above the last of the lines
abbrev pub IsAboveLast : (ℕ → Point) → List Line → ℕ → Type 0
IsAboveLast at lines i = (rest : List Line) (e : Line) → lines ≡ rest ++ (e ∷ []) → pos 0 <ℤ rise at e i

-- i is strictly below the first of the lines
abbrev pub IsBelowFirst : (ℕ → Point) → List Line → ℕ → Type 0
IsBelowFirst at lines i = (e : Line) (rest : List Line) → lines ≡ e ∷ rest → rise at e i <ℤ pos 0

-- At i the status `old` becomes `new`: the lines that end at i are gone, and in their place are those that begin there.
pub record IsStep (at : ℕ → Point) (lines : List Line) (i : ℕ) (old new : List Line) : Type 0 where
  pub lower : List Line
  pub gone : List Line
  pub fresh : List Line
  pub upper : List Line
  pub before : old ≡ lower ++ (gone ++ upper)
  pub after : new ≡ lower ++ (fresh ++ upper)
  pub all_end : All (λ e. e.high ≡ i) gone
  pub all_begin : (e : Line) → Contains fresh e ↔ (Contains lines e × (e.low ≡ i))
  pub above : IsAboveLast at lower i
  pub below : IsBelowFirst at upper i
  pub stacked : AreStacked at new

-- a sweep over the first n points: the status before each of them, and at the end
pub record IsSweep (at : ℕ → Point) (lines : List Line) (n : ℕ) (status : ℕ → List Line) : Type 0 where
  pub begin : status 0 ≡ []
  pub steps : (i : ℕ) → i < n → IsStep at lines i (status i) (status (i + 1))

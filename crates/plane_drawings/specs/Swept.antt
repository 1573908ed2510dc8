-- What a sweep keeps: what is true of the status when the points before i have been passed.
use Rattle.std.specs.Prelude.{ℕ, ◌<◌, ◌≤◌, ◌≢◌, List, All, AllPairs, Contains, pos}
use Rattle.pg_plane.specs.declared.grid_points.Point.{Point}
use Rattle.plane_drawings.specs.declared.plane_sweep.line.Line.{Line}
use Rattle.plane_drawings.specs.PlaneSweepLines.{rise, Starts, Cross}
use Rattle.plane_drawings.specs.Steps.{AreStacked}

-- a line that begins before i and does not end before it
pub record Reaches (lines : List Line) (i : ℕ) (e : Line) : Type 0 where
  pub given : Contains lines e
  pub low : e.low < i
  pub high : i ≤ e.high

-- What the sweep keeps, before it comes to i.
pub record IsSwept (at : ℕ → Point) (lines : List Line) (i : ℕ) (status : List Line) : Type 0 where
  -- the status holds the lines that reach over i, and no others
  pub reaching : All (Reaches lines i) status
  pub whole : (e : Line) → Reaches lines i e → Contains status e
  -- they stand in their order where they begin, each with all, and where they end, each with the next
  pub starts : AllPairs (Starts at) status
  pub stacked : AreStacked at status
  -- no point that has been passed stands on a line between its ends
  pub off_lines : (e : Line) (w : ℕ) → Contains lines e → w < i → e.low < w → w < e.high → rise at e w ≢ pos 0
  -- no line that has ended crosses any
  pub no_crossing : (e f : Line) → Contains lines e → Contains lines f → e.high < i → ¬ Cross at e f

-- Where the faces of a step turn, read off the counts: so a run needs no turns of its own.
use Rattle.std.specs.Prelude.{ℕ, zero, suc, ◌-◌, ◌<◌, ◌==◌, ◌&&◌, nat_lt, if◌then◌else◌, Bool}
use Rattle.contour_runs.specs.Runs.{Stage, base}
use Rattle.contour_runs.specs.Wood.{Coordinates}
use Rattle.contour_runs.specs.FaceRuns.{Step, after, stage_after, IsRun, IsUnder, IsTouched}
use Rattle.convex_counts.specs.Counts.{counts_after}

-- the edge of the contour from place j on goes left
unfoldable pub goes_left : Stage → Coordinates → ℕ → Bool
goes_left g at j = (at.one (g.vertex (suc j)) == at.one (g.vertex j)) && nat_lt (at.two (g.vertex j)) (at.two (g.vertex (suc j)))

-- the first of the next d places at which the edge does not go left, or else the place behind them
unfoldable pub turn_from : Stage → Coordinates → ℕ → ℕ → ℕ
turn_from g at j zero = j
turn_from g at j (suc d) = if goes_left g at j then turn_from g at (suc j) d else j

-- a step with its turns at these places
abbrev pub with_turns : Stage → Coordinates → Step → Step
with_turns g at s = record { first = s.first; last = s.last; vertices = s.vertices; faces = s.faces; cut = s.cut; turn = λ i. turn_from g at (s.cut i) (s.cut (suc i) - s.cut i - 1) }

-- a stage with the coordinates of its vertices
pub record State : Type 0 where
  pub stage : Stage
  pub counts : Coordinates

abbrev pub state_after : State → Step → State
state_after z s = record { stage = after z.stage s; counts = counts_after z.stage s z.counts }

-- the state after the first k steps, each with its turns read off, whatever turns it had
abbrev pub state : (ℕ → Step) → ℕ → State
state steps zero = record { stage = base; counts = record { one = λ v. 0; two = λ v. 0 } }
state steps (suc k) = state_after (state steps k) (with_turns (state steps k).stage (state steps k).counts (steps k))

-- a run with its turns read off
abbrev pub well_turned : (ℕ → Step) → ℕ → Step
well_turned steps k = with_turns (state steps k).stage (state steps k).counts (steps k)

-- A run of which each vertex is touched, before it comes strictly under a face or to the end, but for the last vertex and the base.
pub record IsTouchedRun (steps : ℕ → Step) (n : ℕ) : Type 0 where
  pub run : IsRun steps n
  pub some : 0 < n
  pub under : (k v : ℕ) → k < n → IsUnder steps k v → IsTouched steps k v
  pub end : (j : ℕ) → 0 < j → suc j < (stage_after steps n).width → suc ((stage_after steps n).vertex j) < (stage_after steps n).count → IsTouched steps n ((stage_after steps n).vertex j)

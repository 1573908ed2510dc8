-- How labels follow one another round a vertex.
use Rattle.std.specs.Prelude.{ℕ, suc, ◌<◌, ◌≤◌, ◌≡◌, ◌⊎◌, nat_le, if◌then◌else◌, Bool}
use Rattle.contour_runs.specs.Runs.{Step}
use Rattle.rect_runs.specs.Labels.{labels, IsLabelledRun}
use Rattle.rect_runs.specs.Numbers.{turn_of}

-- how an edge stands at one of its ends
pub data End : Type 0 where
  run_in : End
  rise_out : End
  run_out : End
  rise_in : End

-- the one that comes next clockwise
abbrev pub next : End → End
next run_in = rise_out
next rise_out = run_out
next run_out = rise_in
next rise_in = run_in

-- b stands directly behind a, clockwise
abbrev pub Follows : End → End → Type 0
Follows a b = (a ≡ b) ⊎ (next a ≡ b)

-- an edge of the contour at its earlier end, and at its later one
unfoldable pub at_earlier : Bool → End
at_earlier run = if run then run_out else rise_in

unfoldable pub at_later : Bool → End
at_later run = if run then run_in else rise_out

-- The edge from the vertex at place j to the new vertex, at either end: up to the turn a run, behind it a rise.
unfoldable pub at_older : ℕ → ℕ → End
at_older turn j = if nat_le j turn then run_out else rise_out

unfoldable pub at_new : ℕ → ℕ → End
at_new turn j = if nat_le j turn then run_in else rise_in

-- The three corners of the face that a step makes over edge j: at each of them its two edges follow one another clockwise.
pub record AreCorners (run : Bool) (turn j : ℕ) : Type 0 where
  pub earlier : Follows (at_older turn j) (at_earlier run)
  pub later : Follows (at_later run) (at_older turn (suc j))
  pub new : Follows (at_new turn (suc j)) (at_new turn j)

-- At each corner of each face of a labelled run, the two edges follow one another.
abbrev pub CornersFollow : Type 0
CornersFollow = (steps : ℕ → Step) (k n j : ℕ) → IsLabelledRun steps n → k < n → (steps k).first ≤ j → j < (steps k).last → AreCorners (labels steps k j) (turn_of steps k) j

-- Two coordinates for each vertex, by counts of faces (Felsner 2001), over a run: of the faces that a step makes, a vertex counts those that turn before its place as two and the others as one.
use Rattle.std.specs.Prelude.{ℕ, zero, suc, ◌+◌, ◌-◌, ◌<◌, ◌≤◌, ◌≡◌, nat_lt, if◌then◌else◌}
use Rattle.contour_runs.specs.Runs.{Stage}
use Rattle.contour_runs.specs.Wood.{Coordinates}
use Rattle.contour_runs.specs.FaceRuns.{Step, stage_after, IsRun}

-- how many of the first m turns come before place i
unfoldable pub turned : (ℕ → ℕ) → ℕ → ℕ → ℕ
turned turn zero i = 0
turned turn (suc m) i = if nat_lt (turn m) i then suc (turned turn m i) else turned turn m i

-- what a step adds to coordinate two of what stands at a place, and to coordinate one
abbrev pub two_gain : Step → ℕ → ℕ
two_gain s i = turned s.turn s.faces i

abbrev pub one_gain : Step → ℕ → ℕ
one_gain s i = s.faces - two_gain s i

-- Coordinates one and two of each vertex after a step. A new vertex has as one what the vertex at the last place had, and as two what that at the first place had.
unfoldable pub one_after : Stage → Step → Coordinates → ℕ → ℕ
one_after g s at v = if nat_lt v g.count then at.one v + one_gain s (g.place v) else at.one (g.vertex s.last)

unfoldable pub two_after : Stage → Step → Coordinates → ℕ → ℕ
two_after g s at v = if nat_lt v g.count then at.two v + two_gain s (g.place v) else at.two (g.vertex s.first)

abbrev pub counts_after : Stage → Step → Coordinates → Coordinates
counts_after g s at = record { one = one_after g s at; two = two_after g s at }

-- the coordinates after the first k steps; with no face there is nothing to count
abbrev pub face_counts : (ℕ → Step) → ℕ → Coordinates
face_counts steps zero = record { one = λ v. 0; two = λ v. 0 }
face_counts steps (suc k) = counts_after (stage_after steps k) (steps k) (face_counts steps k)

-- the contour goes to the left from place j: coordinate two alone changes, and grows
pub record IsLeft (g : Stage) (at : Coordinates) (j : ℕ) : Type 0 where
  pub one : at.one (g.vertex (suc j)) ≡ at.one (g.vertex j)
  pub two : at.two (g.vertex j) < at.two (g.vertex (suc j))

-- the contour goes to the right from place j: coordinate one alone changes, and shrinks
pub record IsRight (g : Stage) (at : Coordinates) (j : ℕ) : Type 0 where
  pub one : at.one (g.vertex (suc j)) < at.one (g.vertex j)
  pub two : at.two (g.vertex (suc j)) ≡ at.two (g.vertex j)

-- A step turns well: under each of its faces the edges of the contour go left up to its turn, and right behind the edge at it.
pub record IsTurned (g : Stage) (at : Coordinates) (s : Step) : Type 0 where
  pub left : (i j : ℕ) → i < s.faces → s.cut i ≤ j → j < s.turn i → IsLeft g at j
  pub right : (i j : ℕ) → i < s.faces → s.turn i < j → j < s.cut (suc i) → IsRight g at j

-- a run of n steps each of which turns well
pub record IsTurnedRun (steps : ℕ → Step) (n : ℕ) : Type 0 where
  pub run : IsRun steps n
  pub turned : (k : ℕ) → k < n → IsTurned (stage_after steps k) (face_counts steps k) (steps k)

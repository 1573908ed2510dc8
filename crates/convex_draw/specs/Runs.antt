-- Runs whose turns are read off the counts, with the rows of their steps.
use Rattle.std.specs.Prelude.{ℕ, suc, ◌-◌, ◌<◌, ◌≡◌, length}
use Rattle.contour_runs.specs.FaceRuns.{Step, stage_after, faces_made, IsRun}
use Rattle.convex_counts.specs.Counts.{face_counts, IsTurned}
use Rattle.convex_counts.specs.Turns.{turn_from}
use Rattle.convex_laws.specs.declared.convex_rows.rows.ConvexRows.{ConvexRows}
use Rattle.convex_laws.specs.Rows.{AreRows}
use Rattle.convex_draw.specs.Spots.{AreNamed}

-- A run of as many steps as there are rows, each of which turns well, where the counts say.
pub record IsCountRun (steps : ℕ → Step) (name : ℕ → ℕ) (rows : ConvexRows) (count : ℕ) : Type 0 where
  pub run : IsRun steps (length rows.rows)
  pub turned : (k : ℕ) → k < length rows.rows → IsTurned (stage_after steps k) (face_counts steps k) (steps k)
  pub turns : (k i : ℕ) → (steps k).turn i ≡ turn_from (stage_after steps k) (face_counts steps k) ((steps k).cut i) ((steps k).cut (suc i) - (steps k).cut i - 1)
  pub rows_are : AreRows rows steps (length rows.rows) name
  pub all : (stage_after steps (length rows.rows)).count ≡ count
  pub named : AreNamed name count
  pub few : faces_made steps (length rows.rows) < 1048576
  pub small : count < 65536

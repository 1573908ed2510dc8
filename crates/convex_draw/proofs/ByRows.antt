-- A run of a map, with as many rows as steps.
use Rattle.std.proofs.Common.{ℕ, ◌<◌, ◌≡◌, length, sym, subst}
use Rattle.map_lists.specs.Lists.{Lists}
use Rattle.contour_runs.specs.FaceRuns.{Step}
use Rattle.convex_laws.specs.RunsOfMaps.{IsRunOf}
use Rattle.convex_laws.specs.declared.convex_rows.rows.ConvexRows.{ConvexRows}
use Rattle.convex_laws.specs.Rows.{AreRows, AreRanked}
use Rattle.convex_laws.specs.Removed.{AreRowsOfRun}

-- The rows are those of a run of the map from the base (s, d), and `at` names the vertex of each rank.
pub record IsRunByRows (lists : Lists) (s d : ℕ) (rows : ConvexRows) : Type 0 where
  pub steps : ℕ → Step
  pub rank : ℕ → ℕ
  pub face : ℕ → ℕ → ℕ
  pub at : ℕ → ℕ
  pub run : IsRunOf lists s d steps (length rows.rows) rank face
  pub rows_are : AreRows rows steps (length rows.rows) at
  pub ranked : AreRanked steps (length rows.rows) (length lists) at
  pub back : (v : ℕ) → v < length lists → at (rank v) ≡ v

pub IsRunByRows-of : (lists : Lists) (s d : ℕ) (rows : ConvexRows) → AreRowsOfRun lists s d rows → IsRunByRows lists s d rows
IsRunByRows-of lists s d rows h =
    let e = sym h.rows_are.rows_count in
    record {
      steps = h.steps;
      rank = h.rank;
      face = h.face;
      at = h.at;
      run = subst (λ n. IsRunOf lists s d h.steps n h.rank h.face) e h.run;
      rows_are = subst (λ n. AreRows rows h.steps n h.at) e h.rows_are;
      ranked = subst (λ n. AreRanked h.steps n (length lists) h.at) e h.ranked;
      back = h.named;
    }

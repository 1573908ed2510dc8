-- Where the base alone is left, the rows are those of a run.
use Rattle.std.proofs.Common.{◌≡◌, ◌≢◌, ℕ, zero, suc, ◌+◌, ◌≤◌, Bool, true, subst, arith}
use Rattle.map_lists.specs.Lists.{Lists}
use Rattle.map_theory.specs.Maps.{HasDart, IsSimpleMap}
use Rattle.contour_runs.specs.FaceRuns.{Step, faces_made, IsRun}
use Rattle.convex_peeling.specs.Contours.{face_of}
use Rattle.convex_laws.specs.declared.convex_rows.rows.ConvexRows.{ConvexRows}
use Rattle.convex_laws.specs.RunsOfMaps.{IsRunOf}
use Rattle.convex_laws.proofs.Built.{AreLabels, none_counted, base_built}
use Rattle.convex_laws.specs.Removed.{AreRowsOfRun}
use Rattle.convex_laws.proofs.Ends.{IsEnded, GoesOn}
use Rattle.convex_laws.proofs.Ranked.{rows_of_run}

-- each step makes a face
steps-le-faces_made : (steps : ℕ → Step) (n : ℕ) → IsRun steps n → n ≤ faces_made steps n
steps-le-faces_made steps zero run = omega arith
steps-le-faces_made steps (suc n) run =
    let h = steps-le-faces_made steps n (λ k l. run k (omega arith)) in
    omega (arith, (run n (omega arith)).some_face)

module _ (lists : Lists) (s d : ℕ) (rows : ConvexRows) (m : ℕ) (alive : ℕ → Bool) (w : ℕ → ℕ) (r : ℕ) where
  whole : (steps : ℕ → Step) (n : ℕ) (rank : ℕ → ℕ) → n ≡ 0 → IsEnded lists s d rows m alive w r → GoesOn lists s d rows m alive w r steps n rank → AreRowsOfRun lists s d rows
  whole steps n rank none ended go =
      let z : n + m ≡ m = omega arith in
      rows_of_run lists s d rows m go.all_steps go.all_rank go.face ended.has
      (subst (λ t. IsRunOf lists s d go.all_steps t go.all_rank go.face) z go.run)
      (λ k j l e. go.rows_are k j l (omega arith))

  -- THE END
  pub IsEnded-base : IsSimpleMap lists → AreLabels lists alive → ((x y : ℕ) → HasDart lists x y → alive (face_of lists x y) ≢ true) → r ≡ 1 → w 0 ≢ w r → IsEnded lists s d rows m alive w r → AreRowsOfRun lists s d rows
  IsEnded-base simple labels none two apart ended =
      let b = base_built lists alive w r simple labels none two apart in
      let few = steps-le-faces_made b.0 b.1 b.4.run in
      whole b.0 b.1 b.2 (omega (arith, none_counted lists alive simple labels none)) ended (ended.ends b.0 b.1 b.2 b.3 b.4 b.5)

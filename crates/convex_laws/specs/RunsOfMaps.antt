-- That each polyhedral map is that of a run whose vertices are touched in time.
use Rattle.std.specs.Prelude.{ℕ, suc, ◌+◌, ◌≡◌}
use Rattle.map_lists.specs.Lists.{Lists}
use Rattle.map_theory.specs.Maps.{HasDart, IsSimpleMap, IsPlane, component_count, face_count}
use Rattle.map_theory.specs.Paths.{SameFace}
use Rattle.convex_peeling.specs.Polyhedral.{IsPolyhedral}
use Rattle.convex_peeling.specs.FacePeelingLaws.{HasThree}
use Rattle.contour_runs.specs.FaceRuns.{Step, stage_after, faces_made}
use Rattle.convex_counts.specs.Turns.{IsTouchedRun}
use Rattle.convex_laws.specs.ConvexDrawings.{IsRunMap}

-- The lists are the map of a touched run from the base (s, d); it makes all faces but the base's, and its last vertex is the one before the base on the base's face.
pub record IsRunOf (lists : Lists) (s d : ℕ) (steps : ℕ → Step) (n : ℕ) (rank : ℕ → ℕ) (face : ℕ → ℕ → ℕ) : Type 0 where
  pub touched : IsTouchedRun steps n
  pub map : IsRunMap lists (s, d) steps n rank face
  pub faces : faces_made steps n + 1 ≡ face_count lists
  pub last : (e : ℕ) → HasDart lists e s → SameFace lists (e, s) (s, d) → suc (rank e) ≡ (stage_after steps n).count

-- Each connected polyhedral map of genus zero whose vertices have three neighbours or more has such a run, from each of its darts.
abbrev pub RunOfMap : Type 0
RunOfMap =
    (lists : Lists) (s d : ℕ) → IsSimpleMap lists → IsPlane lists → component_count lists ≡ 1 → IsPolyhedral lists → HasThree lists → HasDart lists s d
    → (steps : ℕ → Step) × (n : ℕ) × (rank : ℕ → ℕ) × (face : ℕ → ℕ → ℕ) × IsRunOf lists s d steps n rank face

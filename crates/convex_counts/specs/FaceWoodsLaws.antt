-- The laws of the wood of a run.
use Rattle.std.specs.Prelude.{ℕ, ◌<◌, ◌≤◌, ◌≡◌}
use Rattle.contour_runs.specs.FaceRuns.{Step, stage_after, IsDartOf}
use Rattle.contour_runs.specs.FaceRunsLaws.{GoesAlong}
use Rattle.convex_counts.specs.Counts.{face_counts}
use Rattle.convex_counts.specs.FacePointsLaws.{IsWholeRun}
use Rattle.convex_counts.specs.declared.face_woods.axis.Axis.{Axis}
use Rattle.convex_counts.specs.declared.face_woods.axis.Axis.TheVariants.{One, Two, Three}
use Rattle.convex_counts.specs.Axes.{IsAhead, IsBehind}
use Rattle.convex_counts.specs.Rising.{IsRising, IsRootRank, IsRunEdge, IsDart}

-- Two darts of a face that follow one another have one sector between them.
abbrev pub CornersMeet : Type 0
CornersMeet =
    (steps : ℕ → Step) (n k i x y z : ℕ) → IsWholeRun steps n → k < n → IsDartOf (stage_after steps k) (steps k) i x y → IsDartOf (stage_after steps k) (steps k) i y z
    → (c : Axis) × IsBehind (IsRising (face_counts steps n)) y x c × IsAhead (IsRising (face_counts steps n)) y z c

-- An edge of the last contour has one sector outside, at both of its ends: two before the last vertex, and one behind it; the base has three.
pub record HasOutside (steps : ℕ → Step) (n : ℕ) (c : Axis) (x y : ℕ) : Type 0 where
  pub tail : IsAhead (IsRising (face_counts steps n)) x y c
  pub head : IsBehind (IsRising (face_counts steps n)) y x c

-- The sector outside is that of axis two along the edges before place `top`, that of axis one along those from it on, and that of axis three along the base.
pub record AreOuterSides (steps : ℕ → Step) (n top : ℕ) : Type 0 where
  pub right : (p x y : ℕ) → p < top → GoesAlong (stage_after steps n) x y p → HasOutside steps n Two x y
  pub left : (p x y : ℕ) → top ≤ p → GoesAlong (stage_after steps n) x y p → HasOutside steps n One x y
  pub base : HasOutside steps n Three 1 0

-- The edges of the last contour of a whole run have these sectors outside.
abbrev pub OuterSides : Type 0
OuterSides = (steps : ℕ → Step) (n : ℕ) (whole : IsWholeRun steps n) → 0 < n → AreOuterSides steps n whole.top

-- From each vertex but the root of an axis some edge of the run leads along that axis.
abbrev pub SomeRising : Type 0
SomeRising =
    (steps : ℕ → Step) (n v : ℕ) (c : Axis) → IsWholeRun steps n → 0 < n → v < (stage_after steps n).count → ¬ IsRootRank (stage_after steps n).count c v
    → (u : ℕ) × IsRunEdge steps n v u × IsRising (face_counts steps n) c v u

-- Of the darts of the run that leave a vertex, at most one leads along each axis.
abbrev pub OneRising : Type 0
OneRising =
    (steps : ℕ → Step) (n v u w : ℕ) (c : Axis) → IsWholeRun steps n → 0 < n → IsDart steps n v u → IsDart steps n u v → IsDart steps n v w → IsDart steps n w v
    → IsRising (face_counts steps n) c v u → IsRising (face_counts steps n) c v w → u ≡ w

-- The directions of a drawing by two coordinates, of which the third one is what both lack of a constant sum.
use Rattle.std.specs.Prelude.{ℕ, suc, ◌+◌, ◌<◌, ◌≤◌, ◌≡◌, ◌⊎◌}
use Rattle.contour_runs.specs.Wood.{Coordinates}
use Rattle.contour_runs.specs.FaceRuns.{Step, stage_after, IsDartOf}
use Rattle.contour_runs.specs.FaceRunsLaws.{GoesAlong}
use Rattle.convex_counts.specs.declared.face_woods.axis.Axis.{Axis}
use Rattle.convex_counts.specs.declared.face_woods.axis.Axis.TheVariants.{One, Two, Three}

-- From x to y coordinate c rises, and neither of the others does.
abbrev pub IsRising : Coordinates → Axis → ℕ → ℕ → Type 0
IsRising at One x y = (at.one x < at.one y) × (at.two y ≤ at.two x) × (at.one x + at.two x ≤ at.one y + at.two y)
IsRising at Two x y = (at.two x < at.two y) × (at.one y ≤ at.one x) × (at.one x + at.two x ≤ at.one y + at.two y)
IsRising at Three x y = (at.one y + at.two y < at.one x + at.two x) × (at.one y ≤ at.one x) × (at.two y ≤ at.two x)

-- the rank of the root of an axis: the two vertices of the base, and the last one
abbrev pub IsRootRank : ℕ → Axis → ℕ → Type 0
IsRootRank count One v = v ≡ 0
IsRootRank count Two v = v ≡ 1
IsRootRank count Three v = suc v ≡ count

-- an edge of a run: from a place of a contour to the next or back, or from a place between two faces of a step to the new vertex
pub data IsRunEdge (steps : ℕ → Step) (n v u : ℕ) : Type 0 where
  along : (k p : ℕ) → k ≤ n → GoesAlong (stage_after steps k) v u p → IsRunEdge steps n v u
  back : (k p : ℕ) → k ≤ n → GoesAlong (stage_after steps k) u v p → IsRunEdge steps n v u
  over : (k i : ℕ) → k < n → i < (steps k).faces → (stage_after steps k).vertex ((steps k).cut i) ≡ v → u ≡ (stage_after steps k).count → 0 < i → IsRunEdge steps n v u

-- a dart of the run: on a face that it makes, along the last contour, or the base
abbrev pub IsDart : (ℕ → Step) → ℕ → ℕ → ℕ → Type 0
IsDart steps n x y = ((k : ℕ) × (i : ℕ) × (k < n) × IsDartOf (stage_after steps k) (steps k) i x y) ⊎ (((p : ℕ) × GoesAlong (stage_after steps n) x y p) ⊎ ((x ≡ 1) × (y ≡ 0)))

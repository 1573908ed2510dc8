-- What the clause on gaps determines: no other numbers meet it.
use Rattle.std.proofs.Common.{◌≡◌, ℕ, suc, ◌<◌, List, arith}
use Rattle.std.specs.Prelude.{slice_index}
use Rattle.contour_runs.specs.Runs.{Stage}
use Rattle.contour_runs.specs.Wood.{Coordinates}
use Rattle.grid_figures.specs.Gaps.{IsUnder, AreGaps}

-- the drop of the last of a row, as of each vertex of the contour
drop-unique : (g : Stage) (at : Coordinates) (drops drops' rises rises' spans spans' covers covers' : List ℕ) (i : ℕ) → suc i < g.width → AreGaps g at drops rises spans covers → AreGaps g at drops' rises' spans' covers' → slice_index drops (g.vertex (suc i)) ≡ slice_index drops' (g.vertex (suc i))
drop-unique g at drops drops' rises rises' spans spans' covers covers' i l a b = omega (arith, a.drop i l, b.drop i l)

-- the span of a vertex that covers another, whose drop is known
span-unique : (g : Stage) (at : Coordinates) (drops rises rises' spans spans' covers : List ℕ) (v : ℕ) → IsUnder g at drops rises spans covers v → IsUnder g at drops rises' spans' covers v → slice_index spans (slice_index covers v) ≡ slice_index spans' (slice_index covers v)
span-unique g at drops rises rises' spans spans' covers v a b = omega (arith, a.one, b.one)

-- the vertex covered is noted as covered by itself, the one before the new one
covered_by_the_vertex_before : (g : Stage) (at : Coordinates) (drops rises spans covers : List ℕ) (v : ℕ) → slice_index covers v ≡ v → IsUnder g at drops rises spans covers v → ⊥
covered_by_the_vertex_before g at drops rises spans covers v e u = omega (arith, u.later)

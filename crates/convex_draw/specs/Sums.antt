-- Differences added up, from the last contour downwards.
use Rattle.std.specs.Prelude.{ℕ, suc, ◌+◌, ◌<◌, ◌≤◌, ◌≡◌, ◌≢◌, List, length, slice_index}
use Rattle.contour_runs.specs.Runs.{Stage}
use Rattle.contour_runs.specs.Laws.{IsStage}
use Rattle.contour_runs.specs.Wood.{Coordinates}
use Rattle.contour_runs.specs.FaceRuns.{Step, stage_after}
use Rattle.convex_counts.specs.Counts.{face_counts}
use Rattle.convex_counts.specs.Contours.{IsFalling}
use Rattle.convex_draw.specs.declared.convex_points.spots.Spot.{Spot}
use Rattle.convex_draw.specs.Spots.{spot_of, AreGaps, AreUnder, AreNamed}

-- the last contour, with its end and its width
pub record IsLast (g : Stage) (at : Coordinates) (name : ℕ → ℕ) (spots : List Spot) (s faces width : ℕ) : Type 0 where
  pub stage : IsStage g
  pub falling : IsFalling g at faces
  pub few : faces < 1048576
  pub count : g.count ≡ length spots
  pub named : AreNamed name (length spots)
  pub gaps : AreGaps g at name spots
  pub wide : g.width ≡ width
  pub end : name 1 ≡ s

-- the coordinates of the vertex r of the run are kept at its name
pub record IsSum (at : Coordinates) (name : ℕ → ℕ) (spots : List Spot) (r : ℕ) : Type 0 where
  pub one : (spot_of spots (name r)).one ≡ at.one r
  pub two : (spot_of spots (name r)).two ≡ at.two r

-- the coordinates of the vertices on the contour from place p on are kept, and nothing else has changed
pub record AreWalked (g : Stage) (at : Coordinates) (name : ℕ → ℕ) (p : ℕ) (old now : List Spot) : Type 0 where
  pub done : (i : ℕ) → p ≤ i → i < g.width → IsSum at name now (g.vertex i)
  pub others : (u : ℕ) → ((i : ℕ) → p ≤ i → i < g.width → name (g.vertex i) ≢ u) → spot_of now u ≡ spot_of old u

-- The vertices strictly within a row are each other's own, and under others; what is kept is small.
pub record IsFree (row : List ℕ) (spots : List Spot) : Type 0 where
  pub some : 1 < length row
  pub within : (i : ℕ) → i < length row → slice_index row i < length spots
  pub distinct : (i j : ℕ) → i < j → j < length row → slice_index row i ≢ slice_index row j
  pub under : (i : ℕ) → 0 < i → suc i < length row → (spot_of spots (slice_index row i)).over < length spots
  pub outside : (i j : ℕ) → 0 < i → suc i < length row → 0 < j → suc j < length row → (spot_of spots (slice_index row i)).over ≢ slice_index row j
  pub small : (i : ℕ) → 0 < i → suc i < length row
      → ((spot_of spots (slice_index row i)).one + (spot_of spots (spot_of spots (slice_index row i)).over).one < 1048576) × ((spot_of spots (slice_index row i)).two + (spot_of spots (spot_of spots (slice_index row i)).over).two < 1048576)

-- what is known of the one that it is under is added to what is kept of u
pub record IsAdded (u : ℕ) (old now : List Spot) : Type 0 where
  pub one : (spot_of now u).one ≡ (spot_of old u).one + (spot_of old (spot_of old u).over).one
  pub two : (spot_of now u).two ≡ (spot_of old u).two + (spot_of old (spot_of old u).over).two

-- `IsAdded` for the vertices strictly within a row and before place j of it; nothing else has changed
pub record AreAdded (row : List ℕ) (j : ℕ) (old now : List Spot) : Type 0 where
  pub added : (i : ℕ) → 0 < i → i < j → IsAdded (slice_index row i) old now
  pub others : (u : ℕ) → ((i : ℕ) → 0 < i → i < j → slice_index row i ≢ u) → spot_of now u ≡ spot_of old u

-- v was placed and is not on the contour
abbrev pub IsGone : Stage → ℕ → Type 0
IsGone g v = (v < g.count) × (g.vertex (g.place v) ≢ v)

-- of each vertex that the first k of n steps did not cover its coordinates are known; the others are under others
pub record AreDone (steps : ℕ → Step) (name : ℕ → ℕ) (n k : ℕ) (spots : List Spot) : Type 0 where
  pub done : (r : ℕ) → r < length spots → ¬ IsGone (stage_after steps k) r → IsSum (face_counts steps n) name spots r
  pub under : AreUnder steps k name spots

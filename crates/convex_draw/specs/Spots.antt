-- Coordinates by counts of faces, each kept as a difference from another vertex. A vertex of a run is a rank, which names a vertex of a map.
use Rattle.std.specs.Prelude.{ℕ, suc, ◌+◌, ◌-◌, ◌<◌, ◌≤◌, ◌≡◌, ◌≢◌, ◌==◌, if◌then◌else◌, List, length, slice_index, slice_index_or}
use Rattle.contour_runs.specs.Runs.{Stage}
use Rattle.contour_runs.specs.Laws.{IsStage}
use Rattle.contour_runs.specs.Wood.{Coordinates}
use Rattle.contour_runs.specs.FaceRuns.{Step, moved, stage_after, IsStep}
use Rattle.convex_counts.specs.Counts.{face_counts, two_gain, IsTurned}
use Rattle.convex_counts.specs.Contours.{IsFalling}
use Rattle.convex_counts.specs.Turns.{turn_from}
use Rattle.convex_laws.specs.Rows.{IsRow, AreCuts, AreNew}
use Rattle.convex_draw.specs.declared.convex_points.spots.Spot.{Spot}

-- what is kept of a vertex
abbrev pub spot_of : List Spot → ℕ → Spot
spot_of spots u = slice_index_or spots u (record { one = 0; two = 0; over = 0 })

-- Along the contour coordinate one falls to each vertex and coordinate two rises, by what is kept of it, and it names the vertex before it. Of a vertex that is still to come nothing is kept.
pub record AreGaps (g : Stage) (at : Coordinates) (name : ℕ → ℕ) (spots : List Spot) : Type 0 where
  pub fall : (i : ℕ) → suc i < g.width → at.one (g.vertex i) ≡ at.one (g.vertex (suc i)) + (spot_of spots (name (g.vertex (suc i)))).one
  pub rise : (i : ℕ) → suc i < g.width → at.two (g.vertex (suc i)) ≡ at.two (g.vertex i) + (spot_of spots (name (g.vertex (suc i)))).two
  pub back : (i : ℕ) → suc i < g.width → (spot_of spots (name (g.vertex (suc i)))).over ≡ name (g.vertex i)

-- v has gone under c: what is kept of it is how far it stands above c in both coordinates
pub record IsUnder (at : Coordinates) (name : ℕ → ℕ) (spots : List Spot) (v c : ℕ) : Type 0 where
  pub one : at.one v ≡ at.one c + (spot_of spots (name v)).one
  pub two : at.two v ≡ at.two c + (spot_of spots (name v)).two
  pub over : (spot_of spots (name v)).over ≡ name c

-- what the first k steps covered is under the vertices whose places it took
abbrev pub AreUnder : (ℕ → Step) → ℕ → (ℕ → ℕ) → List Spot → Type 0
AreUnder steps k name spots =
    (l i : ℕ) → l < k → (steps l).first < i → i < (steps l).last
    → IsUnder (face_counts steps (suc l)) name spots ((stage_after steps l).vertex i) ((stage_after steps (suc l)).vertex (moved (steps l) i))

-- the ranks below a number name vertices below it, each its own
pub record AreNamed (name : ℕ → ℕ) (count : ℕ) : Type 0 where
  pub below : (r : ℕ) → r < count → name r < count
  pub one : (r q : ℕ) → r < count → q < count → name r ≡ name q → r ≡ q

-- a step at a stage with coordinates, and the names of ranks
pub record Setting : Type 0 where
  pub stage : Stage
  pub step : Step
  pub at : Coordinates
  pub name : ℕ → ℕ

-- A step of a run with the row over which it comes, while these differences are kept.
pub record IsRowOver (w : Setting) (spots : List Spot) (row : List ℕ) : Type 0 where
  pub stage : IsStage w.stage
  pub made : ℕ
  pub falling : IsFalling w.stage w.at made
  pub few : made + w.step.faces < 1048576
  pub step : IsStep w.stage w.step
  pub row_is : IsRow row w.stage w.step w.name
  pub room : w.stage.count + w.step.vertices ≤ length spots
  pub small : length spots < 65536
  pub named : AreNamed w.name (length spots)
  pub gaps : AreGaps w.stage w.at w.name spots

-- Its cuts and its new vertices too; its turns are read off the coordinates.
pub record IsPut (w : Setting) (spots : List Spot) (row cuts news : List ℕ) : Type 0 where
  pub over : IsRowOver w spots row
  pub cuts_are : AreCuts cuts w.step
  pub news_are : AreNew news w.stage w.step w.name
  pub turned : IsTurned w.stage w.at w.step
  pub turns : (i : ℕ) → w.step.turn i ≡ turn_from w.stage w.at (w.step.cut i) (w.step.cut (suc i) - w.step.cut i - 1)

-- What is kept of a covered vertex that counts `gain` of the new faces as two: none, so that it goes with p; all, so that it goes with q; or others, so that it goes with z. It was above q in coordinate one by `fall`, and above p in coordinate two by `rise`.
unfoldable pub settled : ℕ → ℕ → ℕ → ℕ → ℕ → ℕ → ℕ → Spot
settled faces gain fall rise p z q =
    if gain == 0 then record { one = 0; two = rise; over = p }
    else if gain == faces then record { one = fall; two = 0; over = q }
    else record { one = fall + (faces - gain); two = rise + gain; over = z }

-- what is kept of the vertex at place i, strictly within the row
abbrev pub settled_at : Setting → ℕ → Spot
settled_at w i =
    settled w.step.faces (two_gain w.step i) (w.at.one (w.stage.vertex i) - w.at.one (w.stage.vertex w.step.last)) (w.at.two (w.stage.vertex i) - w.at.two (w.stage.vertex w.step.first)) (w.name (w.stage.vertex w.step.first)) (w.name w.stage.count)
    (w.name (w.stage.vertex w.step.last))

-- the vertices strictly within the row and before place m are settled
pub record AreSettled (w : Setting) (m : ℕ) (old now : List Spot) : Type 0 where
  pub passed : (i : ℕ) → w.step.first < i → i < m → spot_of now (w.name (w.stage.vertex i)) ≡ settled_at w i
  pub others : (u : ℕ) → ((i : ℕ) → w.step.first < i → i < m → w.name (w.stage.vertex i) ≢ u) → spot_of now u ≡ spot_of old u

-- all of them are, and their coordinate two rises so far up to the last of them
pub record IsRowSettled (w : Setting) (rise : ℕ) (old now : List Spot) : Type 0 where
  pub settled : AreSettled w w.step.last old now
  pub risen : (i : ℕ) → suc i ≡ w.step.last → rise + w.at.two (w.stage.vertex w.step.first) ≡ w.at.two (w.stage.vertex i)

-- the first j of the vertices us but the first are linked each to the one before it
pub record AreLinked (us : List ℕ) (j : ℕ) (old now : List Spot) : Type 0 where
  pub linked : (i : ℕ) → suc i < j → spot_of now (slice_index us (suc i)) ≡ record { one = 0; two = 0; over = slice_index us i }
  pub others : (u : ℕ) → ((i : ℕ) → suc i < j → slice_index us (suc i) ≢ u) → spot_of now u ≡ spot_of old u

-- what a step writes
pub record IsWritten (w : Setting) (old now : List Spot) : Type 0 where
  pub within : (i : ℕ) → w.step.first < i → i < w.step.last → spot_of now (w.name (w.stage.vertex i)) ≡ settled_at w i
  pub first_new : spot_of now (w.name w.stage.count) ≡ record { one = w.at.one (w.stage.vertex w.step.first) - w.at.one (w.stage.vertex w.step.last) + w.step.faces; two = 0; over = w.name (w.stage.vertex w.step.first) }
  pub next_new : (i : ℕ) → suc i < w.step.vertices → spot_of now (w.name (w.stage.count + suc i)) ≡ record { one = 0; two = 0; over = w.name (w.stage.count + i) }
  pub last : spot_of now (w.name (w.stage.vertex w.step.last))
      ≡ record { one = 0; two = w.at.two (w.stage.vertex w.step.last) - w.at.two (w.stage.vertex w.step.first) + w.step.faces; over = w.name (w.stage.count + (w.step.vertices - 1)) }
  pub others : (u : ℕ) → ((i : ℕ) → w.step.first < i → i ≤ w.step.last → w.name (w.stage.vertex i) ≢ u) → ((i : ℕ) → i < w.step.vertices → w.name (w.stage.count + i) ≢ u) → spot_of now u ≡ spot_of old u

-- what is kept after k steps, and how many places the contour has
pub record AreKept (steps : ℕ → Step) (name : ℕ → ℕ) (k width : ℕ) (spots : List Spot) : Type 0 where
  pub wide : width ≡ (stage_after steps k).width
  pub gaps : AreGaps (stage_after steps k) (face_counts steps k) name spots
  pub under : AreUnder steps k name spots

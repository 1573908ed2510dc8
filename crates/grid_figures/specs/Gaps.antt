-- Schnyder's coordinates, each kept as a difference from another vertex.
use Rattle.std.specs.Prelude.{ℕ, suc, ◌+◌, ◌<◌, ◌≤◌, ◌≡◌, ◌≢◌, List, length, slice_index, take, sum_by}
use Rattle.contour_runs.specs.Runs.{Step, Stage, IsStep}
use Rattle.contour_runs.specs.Laws.{IsStage}
use Rattle.contour_runs.specs.Wood.{Coordinates, drawn}
use Rattle.contour_runs.specs.Contours.{IsFalling}
use Rattle.contour_runs.specs.WoodPointsLaws.{IsCornered}
use Rattle.order_drawings.specs.Rows.{IsRow}

-- A vertex v has gone under a later one, w = `covers` at v, and has the place of the contour that w has. In coordinate one it lies its drop below where w's span reaches above w, and in coordinate two its rise above w.
pub record IsUnder (g : Stage) (at : Coordinates) (drops rises spans covers : List ℕ) (v : ℕ) : Type 0 where
  pub later : v < slice_index covers v
  pub placed : slice_index covers v < g.count
  pub together : g.place (slice_index covers v) ≡ g.place v
  pub one : at.one v + slice_index drops v ≡ at.one (slice_index covers v) + slice_index spans (slice_index covers v)
  pub two : at.two v ≡ at.two (slice_index covers v) + slice_index rises v

-- Along the contour coordinate one falls to each vertex by its drop and coordinate two rises by its rise; each vertex that has left the contour is under another; and the spans are small.
pub record AreGaps (g : Stage) (at : Coordinates) (drops rises spans covers : List ℕ) : Type 0 where
  pub drop : (i : ℕ) → suc i < g.width → at.one (g.vertex i) ≡ at.one (g.vertex (suc i)) + slice_index drops (g.vertex (suc i))
  pub rise : (i : ℕ) → suc i < g.width → at.two (g.vertex (suc i)) ≡ at.two (g.vertex i) + slice_index rises (g.vertex (suc i))
  pub under : (v : ℕ) → v < g.count → g.vertex (g.place v) ≢ v → IsUnder g at drops rises spans covers v
  pub small : (v : ℕ) → slice_index spans v < g.count

-- Four tables of gaps have an entry for each of n vertices, which are few.
pub record AreTables (n : ℕ) (drops rises spans covers : List ℕ) : Type 0 where
  pub drops_of_all : length drops ≡ n
  pub rises_of_all : length rises ≡ n
  pub spans_of_all : length spans ≡ n
  pub covers_of_all : length covers ≡ n
  pub few : n < 4096

-- A step from a stage of a run, with the row `us` over which it puts its vertex, v.
pub record IsPut (g : Stage) (s : Step) (at : Coordinates) (us : List ℕ) (v : ℕ) : Type 0 where
  pub stage : IsStage g
  pub falling : IsFalling g at
  pub step : IsStep g s
  pub row : IsRow g s us
  pub count : g.count ≡ v

-- the sum of the gaps of some vertices
abbrev pub gap_sum : List ℕ → List ℕ → ℕ
gap_sum gaps us = sum_by (slice_index gaps) us

-- The first j of the vertices us are passed: the gap of each is now the sum up to it, and 1 more.
pub record ArePassed (us : List ℕ) (j : ℕ) (gaps gaps' : List ℕ) : Type 0 where
  pub passed : (i : ℕ) → i < j → slice_index gaps' (slice_index us i) ≡ gap_sum gaps (take (suc i) us) + 1
  pub others : (u : ℕ) → ((i : ℕ) → i < j → slice_index us i ≢ u) → slice_index gaps' u ≡ slice_index gaps u

-- The first j of the vertices us are noted as covered by v.
pub record AreCovered (v : ℕ) (us : List ℕ) (j : ℕ) (covers covers' : List ℕ) : Type 0 where
  pub covered : (i : ℕ) → i < j → slice_index covers' (slice_index us i) ≡ v
  pub others : (u : ℕ) → ((i : ℕ) → i < j → slice_index us i ≢ u) → slice_index covers' u ≡ slice_index covers u

-- The gaps of a run whose last vertex has covered all but the base.
pub record AreLastGaps (g : Stage) (at : Coordinates) (drops rises spans covers : List ℕ) : Type 0 where
  pub stage : IsStage g
  pub falling : IsFalling g at
  pub kept : AreGaps g at drops rises spans covers
  pub count : g.count ≡ length covers
  pub three : g.width ≡ 3
  pub top : suc (g.vertex 1) ≡ g.count
  pub corners : IsCornered (drawn at) (length covers)

-- The gaps are added up from the vertex k on, and at the base, to what `at` tells.
pub record AreSums (k : ℕ) (at : ℕ → ℕ) (old now : List ℕ) : Type 0 where
  pub first : slice_index now 0 ≡ at 0
  pub second : slice_index now 1 ≡ at 1
  pub done : (u : ℕ) → k ≤ u → u < length old → slice_index now u ≡ at u
  pub left : (u : ℕ) → 2 ≤ u → u < k → slice_index now u ≡ slice_index old u

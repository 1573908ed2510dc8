-- A canonical order is a run of insertions over the contour, whose faces are those of the map.
use Rattle.std.specs.Prelude.{ℕ, ◌+◌, ◌-◌, ◌<◌, ◌≤◌, ◌≡◌, List, map, length, slice_index}
use Rattle.map_lists.specs.Lists.{Lists}
use Rattle.map_theory.specs.Maps.{Dart, HasDart, follows}
use Rattle.plane_laws.specs.Triangulations.{IsTriangulation}
use Rattle.plane_peeling.specs.Restricted.{IsFaceOfThree, IsDartOfThree}
use Rattle.canon_order.specs.Orders.{IsCanonicalOrder}
use Rattle.contour_runs.specs.Runs.{Step, stage_after, IsRun, contour, IsFaceOf}

-- The dart (x, y) is on a face that a step makes, with each vertex of the run named by its entry in `at`.
pub record IsMadeByStep (at : List ℕ) (steps : ℕ → Step) (x y : ℕ) : Type 0 where
  pub step : ℕ
  pub place : ℕ
  pub a : ℕ
  pub b : ℕ
  pub v : ℕ
  pub earlier : step + 2 < length at
  pub face : IsFaceOf steps step place a b v
  pub dart : IsDartOfThree (slice_index at a) (slice_index at b) (slice_index at v) x y

-- A run with the contours of an order, as vertices named by their entries in `at`: from the base up to the last vertex, which covers all but the base. Each face made is a face of the map, and each face of the map but the one on the other side of the base is made.
pub record IsOrderRun (lists : Lists) (base : Dart) (at : List ℕ) (cycle : ℕ → List ℕ) (steps : ℕ → Step) : Type 0 where
  pub run : IsRun steps (length at - 2)
  pub end : (stage_after steps (length at - 2)).width ≡ 3
  pub contours : (k : ℕ) → k + 2 ≤ length at → cycle (k + 2) ≡ map (slice_index at) (contour (stage_after steps k))
  pub faces : (k i a b v : ℕ) → k + 2 < length at → IsFaceOf steps k i a b v → IsFaceOfThree lists (slice_index at a) (slice_index at b) (slice_index at v)
  pub made : (x y : ℕ) → HasDart lists x y → ¬ IsDartOfThree base.0 base.1 (follows lists base.1 base.0) x y → IsMadeByStep at steps x y

-- Each canonical order has such a run.
abbrev pub OrderIsRun : Type 0
OrderIsRun =
    (lists : Lists) (base : Dart) (at : List ℕ) → IsTriangulation lists → (order : IsCanonicalOrder lists base at) → (steps : ℕ → Step) × IsOrderRun lists base at order.cycle steps

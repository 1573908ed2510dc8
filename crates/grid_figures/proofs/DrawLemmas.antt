-- Points of a run, and what a drawing is made of.
use Rattle.std.proofs.Common.{◌≡◌, ◌+◌, ◌-◌, ◌^◌, ◌<◌, ℕ, List, length, get_or, All, pos, refl, ap₂, ◌∙◌, arith}
use Rattle.map_lists.specs.Lists.{Lists}
use Rattle.map_theory.specs.Maps.{Dart}
use Rattle.pg_plane.specs.declared.grid_points.Point.{Point}
use Rattle.canon_order.specs.Orders.{IsCanonicalOrder, IsRankOf}
use Rattle.contour_runs.specs.Runs.{Step}
use Rattle.order_drawings.specs.OrderRuns.{IsOrderRun}
use Rattle.contour_runs.specs.Wood.{wood_points, point_of}
use Rattle.contour_runs.proofs.Corners.{in_grid}
use Rattle.order_drawings.specs.SchnyderDrawings.{AreWoodPoints}
use Rattle.order_drawings.specs.Rows.{AreAllRows}
use Rattle.order_drawings.specs.Points.{ArePointsAt}
use Rattle.grid_figures.specs.Points.{ArePoints}

-- points at the places of a run
pub ArePoints-at :
    (steps : ℕ → Step) (n : ℕ) (xs ys ranks : List ℕ) (points : List Point) → ArePointsAt xs ys ranks points → All (λ k. k < length xs) ranks
    → ((k : ℕ) → k < length xs → (get_or xs k 0 ≡ (wood_points steps n).one k) × (get_or ys k 0 ≡ (wood_points steps n).two k))
    → ArePoints steps n ranks points
ArePoints-at steps n xs ys ranks points h within places = record {
  count = h.count;
  placed = λ v l.
      let at = places (get_or ranks v 0) (within v 0 l) in
      h.placed v l ∙ ap₂ (λ x y. record { x = pos x; y = pos y }) at.0 at.1;
}

-- they are small
pub small_points : (steps : ℕ → Step) (rows : Lists) (k : ℕ) → AreAllRows steps rows → length rows + 2 < 4096 → k < length rows + 2 → ((wood_points steps (length rows)).one k < 2 ^ 20) × ((wood_points steps (length rows)).two k < 2 ^ 20)
small_points steps rows k h few l =
    let some = h.some in
    let g = in_grid steps (length rows) (length rows + 2) record { run = h.rows_are.run; count = refl; some = omega arith; end = h.end } k l in
    (omega (arith, g.0), omega (arith, g.1))

-- the points are those of the order
pub AreWoodPoints-order :
    (lists : Lists) (base : Dart) (at ranks : List ℕ) (order : IsCanonicalOrder lists base at) → IsRankOf ranks at → (steps : ℕ → Step) → IsOrderRun lists base at order.cycle steps
    → (m : ℕ) (points : List Point) → m + 2 ≡ length at → ArePoints steps m ranks points → AreWoodPoints lists base at order.cycle points
AreWoodPoints-order lists base at ranks order rank steps run m points n h =
    let c = h.count in
    let count = rank.count in
    let count' = order.count in
    let e : m ≡ length at - 2 = omega arith in
    record {
      steps = steps;
      order = run;
      count = omega arith;
      placed = λ k l.
          let v = order.vertices k 0 l in
          h.placed (get_or at k 0) (omega arith) ∙ ap₂ (λ m k. point_of (wood_points steps m) k) e (rank.of_place k l);
    }

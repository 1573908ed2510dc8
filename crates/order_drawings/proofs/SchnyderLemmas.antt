-- Schnyder's coordinates over a canonical order are a drawing.
use Rattle.std.proofs.Common.{◌≡◌, ℕ, ◌-◌, ◌<◌, List, length, pos, sym, ap, ap₂, ◌∙◌, subst, arith}
use Rattle.std.proofs.lemmas.Int.{ints}
use Rattle.pg_plane.specs.declared.grid_points.Point.{Point}
use Rattle.map_lists.specs.Lists.{Lists}
use Rattle.map_theory.specs.Maps.{Dart, HasDart}
use Rattle.plane_laws.specs.Triangulations.{IsTriangulation}
use Rattle.plane_drawings.specs.Drawing.{IsInGrid}
use Rattle.canon_order.specs.Orders.{IsCanonicalOrder}
use Rattle.order_drawings.specs.RunDrawings.{IsCounterclockwiseRun, CounterclockwiseRunDraws}
use Rattle.contour_runs.specs.Wood.{wood_points, point_of}
use Rattle.contour_runs.specs.WoodPointsLaws.{StandsAt}
use Rattle.contour_runs.proofs.Corners.{in_grid, cornered, counterclockwise, outside, IsWholeRun}
use Rattle.order_drawings.specs.SchnyderDrawings.{AreWoodPoints, IsSchnyderDrawing}

module _ (lists : Lists) (base : Dart) (at : List ℕ) (points : List Point) (triangulation : IsTriangulation lists) (dart : HasDart lists base.0 base.1) (order : IsCanonicalOrder lists base at) (h : AreWoodPoints lists base at order.cycle points) where
  abbrev last : ℕ
  last = length at - 2

  abbrev point : ℕ → Point
  point = point_of (wood_points h.steps last)

  -- the run of the order is a whole one
  whole : IsWholeRun h.steps last (length at)
  whole = let n = order.count in let some = triangulation.some in record { run = h.order.run; count = omega arith; some = omega arith; end = h.order.end }

  good : IsCounterclockwiseRun h.steps (length at) point
  good = record { made = λ k i a b v l f. counterclockwise h.steps last (length at) whole k i a b v (omega arith) f; outside = outside h.steps last (length at) whole }

  -- a vertex that stands at a point
  at_point : (v x y : ℕ) → StandsAt (wood_points h.steps last) v x y → point v ≡ record { x = pos x; y = pos y }
  at_point v x y e = ap₂ (λ n m. record { x = pos n; y = pos m }) e.0 e.1

  pub drawing : CounterclockwiseRunDraws → IsSchnyderDrawing lists base points
  drawing law =
      let d = law lists base at h.steps point points triangulation dart order h.order good h.placed in
      let c = cornered h.steps last (length at) whole in
      record {
        counterclockwise = d.counterclockwise;
        plane = d.plane;
        rotations = d.rotations;
        grid = λ v l.
            let k = d.each v l in
            let g = in_grid h.steps last (length at) whole k.0 (let small = k.1 in omega arith) in
            subst (λ z. IsInGrid (pos (length lists - 2)) (pos (length lists - 2)) z) (sym k.2) record { left = omega (arith, ints); right = omega (arith, ints, g.0); bottom = omega (arith, ints); top = omega (arith, ints, g.1) };
        root_one = d.first ∙ at_point 0 (length at - 2) 1 c.first ∙ ap (λ m. record { x = pos (m - 2); y = pos 1 }) order.count;
        root_two = d.second ∙ at_point 1 0 (length at - 2) c.second ∙ ap (λ m. record { x = pos 0; y = pos (m - 2) }) order.count;
        root_three = d.top ∙ ap (λ m. point (m - 1)) (sym order.count) ∙ at_point (length at - 1) 1 0 c.top;
      }

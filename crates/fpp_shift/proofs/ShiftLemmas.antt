-- The shift points of a canonical order are a drawing.
use Rattle.std.proofs.Common.{◌≡◌, ℕ, ◌-◌, ◌*◌, ◌<◌, ◌≤◌, List, length, pos, sym, ap, ap₂, ◌∙◌, subst, arith}
use Rattle.std.proofs.lemmas.Int.{ints}
use Rattle.pg_plane.specs.declared.grid_points.Point.{Point}
use Rattle.map_lists.specs.Lists.{Lists}
use Rattle.map_theory.specs.Maps.{Dart, HasDart}
use Rattle.plane_laws.specs.Triangulations.{IsTriangulation}
use Rattle.plane_drawings.specs.Drawing.{IsInGrid}
use Rattle.canon_order.specs.Orders.{IsCanonicalOrder}
use Rattle.order_drawings.specs.RunDrawings.{IsCounterclockwiseRun, CounterclockwiseRunDraws}
use Rattle.fpp_shift.specs.Shift.{shift_points, point_of}
use Rattle.fpp_shift.specs.Laws.{StandsAt, IsCornered}
use Rattle.fpp_shift.proofs.Areas.{opened_area}
use Rattle.fpp_shift.proofs.Opening.{opened_run}
use Rattle.fpp_shift.proofs.Corners.{in_grid, cornered, base_clockwise}
use Rattle.fpp_shift.specs.ShiftDrawings.{AreShiftPoints, IsShiftDrawing}

module _ (lists : Lists) (base : Dart) (at : List ℕ) (points : List Point) (triangulation : IsTriangulation lists) (dart : HasDart lists base.0 base.1) (order : IsCanonicalOrder lists base at) (h : AreShiftPoints lists base at order.cycle points) where
  abbrev last : ℕ
  last = length at - 2

  abbrev point : ℕ → Point
  point = point_of (shift_points h.steps last)

  some_at : 3 ≤ length at
  some_at = let c = order.count in let s = triangulation.some in omega arith

  good : IsCounterclockwiseRun h.steps (length at) point
  good =
      record {
        made = λ k i a b v l f. opened_area (shift_points h.steps last) a b v (opened_run h.steps last k i a b v h.order.run (omega arith) f);
        outside = base_clockwise h.steps last (length at) h.order.run (omega arith) some_at h.order.end;
      }

  corners : IsCornered (shift_points h.steps last) (length at)
  corners = let some = some_at in cornered h.steps last (length at) h.order.run (omega arith) some h.order.end

  -- a vertex that stands at a point
  at_point : (v x y : ℕ) → StandsAt (shift_points h.steps last) v x y → point v ≡ record { x = pos x; y = pos y }
  at_point v x y e = ap₂ (λ n m. record { x = pos n; y = pos m }) e.0 e.1

  pub drawing : CounterclockwiseRunDraws → IsShiftDrawing lists base points
  drawing law =
      let d = law lists base at h.steps point points triangulation dart order h.order good h.placed in
      let n = order.count in
      let c = corners in
      record {
        counterclockwise = d.counterclockwise;
        plane = d.plane;
        rotations = d.rotations;
        grid = λ v l.
            let k = d.each v l in
            let g = in_grid h.steps last (length at) k.0 h.order.run (omega arith) (let small = k.1 in omega arith) in
            subst (λ z. IsInGrid (pos (2 * length lists - 4)) (pos (length lists - 2)) z) (sym k.2)
            record { left = omega (arith, ints); right = omega (arith, ints, g.0); bottom = omega (arith, ints); top = omega (arith, ints, g.1) };
        first = d.first ∙ at_point 0 0 0 c.first;
        second = d.second ∙ at_point 1 (2 * length at - 4) 0 c.second ∙ ap (λ m. record { x = pos (2 * m - 4); y = pos 0 }) n;
        top = d.top ∙ ap (λ m. point (m - 1)) (sym n) ∙ at_point (length at - 1) (length at - 2) (length at - 2) c.top ∙ ap (λ m. record { x = pos (m - 2); y = pos (m - 2) }) n;
      }

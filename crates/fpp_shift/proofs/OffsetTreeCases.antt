-- The tree of offsets of a triangle, on a worked case: the first vertex leads to the third, and that to the second.
use Rattle.std.proofs.Common.{◌≡◌, ℕ, zero, suc, ◌<◌, ◌==◌, Some, None, pos, refl, arith}
use Rattle.std.specs.Prelude.{if◌then◌else◌}
use Rattle.contour_runs.specs.Runs.{Step, moved, vertex_after, place_after}
use Rattle.fpp_shift.specs.Shift.{shift, shift_points, x_after, y_after}
use Rattle.fpp_shift.specs.Grown.{Links, IsOffsetTree}

abbrev triangle_steps : ℕ → Step
triangle_steps k = record { first = 0; last = 1 }

abbrev triangle_links : Links
triangle_links = record {
  x = λ k. if k == 0 then pos 0 else pos 1;
  y = λ k. if k == 2 then pos 1 else pos 0;
  left = λ k. None;
  right = λ k. if k == 0 then Some 2 else if k == 2 then Some 1 else None;
}

heights : (k : ℕ) → k < 3 → triangle_links.y k ≡ pos ((shift_points triangle_steps 1).y k)
unfolding y_after
heights zero l = refl
heights (suc zero) l = refl
heights (suc (suc zero)) l = refl
heights (suc (suc (suc k))) l = absurd (omega arith)

triangle_tree : IsOffsetTree (λ k. k) triangle_steps 1 triangle_links
unfolding shift x_after y_after moved vertex_after place_after
triangle_tree = grind (arith, heights)

-- The grid, the three corners, and the face of the base.
use Rattle.std.proofs.Common.{◌≡◌, ℕ, zero, suc, ◌+◌, ◌-◌, ◌*◌, ◌<◌, ◌≤◌, pos, neg_ℤ, ◌<ℤ◌, ap, ◌∙◌, arith}
use Rattle.std.proofs.lemmas.Int.{ints}
use Rattle.pg_plane.specs.Geometry.{area}
use Rattle.pg_plane.proofs.Crossing.{area_back}
use Rattle.contour_runs.specs.Runs.{Step, Stage, stage_after, IsStep, IsRun}
use Rattle.contour_runs.specs.Laws.{IsStage}
use Rattle.contour_runs.proofs.Stages.{IsStage-run, IsRun-less, count-stage_after}
use Rattle.fpp_shift.specs.Shift.{Places, shift_points, point_of}
use Rattle.fpp_shift.specs.Contours.{IsShift}
use Rattle.fpp_shift.specs.Opened.{IsOpened}
use Rattle.fpp_shift.specs.Laws.{StandsAt, IsCornered}
use Rattle.fpp_shift.proofs.Areas.{opened_area}
use Rattle.fpp_shift.proofs.Steps.{places_after, top_across, top_along, IsShift-run}
use Rattle.fpp_shift.proofs.Opening.{opened_new}

pub in_grid : (steps : ℕ → Step) (n m v : ℕ) → IsRun steps n → m ≡ n + 2 → v < m → ((shift_points steps n).x v ≤ 2 * m - 4) × ((shift_points steps n).y v ≤ m - 2)
in_grid steps n m v run e l =
    let h = IsShift-run steps n run in
    let c = count-stage_after steps n in
    (omega arith, omega arith)

-- a vertex over the whole contour
top_corner : (g : Stage) (s : Step) (at : Places) → IsStage g → IsShift g at → IsStep g s → g.width + s.first + 2 - s.last ≡ 3 → (v : ℕ) → v ≡ g.count → StandsAt (places_after g s at) v (g.count - 1) (g.count - 1)
top_corner g s at stage h step e v ev =
    let p : g.vertex s.first ≡ 0 = let z : s.first ≡ 0 = omega arith in ap g.vertex z ∙ stage.begin in
    let q = stage.end s.last (omega arith) in
    let a = top_across g s at stage h step v ev in
    let b = top_along g s at stage h step v ev in
    let px = ap at.x p ∙ h.first_x in
    let py = ap at.y p ∙ h.first_y in
    let qx = ap (λ z. at.x z + 4) q ∙ h.second_x in
    let qy = ap at.y q ∙ h.second_y in
    (omega (arith, a, b, px, py, qx, qy), omega (arith, a, b, px, py, qx, qy))

pub cornered : (steps : ℕ → Step) (n m : ℕ) → IsRun steps n → m ≡ n + 2 → 3 ≤ m → (stage_after steps n).width ≡ 3 → IsCornered (shift_points steps n) m
cornered steps zero m run e l w = absurd (omega arith)
cornered steps (suc n) m run e l w =
    let h = IsShift-run steps (suc n) run in
    let c = count-stage_after steps n in
    let less = IsRun-less steps n (suc n) (omega arith) run in
    let t = top_corner (stage_after steps n) (steps n) (shift_points steps n) (IsStage-run steps n less) (IsShift-run steps n less) (run n (omega arith)) w (m - 1) (omega arith) in
    record { first = (h.first_x, h.first_y); second = (omega arith, h.second_y); top = (t.0 ∙ omega arith, t.1 ∙ omega arith) }

cornered_base : (at : Places) (m : ℕ) → 3 ≤ m → IsCornered at m → area (point_of at 1) (point_of at 0) (point_of at (m - 1)) <ℤ pos 0
cornered_base at m l c = grind (arith, IsOpened, opened_new, opened_area, area_back, point_of, area, neg_ℤ, pos, ints)

pub base_clockwise : (steps : ℕ → Step) (n m : ℕ) → IsRun steps n → m ≡ n + 2 → 3 ≤ m → (stage_after steps n).width ≡ 3 → area (point_of (shift_points steps n) 1) (point_of (shift_points steps n) 0) (point_of (shift_points steps n) (m - 1)) <ℤ pos 0
base_clockwise steps n m run e l w = cornered_base (shift_points steps n) m l (cornered steps n m run e l w)

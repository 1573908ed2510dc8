-- A face is spread when it is made, and stays so.
use Rattle.std.proofs.Common.{ℕ, suc, ◌<◌, ◌≤◌, refl, subst, arith}
use Rattle.contour_runs.specs.Runs.{Step, Stage, after, stage_after, IsStep, IsRun, IsFaceOf}
use Rattle.contour_runs.specs.Laws.{IsStage}
use Rattle.contour_runs.proofs.Places.{moved-le, place_after-older}
use Rattle.contour_runs.proofs.Upward.{upward}
use Rattle.contour_runs.proofs.Stages.{corners_placed, IsStage-run, IsRun-less, count-stage_after}
use Rattle.contour_runs.specs.Wood.{Coordinates, coordinates_after, coordinates}
use Rattle.contour_runs.specs.Spread.{IsSpread}
use Rattle.contour_runs.specs.Contours.{IsFalling}
use Rattle.contour_runs.proofs.Steps.{one_gain-high, two_gain-high, gain_both, gain-le, one_after-older, two_after-older, one_after-new, two_after-new, one_after-contour, two_after-contour, falls_or_same, IsFalling-run}

module _ (g : Stage) (s : Step) (at : Coordinates) (stage : IsStage g) (step : IsStep g s) (h : IsFalling g at) where
  spread_made : (i : ℕ) → s.first ≤ i → i < s.last → IsSpread (coordinates_after g s at) (g.vertex i) (g.vertex (suc i)) g.count
  spread_made i l m =
      let a1 = one_after-contour g s at stage step i (omega arith) in
      let a2 = two_after-contour g s at stage step i (omega arith) in
      let b1 = one_after-contour g s at stage step (suc i) (omega arith) in
      let b2 = two_after-contour g s at stage step (suc i) (omega arith) in
      let c1 = one_after-new g s at g.count refl in
      let c2 = two_after-new g s at g.count refl in
      let ab = h.falls i (suc i) (omega arith) (omega arith) in
      let ab' = h.rises i (suc i) (omega arith) (omega arith) in
      let bq = falls_or_same g s at stage step h (suc i) s.last m step.within in
      let pa = h.rises s.first i l (omega arith) in
      let gain = gain-le s i (suc i) (omega arith) in
      let high' = two_gain-high s (suc i) (omega arith) in
      let both = gain_both s i in
      record {
        left = omega arith;
        within = omega arith;
        under = omega arith;
        up = omega arith;
        first_sum = omega arith;
        second_sum = omega arith;
      }

-- a face under way: spread, with its corners placed from left to right
record IsKept (g : Stage) (at : Coordinates) (a b v : ℕ) : Type 0 where
  pub spread : IsSpread at a b v
  pub left : g.place a ≤ g.place v
  pub right : g.place v ≤ g.place b

-- it stays so over a step
kept_after : (g : Stage) (s : Step) (at : Coordinates) (a b v : ℕ) → IsStep g s → a < g.count → b < g.count → v < g.count → IsKept g at a b v → IsKept (after g s) (coordinates_after g s at) a b v
kept_after g s at a b v step la lb lv k =
    let a1 = one_after-older g s at a la in
    let a2 = two_after-older g s at a la in
    let b1 = one_after-older g s at b lb in
    let b2 = two_after-older g s at b lb in
    let v1 = one_after-older g s at v lv in
    let v2 = two_after-older g s at v lv in
    let av = gain-le s (g.place a) (g.place v) k.left in
    let vb = gain-le s (g.place v) (g.place b) k.right in
    let v3 = gain_both s (g.place v) in
    record {
      spread = record {
        left = omega (arith, a1, b1, av.0, vb.0, k.spread.left);
        within = omega (arith, a1, v1, av.0, k.spread.within);
        under = omega (arith, v2, b2, vb.1, k.spread.under);
        up = omega (arith, a2, b2, av.1, vb.1, k.spread.up);
        first_sum = omega (arith, v1, v2, a1, a2, gain_both s (g.place a), v3, k.spread.first_sum);
        second_sum = omega (arith, v1, v2, b1, b2, gain_both s (g.place b), v3, k.spread.second_sum);
      };
      left = omega (arith, place_after-older g s a la, place_after-older g s v lv, moved-le s (g.place a) (g.place v) step.order k.left);
      right = omega (arith, place_after-older g s v lv, place_after-older g s b lb, moved-le s (g.place v) (g.place b) step.order k.right);
    }

-- each face that a run makes is spread from then on
pub spread_run : (steps : ℕ → Step) (n k i a b v : ℕ) → IsRun steps n → k < n → IsFaceOf steps k i a b v → IsSpread (coordinates steps n) a b v
spread_run steps n k i a b v run l f =
    let g = stage_after steps k in
    let at = coordinates steps k in
    let s = steps k in
    let less = IsRun-less steps k n (omega arith) run in
    let stage = IsStage-run steps k less in
    let h = IsFalling-run steps k less in
    let step = run k l in
    let lo = f.low in
    let hi = f.high in
    let c = count-stage_after steps k in
    let made : IsKept (after g s) (coordinates_after g s at) (g.vertex i) (g.vertex (suc i)) g.count =
    record { spread = spread_made g s at stage step h i lo hi; left = (corners_placed g s stage step i lo hi).0; right = (corners_placed g s stage step i lo hi).1 } in
    let begun : IsKept (after g s) (coordinates_after g s at) a b v =
    subst (λ z. IsKept (after g s) (coordinates_after g s at) a b z) f.new
    (subst (λ z. IsKept (after g s) (coordinates_after g s at) a z g.count) f.right (subst (λ z. IsKept (after g s) (coordinates_after g s at) z (g.vertex (suc i)) g.count) f.left made)) in
    (upward (λ m. IsKept (stage_after steps m) (coordinates steps m) a b v) (suc k) n (omega arith) begun
    (λ m low high kept. let d = count-stage_after steps m in kept_after (stage_after steps m) (steps m) (coordinates steps m) a b v (run m high) (omega arith) (omega arith) (omega arith) kept)).spread

-- A face is opened so when it is made, and stays so.
use Rattle.std.proofs.Common.{◌≡◌, ◌⊎◌, ℕ, suc, ◌+◌, ◌-◌, ◌*◌, ◌<◌, ◌≤◌, refl, subst, inl, inr, arith}
use Rattle.std.proofs.lemmas.Bool.{cases_lt}
use Rattle.std.proofs.lemmas.Nat.{mul-le}
use Rattle.contour_runs.specs.Runs.{Step, Stage, after, stage_after, IsStep, IsRun, IsFaceOf}
use Rattle.contour_runs.specs.Laws.{IsStage}
use Rattle.contour_runs.proofs.Places.{moved-le, place_after-older}
use Rattle.contour_runs.proofs.Upward.{upward}
use Rattle.contour_runs.proofs.Stages.{corners_placed, IsStage-run, IsRun-less, count-stage_after}
use Rattle.fpp_shift.specs.Shift.{shift, Places, shift_points}
use Rattle.fpp_shift.specs.Contours.{IsShift}
use Rattle.fpp_shift.specs.Opened.{IsOpened}
use Rattle.fpp_shift.proofs.Steps.{shift-low, shift-between, shift-high, shift-le, places_after, x_after-older, y_after-older, x_after-contour, y_after-contour, top_across, top_along, IsShift-run}

-- moves to the right that do not fall from a over v to b leave it so
pub opened_more : (at to : Places) (a b v r s t : ℕ) → to.x a ≡ at.x a + r → to.x v ≡ at.x v + s → to.x b ≡ at.x b + t → to.y a ≡ at.y a → to.y v ≡ at.y v → to.y b ≡ at.y b → r ≤ s → s ≤ t → IsOpened at a b v → IsOpened to a b v
opened_more at to a b v r s t xa xv xb ya yv yb l m o =
    record {
      wide = o.wide;
      long = o.long;
      left = o.left;
      tall = o.tall;
      more = o.more + s - r;
      most = o.most + t - s;
      b_across = omega arith;
      b_along = omega arith;
      v_across = omega arith;
      v_along = omega arith;
      positive = o.positive;
    }

one_positive : (m n : ℕ) → 0 < m → 0 < n → 0 < m * n
one_positive m n a b = let h = mul-le 1 1 m n a b in omega arith

-- a face that is made, by the diagonals of its corners: with a side that rises and falls by more, or with its top strictly between the diagonals of the two others
pub opened_new : (at : Places) (a b v : ℕ) → at.x a + at.y b ≤ at.x b + at.y a → at.x a + at.y a ≤ at.x b + at.y b → at.x v + at.y a ≤ at.x a + at.y v → at.x b + at.y b ≤ at.x v + at.y v → ((at.x a + at.y b < at.x b + at.y a) × (at.x a + at.y a < at.x b + at.y b)) ⊎ ((at.x v + at.y a < at.x a + at.y v) × (at.x b + at.y b < at.x v + at.y v) × (at.x a < at.x b)) → IsOpened at a b v
opened_new at a b v e f p q positive =
    let wide : ℕ = at.x b + at.y a - (at.x a + at.y b) in
    let long : ℕ = at.x b + at.y b - (at.x a + at.y a) in
    let left : ℕ = at.x a + at.y v - (at.x v + at.y a) in
    let tall : ℕ = at.x v + at.y v - (at.x b + at.y b) in
    record {
      wide = wide;
      long = long;
      left = left;
      tall = tall;
      more = 0;
      most = 0;
      b_across = omega arith;
      b_along = omega arith;
      v_across = omega arith;
      v_along = omega arith;
      positive = grind (arith, one_positive, cases_lt);
    }

module _ (g : Stage) (s : Step) (at : Places) (stage : IsStage g) (h : IsShift g at) (step : IsStep g s) where
  -- a face under the new vertex, by what its two other corners gain
  opened_by : (i n m : ℕ) → s.first ≤ i → i < s.last → shift s i ≡ n → shift s (suc i) ≡ m → n ≤ m → m ≤ 2 → (n < m) ⊎ ((1 ≤ n) × (m ≤ 1) × (at.x (g.vertex i) < at.x (g.vertex (suc i)))) → IsOpened (places_after g s at) (g.vertex i) (g.vertex (suc i)) g.count
  opened_by i n m l u en em le two gain =
      let xa = x_after-contour g s at stage h step i (omega arith) in
      let ya = y_after-contour g s at stage h step i (omega arith) in
      let xb = x_after-contour g s at stage h step (suc i) (omega arith) in
      let yb = y_after-contour g s at stage h step (suc i) (omega arith) in
      let across = top_across g s at stage h step g.count refl in
      let along = top_along g s at stage h step g.count refl in
      let ab = h.across i (suc i) (omega arith) (omega arith) in
      let ab' = h.along i (suc i) (omega arith) (omega arith) in
      let pa = h.across s.first i l (omega arith) in
      let bq = h.along (suc i) s.last u step.within in
      opened_new (places_after g s at) (g.vertex i) (g.vertex (suc i)) g.count (omega arith) (omega arith) (omega arith) (omega arith)
      (elim gain [ inl k ↦ inl (omega arith, omega arith) | inr k ↦ let a = k.0 in let b = k.1 in let c = k.2 in inr (omega arith, omega arith, omega arith) ])

  pub opened_made : (i : ℕ) → s.first ≤ i → i < s.last → IsOpened (places_after g s at) (g.vertex i) (g.vertex (suc i)) g.count
  opened_made i l m = grind (arith, cases_lt, opened_by, shift-low, shift-between, shift-high)

-- a face under way: opened, with its corners placed from left to right
record IsKept (g : Stage) (at : Places) (a b v : ℕ) : Type 0 where
  pub opened : IsOpened at a b v
  pub left : g.place a ≤ g.place v
  pub right : g.place v ≤ g.place b

-- it stays so over a step
kept_after : (g : Stage) (s : Step) (at : Places) (a b v : ℕ) → IsStep g s → a < g.count → b < g.count → v < g.count → IsKept g at a b v → IsKept (after g s) (places_after g s at) a b v
kept_after g s at a b v step la lb lv k =
    let o = step.order in
    record {
      opened =
          opened_more at (places_after g s at) a b v (shift s (g.place a)) (shift s (g.place v)) (shift s (g.place b)) (x_after-older g s at a la) (x_after-older g s at v lv) (x_after-older g s at b lb)
          (y_after-older g s at a la) (y_after-older g s at v lv) (y_after-older g s at b lb) (shift-le s (g.place a) (g.place v) o k.left) (shift-le s (g.place v) (g.place b) o k.right) k.opened;
      left = omega (arith, place_after-older g s a la, place_after-older g s v lv, moved-le s (g.place a) (g.place v) o k.left);
      right = omega (arith, place_after-older g s v lv, place_after-older g s b lb, moved-le s (g.place v) (g.place b) o k.right);
    }

-- each face that a run makes is opened so in the end
pub opened_run : (steps : ℕ → Step) (n k i a b v : ℕ) → IsRun steps n → k < n → IsFaceOf steps k i a b v → IsOpened (shift_points steps n) a b v
opened_run steps n k i a b v run l f =
    let g = stage_after steps k in
    let at = shift_points steps k in
    let s = steps k in
    let less = IsRun-less steps k n (omega arith) run in
    let stage = IsStage-run steps k less in
    let h = IsShift-run steps k less in
    let step = run k l in
    let lo = f.low in
    let hi = f.high in
    let c = count-stage_after steps k in
    let made : IsKept (after g s) (places_after g s at) (g.vertex i) (g.vertex (suc i)) g.count =
    record { opened = opened_made g s at stage h step i lo hi; left = (corners_placed g s stage step i lo hi).0; right = (corners_placed g s stage step i lo hi).1 } in
    let begun : IsKept (after g s) (places_after g s at) a b v =
    subst (λ z. IsKept (after g s) (places_after g s at) a b z) f.new
    (subst (λ z. IsKept (after g s) (places_after g s at) a z g.count) f.right (subst (λ z. IsKept (after g s) (places_after g s at) z (g.vertex (suc i)) g.count) f.left made)) in
    (upward (λ m. IsKept (stage_after steps m) (shift_points steps m) a b v) (suc k) n (omega arith) begun
    (λ m low high kept. let d = count-stage_after steps m in kept_after (stage_after steps m) (steps m) (shift_points steps m) a b v (run m high) (omega arith) (omega arith) (omega arith) kept)).opened

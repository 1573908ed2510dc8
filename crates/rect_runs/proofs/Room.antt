-- Final numbers, and the numbers of a stage.
use Rattle.std.proofs.Common.{◌≡◌, ℕ, suc, ◌+◌, ◌-◌, ◌<◌, ◌≤◌, true, false, refl, ap, inl, inr, arith}
use Rattle.std.proofs.lemmas.Bool.{cases_eq, cases_lt}
use Rattle.contour_runs.specs.Runs.{Step, Stage, stage_after}
use Rattle.contour_runs.specs.Laws.{IsStage}
use Rattle.contour_runs.proofs.Stages.{IsStage-run, IsRun-less, count-stage_after}
use Rattle.rect_runs.specs.Labels.{IsLabelledRun}
use Rattle.rect_runs.specs.Numbers.{numbers, new_x, new_y, turn_of, turns_at_run}
use Rattle.rect_runs.proofs.Steps.{past-lt, past-le, shifted-high, KeepsOrder, kept, turn-step, x_after-rise-older, x_after-rise-new, y_after-run-older, y_after-run-new}
use Rattle.rect_runs.proofs.Left.{MakesRoom, MakesRoomBelow}

-- what keeps order is read back
back : (m : ℕ) (f h : ℕ → ℕ) → KeepsOrder m f h → (u v : ℕ) → u < m → v < m → h u < h v → f u < f v
back m f h keeps u v a b l = grind (arith, cases_lt, cases_eq)

module _ (steps : ℕ → Step) (k n : ℕ) (h : IsLabelledRun steps n) (l : k < n) where
  abbrev g : Stage
  g = stage_after steps k

  abbrev c : ℕ
  c = turn_of steps k

  stage : IsStage g
  stage = IsStage-run steps k (IsRun-less steps k n (omega arith) h.run)

  count : g.count ≡ k + 2
  count = count-stage_after steps k

  wide : suc c < g.width
  wide = let t = turn-step steps k n h l in let hi = t.high in let w = (h.run k l).within in omega arith

  placed : (j : ℕ) → j < g.width → g.vertex j < k + 2
  placed j w = omega (arith, stage.placed j w, count)

  now : KeepsOrder (k + 2) (numbers steps k).x (numbers steps n).x × KeepsOrder (k + 2) (numbers steps k).y (numbers steps n).y
  now = kept steps k n (omega arith)

  next : KeepsOrder (suc k + 2) (numbers steps (suc k)).x (numbers steps n).x × KeepsOrder (suc k + 2) (numbers steps (suc k)).y (numbers steps n).y
  next = kept steps (suc k) n l

  room_x : turns_at_run steps k ≡ false → MakesRoom g c (numbers steps n).x
  room_x e v o all =
      let w = wide in
      let x = (numbers steps k).x in
      let low : new_x g c x ≤ x v = past-le (λ j. x (g.vertex j)) (suc (suc c)) (x v) (λ j b. back (k + 2) x (numbers steps n).x now.0 (g.vertex j) v (placed j (omega arith)) (omega (arith, o, count)) (all j (omega arith))) in
      next.0.less g.count v (omega (arith, count)) (omega (arith, o, count))
      (omega (arith, x_after-rise-new g c (turns_at_run steps k) x g.count e refl, x_after-rise-older g c (turns_at_run steps k) x v e o, shifted-high (new_x g c x) (x v) low))

  room_y : turns_at_run steps k ≡ true → MakesRoomBelow g c (numbers steps n).y
  room_y e v o all =
      let y = (numbers steps k).y in
      let low : new_y g c y ≤ y v = past-le (λ j. y (g.vertex (c + j))) (g.width - c) (y v) (λ j b. back (k + 2) y (numbers steps n).y now.1 (g.vertex (c + j)) v (placed (c + j) (omega arith)) (omega (arith, o, count)) (all (c + j) (omega arith) (omega arith))) in
      next.1.less g.count v (omega (arith, count)) (omega (arith, o, count))
      (omega (arith, y_after-run-new g c (turns_at_run steps k) y g.count e refl, y_after-run-older g c (turns_at_run steps k) y v e o, shifted-high (new_y g c y) (y v) low))

  new_x_is : (j : ℕ) → j ≤ suc c → ((i : ℕ) → i ≤ suc c → (numbers steps n).x (g.vertex i) ≤ (numbers steps n).x (g.vertex j)) → new_x g c (numbers steps k).x ≡ suc ((numbers steps k).x (g.vertex j))
  new_x_is j m all =
      let w = wide in
      let x = (numbers steps k).x in
      let high = past-le (λ i. x (g.vertex i)) (suc (suc c)) (suc (x (g.vertex j))) (λ i b. elim (cases_lt (x (g.vertex j)) (x (g.vertex i))) [
        | inl o ↦ let p = now.0.less (g.vertex j) (g.vertex i) (placed j (omega arith)) (placed i (omega arith)) o in absurd (omega (arith, p, all i (omega arith)))
        | inr o ↦ omega arith
      ]) in
      omega (arith, past-lt (λ i. x (g.vertex i)) (suc (suc c)) j (omega arith), high)

  new_y_is : (j : ℕ) → c ≤ j → j < g.width → ((i : ℕ) → c ≤ i → i < g.width → (numbers steps n).y (g.vertex i) ≤ (numbers steps n).y (g.vertex j)) → new_y g c (numbers steps k).y ≡ suc ((numbers steps k).y (g.vertex j))
  new_y_is j m b all =
      let y = (numbers steps k).y in
      let z : c + (j - c) ≡ j = omega arith in
      let high = past-le (λ i. y (g.vertex (c + i))) (g.width - c) (suc (y (g.vertex j))) (λ i b2. elim (cases_lt (y (g.vertex j)) (y (g.vertex (c + i)))) [
        | inl o ↦ let p = now.1.less (g.vertex j) (g.vertex (c + i)) (placed j b) (placed (c + i) (omega arith)) o in absurd (omega (arith, p, all (c + i) (omega arith) (omega arith)))
        | inr o ↦ omega arith
      ]) in
      omega (arith, past-lt (λ i. y (g.vertex (c + i))) (g.width - c) (j - c) (omega arith), high, ap (λ i. y (g.vertex i)) z)

-- The final numbers make room at each turn at a rise, and the number of the new line is one more than that of a vertex which is the greatest in final numbers.
pub left_room : (steps : ℕ → Step) (k n : ℕ) → IsLabelledRun steps n → k < n → turns_at_run steps k ≡ false → MakesRoom (stage_after steps k) (turn_of steps k) (numbers steps n).x
left_room steps k n h l e = room_x steps k n h l e

pub new_left : (steps : ℕ → Step) (k n j : ℕ) → IsLabelledRun steps n → k < n → j ≤ suc (turn_of steps k) → ((i : ℕ) → i ≤ suc (turn_of steps k) → (numbers steps n).x ((stage_after steps k).vertex i) ≤ (numbers steps n).x ((stage_after steps k).vertex j)) → new_x (stage_after steps k) (turn_of steps k) (numbers steps k).x ≡ suc ((numbers steps k).x ((stage_after steps k).vertex j))
new_left steps k n j h l m all = new_x_is steps k n h l j m all

-- the same of lower sides, at each turn at a run
pub lower_room : (steps : ℕ → Step) (k n : ℕ) → IsLabelledRun steps n → k < n → turns_at_run steps k ≡ true → MakesRoomBelow (stage_after steps k) (turn_of steps k) (numbers steps n).y
lower_room steps k n h l e = room_y steps k n h l e

pub new_lower : (steps : ℕ → Step) (k n j : ℕ) → IsLabelledRun steps n → k < n → turn_of steps k ≤ j → j < (stage_after steps k).width → ((i : ℕ) → turn_of steps k ≤ i → i < (stage_after steps k).width → (numbers steps n).y ((stage_after steps k).vertex i) ≤ (numbers steps n).y ((stage_after steps k).vertex j)) → new_y (stage_after steps k) (turn_of steps k) (numbers steps k).y ≡ suc ((numbers steps k).y ((stage_after steps k).vertex j))
new_lower steps k n j h l m b all = new_y_is steps k n h l j m b all

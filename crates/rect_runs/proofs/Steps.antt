-- What a step does to numbers.
use Rattle.std.proofs.Common.{◌≡◌, ℕ, zero, suc, ◌+◌, ◌-◌, ◌<◌, ◌≤◌, Bool, true, false, ltb, refl, sym, ap, subst, ◌∙◌, inl, inr, arith}
use Rattle.std.proofs.lemmas.Bool.{cases_eq, cases_lt, cases_Bool, cond-true, cond-false, cond_both, both_ways, lt-ltb, le-ltb, ltb-true, ltb-false}
use Rattle.contour_runs.specs.Runs.{Step, Stage, after, base, stage_after, IsStep}
use Rattle.contour_runs.specs.Laws.{IsStage}
use Rattle.contour_runs.proofs.Places.{cases_place, vertex_after-low, vertex_after-new, vertex_after-high}
use Rattle.contour_runs.proofs.Upward.{upward}
use Rattle.contour_runs.proofs.Stages.{IsStage-run, IsRun-less, count-stage_after}
use Rattle.rect_runs.specs.Labels.{labels_after, labels, turn, IsSorted, IsLabelledRun}
use Rattle.rect_runs.specs.Numbers.{past, shifted, with_new, Numbers, new_x, new_y, x_after, y_after, numbers_after, base_numbers, numbers, turn_of, turns_at_run, rise_turns, run_turns}
use Rattle.rect_runs.proofs.Left.{IsNumbered, IsPut}
use Rattle.rect_runs.proofs.Edges.{IsTurn, IsTurn-turn, cases_edge}

-- one more than the greatest
past-step : (f : ℕ → ℕ) (k : ℕ) → (past f k ≤ past f (suc k)) × (f k < past f (suc k))
past-step f k = cond_both (ltb (f k) (past f k)) (past f k) (suc (f k)) (λ a. (past f k ≤ a) × (f k < a)) (λ e. (omega arith, ltb-true (f k) (past f k) e)) (λ e. let l = ltb-false (f k) (past f k) e in (omega arith, omega arith))

pub past-lt : (f : ℕ → ℕ) (k j : ℕ) → j < k → f j < past f k
past-lt f zero j l = absurd (omega arith)
past-lt f (suc k) j l =
    let p = past-step f k in
    elim (cases_eq j k) [ inl e ↦ omega (arith, p.1, ap f e) | inr ne ↦ omega (arith, p.0, past-lt f k j (omega arith)) ]

pub past-le : (f : ℕ → ℕ) (k m : ℕ) → ((j : ℕ) → j < k → f j < m) → past f k ≤ m
past-le f zero m h = omega arith
past-le f (suc k) m h = cond_both (ltb (f k) (past f k)) (past f k) (suc (f k)) (λ a. a ≤ m) (λ e. past-le f k m (λ j l. h j (omega arith))) (λ e. omega (arith, h k (omega arith)))

-- numbers that make room
pub shifted-low : (least a : ℕ) → a < least → shifted least a ≡ a
unfolding shifted
shifted-low least a l = cond-true (ltb a least) a (suc a) (lt-ltb a least l)

pub shifted-high : (least a : ℕ) → least ≤ a → shifted least a ≡ suc a
unfolding shifted
shifted-high least a l = cond-false (ltb a least) a (suc a) (le-ltb a least l)

shifted-lt : (least a b : ℕ) → a < b → shifted least a < shifted least b
shifted-lt least a b l = grind (arith, cases_lt, shifted-low, shifted-high)

shifted-le : (least a : ℕ) → shifted least a ≤ suc a
shifted-le least a = elim (cases_lt a least) [ inl p ↦ omega (arith, shifted-low least a p) | inr p ↦ omega (arith, shifted-high least a p) ]

pub with_new-older : (count : ℕ) (f : ℕ → ℕ) (new v : ℕ) → v < count → with_new count f new v ≡ f v
unfolding with_new
with_new-older count f new v l = cond-true (ltb v count) (f v) new (lt-ltb v count l)

pub with_new-new : (count : ℕ) (f : ℕ → ℕ) (new v : ℕ) → v ≡ count → with_new count f new v ≡ new
unfolding with_new
with_new-new count f new v e = cond-false (ltb v count) (f v) new (le-ltb v count (omega arith))

-- numbers after a step, by its turn
module _ (g : Stage) (c : ℕ) (run : Bool) (f : ℕ → ℕ) (v : ℕ) where
  pub x_after-run-older : run ≡ true → v < g.count → x_after g c run f v ≡ f v
  unfolding x_after
  x_after-run-older e l = ap (λ (h : ℕ → ℕ). h v) (cond-true {A = ℕ → ℕ} run _ _ e) ∙ with_new-older g.count _ _ v l

  pub x_after-run-new : run ≡ true → v ≡ g.count → x_after g c run f v ≡ f (g.vertex (suc c))
  unfolding x_after
  x_after-run-new e l = ap (λ (h : ℕ → ℕ). h v) (cond-true {A = ℕ → ℕ} run _ _ e) ∙ with_new-new g.count _ _ v l

  pub x_after-rise-older : run ≡ false → v < g.count → x_after g c run f v ≡ shifted (new_x g c f) (f v)
  unfolding x_after
  x_after-rise-older e l = ap (λ (h : ℕ → ℕ). h v) (cond-false {A = ℕ → ℕ} run _ _ e) ∙ with_new-older g.count _ _ v l

  pub x_after-rise-new : run ≡ false → v ≡ g.count → x_after g c run f v ≡ new_x g c f
  unfolding x_after
  x_after-rise-new e l = ap (λ (h : ℕ → ℕ). h v) (cond-false {A = ℕ → ℕ} run _ _ e) ∙ with_new-new g.count _ _ v l

  pub y_after-run-older : run ≡ true → v < g.count → y_after g c run f v ≡ shifted (new_y g c f) (f v)
  unfolding y_after
  y_after-run-older e l = ap (λ (h : ℕ → ℕ). h v) (cond-true {A = ℕ → ℕ} run _ _ e) ∙ with_new-older g.count _ _ v l

  pub y_after-run-new : run ≡ true → v ≡ g.count → y_after g c run f v ≡ new_y g c f
  unfolding y_after
  y_after-run-new e l = ap (λ (h : ℕ → ℕ). h v) (cond-true {A = ℕ → ℕ} run _ _ e) ∙ with_new-new g.count _ _ v l

  pub y_after-rise-older : run ≡ false → v < g.count → y_after g c run f v ≡ f v
  unfolding y_after
  y_after-rise-older e l = ap (λ (h : ℕ → ℕ). h v) (cond-false {A = ℕ → ℕ} run _ _ e) ∙ with_new-older g.count _ _ v l

  pub y_after-rise-new : run ≡ false → v ≡ g.count → y_after g c run f v ≡ f (g.vertex c)
  unfolding y_after
  y_after-rise-new e l = ap (λ (h : ℕ → ℕ). h v) (cond-false {A = ℕ → ℕ} run _ _ e) ∙ with_new-new g.count _ _ v l

-- two numberings of the first m vertices have one order
pub record KeepsOrder (m : ℕ) (f h : ℕ → ℕ) : Type 0 where
  pub less : (u v : ℕ) → u < m → v < m → f u < f v → h u < h v
  pub same : (u v : ℕ) → u < m → v < m → f u ≡ f v → h u ≡ h v

pub KeepsOrder-then : (m k : ℕ) (f h i : ℕ → ℕ) → m ≤ k → KeepsOrder m f h → KeepsOrder k h i → KeepsOrder m f i
KeepsOrder-then m k f h i l a b = grind arith

KeepsOrder-x : (g : Stage) (c : ℕ) (run : Bool) (f : ℕ → ℕ) → KeepsOrder g.count f (x_after g c run f)
KeepsOrder-x g c run f = grind (arith, cases_Bool, x_after-run-older, x_after-rise-older, shifted-lt, new_x, shifted)

KeepsOrder-y : (g : Stage) (c : ℕ) (run : Bool) (f : ℕ → ℕ) → KeepsOrder g.count f (y_after g c run f)
KeepsOrder-y g c run f = grind (arith, cases_Bool, y_after-rise-older, y_after-run-older, shifted-lt, new_y, shifted)

-- what keeps order keeps what was stated
IsNumbered-kept : (g : Stage) (label : ℕ → Bool) (m : ℕ) (at to : Numbers) → IsStage g → g.count ≤ m → KeepsOrder m at.x to.x → KeepsOrder m at.y to.y → IsNumbered g label at → IsNumbered g label to
IsNumbered-kept g label m at to stage few kx ky h = grind (arith, to)

IsPut-kept : (g : Stage) (label : ℕ → Bool) (c z m : ℕ) (at to : Numbers) → IsStage g → suc c < g.width → g.count ≤ m → z < m → KeepsOrder m at.x to.x → KeepsOrder m at.y to.y → IsPut g label c z at → IsPut g label c z to
IsPut-kept g label c z m at to stage cw few zm kx ky h = grind (arith, to)

-- a step of a labelled run
module _ (g : Stage) (s : Step) (label : ℕ → Bool) (at : Numbers) (stage : IsStage g) (step : IsStep g s) (sorted : IsSorted label s) (h : IsNumbered g label at) where
  abbrev c : ℕ
  c = turn label s

  abbrev to : Numbers
  to = numbers_after g c (label c) at

  turns : IsTurn label s c
  turns = IsTurn-turn label s step.order sorted

  turn-within : suc c < g.width
  turn-within = let t = turns.high in let w = step.within in omega arith

  put_at_run : label c ≡ true → IsPut g label c g.count to
  put_at_run e =
      let cw = turn-within in
      let m = new_y g c at.y in
      let x : (j : ℕ) → j < g.width → to.x (g.vertex j) ≡ at.x (g.vertex j) = λ j l. x_after-run-older g c (label c) at.x (g.vertex j) e (stage.placed j l) in
      let y : (j : ℕ) → j < g.width → to.y (g.vertex j) ≡ shifted m (at.y (g.vertex j)) = λ j l. y_after-run-older g c (label c) at.y (g.vertex j) e (stage.placed j l) in
      let xz = x_after-run-new g c (label c) at.x g.count e refl in
      let yz = y_after-run-new g c (label c) at.y g.count e refl in
      let low : (j : ℕ) → c ≤ j → j < g.width → to.y (g.vertex j) < to.y g.count = λ j l o.
      let k : c + (j - c) ≡ j = omega arith in
      let p = past-lt (λ i. at.y (g.vertex (c + i))) (g.width - c) (j - c) (omega arith) in
      let q = ap (λ i. at.y (g.vertex i)) k in
      omega (arith, y j o, yz, shifted-low m (at.y (g.vertex j)) (omega arith)) in
      record {
        left = λ j l. omega (arith, x j (omega arith), xz, h.run c j cw e l);
        below = λ j l o. low j (omega arith) o;
        under = λ j l f.
            let p : m ≤ at.y (g.vertex j) = past-le (λ i. at.y (g.vertex (c + i))) (g.width - c) (at.y (g.vertex j)) (λ i o. h.rise j (c + i) (omega arith) f (omega arith)) in
            omega (arith, y j (omega arith), yz, shifted-high m (at.y (g.vertex j)) p);
        before = λ i l o f. omega (arith, xz, x (suc i) o, h.run i (suc c) o f l);
        at_rise = λ f. absurd (both_ways (label c) f e);
        at_run = λ f. (low c (omega arith) (omega arith), xz ∙ sym (x (suc c) cw));
      }

  put_at_rise : label c ≡ false → IsPut g label c g.count to
  put_at_rise e =
      let cw = turn-within in
      let m = new_x g c at.x in
      let x : (j : ℕ) → j < g.width → to.x (g.vertex j) ≡ shifted m (at.x (g.vertex j)) = λ j l. x_after-rise-older g c (label c) at.x (g.vertex j) e (stage.placed j l) in
      let y : (j : ℕ) → j < g.width → to.y (g.vertex j) ≡ at.y (g.vertex j) = λ j l. y_after-rise-older g c (label c) at.y (g.vertex j) e (stage.placed j l) in
      let xz = x_after-rise-new g c (label c) at.x g.count e refl in
      let yz = y_after-rise-new g c (label c) at.y g.count e refl in
      let low : (j : ℕ) → j ≤ suc c → to.x (g.vertex j) < to.x g.count = λ j l.
      let p = past-lt (λ i. at.x (g.vertex i)) (suc (suc c)) j (omega arith) in
      omega (arith, x j (omega arith), xz, shifted-low m (at.x (g.vertex j)) p) in
      record {
        left = λ j l. low j (omega arith);
        below = λ j l o. omega (arith, y j o, yz, h.rise c j o e l);
        under = λ j l f. omega (arith, y j (omega arith), yz, h.rise j c (omega arith) f l);
        before = λ i l o f.
            let p : m ≤ at.x (g.vertex (suc i)) = past-le (λ j. at.x (g.vertex j)) (suc (suc c)) (at.x (g.vertex (suc i))) (λ j q. h.run i j o f (omega arith)) in
            omega (arith, x (suc i) o, xz, shifted-high m (at.x (g.vertex (suc i))) p);
        at_rise = λ f. (low (suc c) (omega arith), yz ∙ sym (y c (omega arith)));
        at_run = λ f. absurd (both_ways (label c) e f);
      }

  pub IsPut-step : IsPut g label c g.count to
  IsPut-step = elim (cases_Bool (label c)) [ inl e ↦ put_at_run e | inr e ↦ put_at_rise e ]

  pub IsNumbered-older : IsNumbered g label to
  IsNumbered-older = IsNumbered-kept g label g.count at to stage (omega arith) (KeepsOrder-x g c (label c) at.x) (KeepsOrder-y g c (label c) at.y) h

-- the new contour is numbered where the old one is and the step fits
IsNumbered-after : (g : Stage) (s : Step) (label : ℕ → Bool) (c : ℕ) (at : Numbers) → IsStep g s → IsTurn label s c → IsNumbered g label at → IsPut g label c g.count at → IsNumbered (after g s) (labels_after s label) at
IsNumbered-after g s label c at step t h put =
    record {
      run = λ i j l e m. elim (cases_edge g s label i step l) [
        | inl d ↦
            omega (arith, ap at.x d.end, ap at.x (vertex_after-low g s j (omega arith)), h.run i j (omega arith) (sym d.label_is ∙ e) m)
        | inr (inl d) ↦
            omega (arith, ap at.x d.end, ap at.x (vertex_after-low g s j (omega arith)), put.left j (omega arith))
        | inr (inr (inl d)) ↦ absurd (both_ways _ d.label_is e)
        | inr (inr (inr d)) ↦ grind (arith, cases_place, vertex_after-low, vertex_after-new, to, vertex_after-high)
      ];
      rise = λ i j l e m. elim (cases_edge g s label i step (omega arith)) [
        | inl d ↦ grind (arith, cases_place, vertex_after-low, vertex_after-new, to, vertex_after-high)
        | inr (inl d) ↦ absurd (both_ways _ e d.label_is)
        | inr (inr (inl d)) ↦ grind (arith, cases_place, to, vertex_after-high)
        | inr (inr (inr d)) ↦ grind (arith, cases_place, to, vertex_after-high)
      ];
    }

base_rise : (i j : ℕ) → i ≡ 0 → j ≡ 1 → base_numbers.y j < base_numbers.y i
base_rise i j e f = omega (arith, ap base_numbers.y e, ap base_numbers.y f)

IsNumbered-base : IsNumbered base (λ i. false) base_numbers
IsNumbered-base = record { run = λ i j l e m. absurd (both_ways false refl e); rise = λ i j l e m. base_rise i j (omega arith) (omega arith) }

pub IsLabelledRun-less : (steps : ℕ → Step) (m n : ℕ) → m ≤ n → IsLabelledRun steps n → IsLabelledRun steps m
IsLabelledRun-less steps m n l h = record { run = IsRun-less steps m n l h.run; sorted = λ k b. h.sorted k (omega arith) }

module _ (steps : ℕ → Step) where
  pub turn-step : (k n : ℕ) → IsLabelledRun steps n → k < n → IsTurn (labels steps k) (steps k) (turn_of steps k)
  turn-step k n h l = IsTurn-turn (labels steps k) (steps k) (h.run k l).order (h.sorted k l)

  numbered : (n : ℕ) → IsLabelledRun steps n → IsNumbered (stage_after steps n) (labels steps n) (numbers steps n)
  numbered zero h = IsNumbered-base
  numbered (suc n) h =
      let less = IsLabelledRun-less steps n (suc n) (omega arith) h in
      let g = stage_after steps n in
      let stage = IsStage-run steps n less.run in
      let step = h.run n (omega arith) in
      let sorted = h.sorted n (omega arith) in
      let before = numbered n less in
      IsNumbered-after g (steps n) (labels steps n) (turn_of steps n) (numbers steps (suc n)) step (turn-step n (suc n) h (omega arith)) (IsNumbered-older g (steps n) (labels steps n) (numbers steps n) stage step sorted before) (IsPut-step g (steps n) (labels steps n) (numbers steps n) stage step sorted before)

  pub kept : (m n : ℕ) → m ≤ n → KeepsOrder (m + 2) (numbers steps m).x (numbers steps n).x × KeepsOrder (m + 2) (numbers steps m).y (numbers steps n).y
  kept m n l =
      upward (λ n. KeepsOrder (m + 2) (numbers steps m).x (numbers steps n).x × KeepsOrder (m + 2) (numbers steps m).y (numbers steps n).y) m n l
      (record { less = λ u v p q e. e; same = λ u v p q e. e }, record { less = λ u v p q e. e; same = λ u v p q e. e })
      (λ k low high h.
      let g = stage_after steps k in
      let at = numbers steps k in
      let few : m + 2 ≤ g.count = omega (arith, count-stage_after steps k) in (
        KeepsOrder-then (m + 2) g.count (numbers steps m).x at.x (numbers steps (suc k)).x few h.0 (KeepsOrder-x g (turn_of steps k) (turns_at_run steps k) at.x),
        KeepsOrder-then (m + 2) g.count (numbers steps m).y at.y (numbers steps (suc k)).y few h.1 (KeepsOrder-y g (turn_of steps k) (turns_at_run steps k) at.y),
      ))

  pub numbers_fit : (k n : ℕ) → IsLabelledRun steps n → k ≤ n → IsNumbered (stage_after steps k) (labels steps k) (numbers steps n)
  numbers_fit k n h l =
      let less = IsLabelledRun-less steps k n l h in
      let order = kept k n l in
      IsNumbered-kept (stage_after steps k) (labels steps k) (k + 2) (numbers steps k) (numbers steps n) (IsStage-run steps k less.run) (omega (arith, count-stage_after steps k)) order.0 order.1 (numbered k less)

  pub steps_fit : (k n : ℕ) → IsLabelledRun steps n → k < n → IsPut (stage_after steps k) (labels steps k) (turn_of steps k) (k + 2) (numbers steps n)
  steps_fit k n h l =
      let less = IsLabelledRun-less steps k n (omega arith) h in
      let g = stage_after steps k in
      let count = count-stage_after steps k in
      let stage = IsStage-run steps k less.run in
      let step = h.run k l in
      let sorted = h.sorted k l in
      let order = kept (suc k) n l in
      let put = IsPut-step g (steps k) (labels steps k) (numbers steps k) stage step sorted (numbered k less) in
      IsPut-kept g (labels steps k) (turn_of steps k) (k + 2) (suc k + 2) (numbers steps (suc k)) (numbers steps n) stage (turn-within g (steps k) (labels steps k) (numbers steps k) stage step sorted (numbered k less)) (omega arith) (omega arith) order.0 order.1
      (subst (λ z. IsPut g (labels steps k) (turn_of steps k) z (numbers steps (suc k))) count put)

  pub counted : (n : ℕ) → rise_turns steps n + run_turns steps n ≡ n
  counted zero = refl
  counted (suc n) = elim (cases_Bool (turns_at_run steps n)) [
    | inl e ↦ omega (arith, counted n, cond-true (turns_at_run steps n) (rise_turns steps n) (suc (rise_turns steps n)) e, cond-true (turns_at_run steps n) (suc (run_turns steps n)) (run_turns steps n) e)
    | inr e ↦ omega (arith, counted n, cond-false (turns_at_run steps n) (rise_turns steps n) (suc (rise_turns steps n)) e, cond-false (turns_at_run steps n) (suc (run_turns steps n)) (run_turns steps n) e)
  ]

  pub bounded : (n v : ℕ) → IsLabelledRun steps n → v < n + 2 → ((numbers steps n).x v ≤ rise_turns steps n) × ((numbers steps n).y v ≤ suc (run_turns steps n))
  bounded zero v h l = elim (cases_eq v 0) [ inl e ↦ (omega arith, omega (arith, ap base_numbers.y e)) | inr ne ↦ let e : v ≡ 1 = omega arith in (omega arith, omega (arith, ap base_numbers.y e)) ]
  bounded (suc n) v h l =
      let less = IsLabelledRun-less steps n (suc n) (omega arith) h in
      let g = stage_after steps n in
      let count = count-stage_after steps n in
      let stage = IsStage-run steps n less.run in
      let t = turn-step n (suc n) h (omega arith) in
      let w = (h.run n (omega arith)).within in
      let c = turn_of steps n in
      let b = turns_at_run steps n in
      let at = numbers steps n in
      let old : (v : ℕ) → v < g.count → (at.x v ≤ rise_turns steps n) × (at.y v ≤ suc (run_turns steps n)) = λ v l. bounded n v less (omega arith) in
      elim (cases_Bool b) [
        | inl e ↦ grind (arith, cond-true, rise_turns, run_turns, cases_lt, x_after-run-older, y_after-run-older, shifted-le, new_y, past-le, x_after-run-new, y_after-run-new)
        | inr e ↦ grind (arith, cond-false, rise_turns, run_turns, cases_lt, x_after-rise-older, shifted-le, new_x, y_after-rise-older, past-le, x_after-rise-new, y_after-rise-new)
      ]

-- What a step does to the points.
use Rattle.std.proofs.Common.{◌≡◌, ◌⊎◌, ℕ, zero, suc, ◌+◌, ◌-◌, ◌*◌, ◌/◌, ◌%◌, ◌<◌, ◌≤◌, ltb, leb, refl, ap, ◌∙◌, subst, inl, inr, arith}
use Rattle.std.proofs.lemmas.Bool.{cases_lt, cond-true, cond-false, lt-ltb, le-ltb, le-leb, lt-leb}
use Rattle.contour_runs.specs.Runs.{Step, Stage, vertex_after, after, base, stage_after, IsStep, IsRun}
use Rattle.contour_runs.specs.Laws.{IsStage}
use Rattle.contour_runs.proofs.Places.{cases_place}
use Rattle.contour_runs.proofs.Stages.{IsStage-run, IsRun-less}
use Rattle.fpp_shift.specs.Shift.{shift, Places, top_x, top_y, x_after, y_after, shift_points}
use Rattle.fpp_shift.specs.Contours.{IsShift}

-- the gains
pub shift-low : (s : Step) (i : ℕ) → i ≤ s.first → shift s i ≡ 0
unfolding shift
shift-low s i l = cond-true {A = ℕ} (leb i s.first) 0 _ (le-leb i s.first l)

pub shift-between : (s : Step) (i : ℕ) → s.first < i → i < s.last → shift s i ≡ 1
unfolding shift
shift-between s i l m = cond-false {A = ℕ} (leb i s.first) 0 _ (lt-leb i s.first l) ∙ cond-true {A = ℕ} (ltb i s.last) 1 2 (lt-ltb i s.last m)

pub shift-high : (s : Step) (i : ℕ) → s.first < s.last → s.last ≤ i → shift s i ≡ 2
unfolding shift
shift-high s i o l = cond-false {A = ℕ} (leb i s.first) 0 _ (lt-leb i s.first (omega arith)) ∙ cond-false {A = ℕ} (ltb i s.last) 1 2 (le-ltb i s.last l)

-- they do not fall
pub shift-le : (s : Step) (i j : ℕ) → s.first < s.last → i ≤ j → shift s i ≤ shift s j
shift-le s i j o l = grind (arith, cases_lt, shift-low, shift-between, shift-high)

pub shift-most : (s : Step) (i : ℕ) → s.first < s.last → shift s i ≤ 2
shift-most s i o = elim (cases_lt s.first i) [
  | inr a ↦ omega (arith, shift-low s i a)
  | inl a ↦ elim (cases_lt i s.last) [ inl b ↦ omega (arith, shift-between s i a b) | inr b ↦ omega (arith, shift-high s i o b) ]
]

-- two vertices of a contour, one after the other
record IsInOrder (at : Places) (u v : ℕ) : Type 0 where
  pub across : at.x u + at.y v ≤ at.x v + at.y u
  pub along : at.x u + at.y u ≤ at.x v + at.y v
  pub right : at.x u < at.x v

same_across : (at : Places) (u v : ℕ) → u ≡ v → at.x u + at.y v ≤ at.x v + at.y u
same_across at u v e = subst (λ w. at.x u + at.y w ≤ at.x w + at.y u) e (omega arith)

same_along : (at : Places) (u v : ℕ) → u ≡ v → at.x u + at.y u ≤ at.x v + at.y v
same_along at u v e = subst (λ w. at.x u + at.y u ≤ at.x w + at.y w) e (omega arith)

-- the points after a step
abbrev pub places_after : Stage → Step → Places → Places
places_after g s at = record { x = x_after g s at; y = y_after g s at }

module _ (g : Stage) (s : Step) (at : Places) where
  pub x_after-older : (v : ℕ) → v < g.count → x_after g s at v ≡ at.x v + shift s (g.place v)
  unfolding x_after
  x_after-older v l = cond-true (ltb v g.count) (at.x v + shift s (g.place v)) _ (lt-ltb v g.count l)

  pub y_after-older : (v : ℕ) → v < g.count → y_after g s at v ≡ at.y v
  unfolding y_after
  y_after-older v l = cond-true (ltb v g.count) (at.y v) _ (lt-ltb v g.count l)

  pub x_after-new : (v : ℕ) → v ≡ g.count → x_after g s at v ≡ top_x at (g.vertex s.first) (g.vertex s.last)
  unfolding x_after
  x_after-new v e = cond-false (ltb v g.count) (at.x v + shift s (g.place v)) _ (le-ltb v g.count (omega arith))

  pub y_after-new : (v : ℕ) → v ≡ g.count → y_after g s at v ≡ top_y at (g.vertex s.first) (g.vertex s.last)
  unfolding y_after
  y_after-new v e = cond-false (ltb v g.count) (at.y v) _ (le-ltb v g.count (omega arith))

-- where two diagonals meet
meet_across : (x y z w : ℕ) → (x + y) % 2 ≡ 0 → (z + w) % 2 ≡ 0 → x + w ≤ z + y → x + y ≤ z + w → (x + (z + 2) + w - y) / 2 + y ≡ x + (z + 2 - x + y + w) / 2
meet_across x y z w e f a b = omega arith

meet_along : (x y z w : ℕ) → (x + y) % 2 ≡ 0 → (z + w) % 2 ≡ 0 → x + w ≤ z + y → x + y ≤ z + w → (x + (z + 2) + w - y) / 2 + (z + 2 - x + y + w) / 2 ≡ z + w + 2
meet_along x y z w e f a b = omega arith

-- the points of the new contour: low, new, high
pub record IsPlacedLow (g : Stage) (s : Step) (at : Places) (i : ℕ) : Type 0 where
  pub low : i ≤ s.first
  pub x : x_after g s at (vertex_after g s i) ≡ at.x (g.vertex i)
  pub y : y_after g s at (vertex_after g s i) ≡ at.y (g.vertex i)

pub record IsPlacedNew (g : Stage) (s : Step) (at : Places) (i : ℕ) : Type 0 where
  pub new : i ≡ suc s.first
  pub across : x_after g s at (vertex_after g s i) + at.y (g.vertex s.first) ≡ at.x (g.vertex s.first) + y_after g s at (vertex_after g s i)
  pub along : x_after g s at (vertex_after g s i) + y_after g s at (vertex_after g s i) ≡ at.x (g.vertex s.last) + at.y (g.vertex s.last) + 2

pub record IsPlacedHigh (g : Stage) (s : Step) (at : Places) (i : ℕ) : Type 0 where
  pub from : ℕ
  pub high : s.last ≤ from
  pub within : from < g.width
  pub to : i + s.last ≡ from + suc (suc s.first)
  pub x : x_after g s at (vertex_after g s i) ≡ at.x (g.vertex from) + 2
  pub y : y_after g s at (vertex_after g s i) ≡ at.y (g.vertex from)

module _ (g : Stage) (s : Step) (at : Places) (stage : IsStage g) (h : IsShift g at) (step : IsStep g s) where
  -- the gain of a vertex of the contour
  pub x_after-contour : (i : ℕ) → i < g.width → x_after g s at (g.vertex i) ≡ at.x (g.vertex i) + shift s i
  x_after-contour i l = x_after-older g s at (g.vertex i) (stage.placed i l) ∙ ap (λ j. at.x (g.vertex i) + shift s j) (stage.own i l)

  pub y_after-contour : (i : ℕ) → i < g.width → y_after g s at (g.vertex i) ≡ at.y (g.vertex i)
  y_after-contour i l = y_after-older g s at (g.vertex i) (stage.placed i l)

  -- the new vertex
  pub top_across : (v : ℕ) → v ≡ g.count → x_after g s at v + at.y (g.vertex s.first) ≡ at.x (g.vertex s.first) + y_after g s at v
  top_across v e =
      let w = step.within in
      let p = g.vertex s.first in
      let q = g.vertex s.last in
      let m = meet_across (at.x p) (at.y p) (at.x q) (at.y q) (h.even s.first (omega arith)) (h.even s.last w) (h.across s.first s.last (omega arith) w) (h.along s.first s.last (omega arith) w) in
      omega (arith, m, x_after-new g s at v e, y_after-new g s at v e)

  pub top_along : (v : ℕ) → v ≡ g.count → x_after g s at v + y_after g s at v ≡ at.x (g.vertex s.last) + at.y (g.vertex s.last) + 2
  top_along v e =
      let w = step.within in
      let p = g.vertex s.first in
      let q = g.vertex s.last in
      let m = meet_along (at.x p) (at.y p) (at.x q) (at.y q) (h.even s.first (omega arith)) (h.even s.last w) (h.across s.first s.last (omega arith) w) (h.along s.first s.last (omega arith) w) in
      omega (arith, m, x_after-new g s at v e, y_after-new g s at v e)

  pub cases_placed : (i : ℕ) → i < (after g s).width → IsPlacedLow g s at i ⊎ (IsPlacedNew g s at i ⊎ IsPlacedHigh g s at i)
  cases_placed i l = grind (arith, cases_place, x_after, x_after-contour, shift-low, y_after, y_after-contour, top_across, vertex_after, top_along, shift-high)

  -- two vertices of the new contour
  in_order_after : (i j : ℕ) → i < j → j < (after g s).width → IsInOrder (places_after g s at) (vertex_after g s i) (vertex_after g s j)
  in_order_after i j a b =
      let pq = h.across s.first s.last (omega arith) step.within in
      let pq' = h.along s.first s.last (omega arith) step.within in
      elim (cases_placed i (omega arith)) [
        | inl c ↦
            elim (cases_placed j b) [
              | inl d ↦
                  record {
                    across = omega (arith, c.x, c.y, d.x, d.y, h.across i j (omega arith) (omega arith));
                    along = omega (arith, c.x, c.y, d.x, d.y, h.along i j (omega arith) (omega arith));
                    right = omega (arith, c.x, d.x, h.right i j (omega arith) a (omega arith));
                  }
              | inr (inl d) ↦
                  let p = h.across i s.first c.low (omega arith) in
                  let p' = h.along i s.first c.low (omega arith) in
                  record {
                    across = omega (arith, c.x, c.y, d.across, p);
                    along = omega (arith, c.x, c.y, d.along, p', pq');
                    right = omega (arith, c.x, d.across, d.along, p, p', pq');
                  }
              | inr (inr d) ↦
                  let p = h.across i d.from (omega arith) d.within in
                  let p' = h.along i d.from (omega arith) d.within in
                  record { across = omega (arith, c.x, c.y, d.x, d.y, p); along = omega (arith, c.x, c.y, d.x, d.y, p'); right = omega (arith, c.x, d.x, p, p') }
            ]
        | inr (inl c) ↦
            elim (cases_placed j b) [
              | inl d ↦ let d' = d.low in absurd (omega arith)
              | inr (inl d) ↦ let d' = d.new in absurd (omega arith)
              | inr (inr d) ↦
                  let p = h.across s.last d.from d.high d.within in
                  let p' = h.along s.last d.from d.high d.within in
                  record {
                    across = omega (arith, c.across, d.x, d.y, p, pq);
                    along = omega (arith, c.along, d.x, d.y, p');
                    right = omega (arith, c.across, c.along, d.x, p, p', pq);
                  }
            ]
        | inr (inr c) ↦
            elim (cases_placed j b) [
              | inl d ↦ let d' = d.low in absurd (omega arith)
              | inr (inl d) ↦ let d' = d.new in absurd (omega arith)
              | inr (inr d) ↦
                  record {
                    across = omega (arith, c.x, c.y, d.x, d.y, h.across c.from d.from (omega arith) d.within);
                    along = omega (arith, c.x, c.y, d.x, d.y, h.along c.from d.from (omega arith) d.within);
                    right = omega (arith, c.x, d.x, h.right c.from d.from (omega arith) (omega arith) d.within);
                  }
            ]
      ]

  -- the ends of the contour
  first_at : (i : ℕ) → i ≡ 0 → (at.x (g.vertex i) ≡ 0) × (at.y (g.vertex i) ≡ 0)
  first_at i e = let b = ap g.vertex e ∙ stage.begin in (ap at.x b ∙ h.first_x, ap at.y b ∙ h.first_y)

  second_at : (i : ℕ) → suc i ≡ g.width → (at.x (g.vertex i) + 4 ≡ 2 * g.count) × (at.y (g.vertex i) ≡ 0)
  second_at i e = let b = stage.end i e in (ap (λ v. at.x v + 4) b ∙ h.second_x, ap at.y b ∙ h.second_y)

  -- the new vertex is in the grid
  top_grid : (v : ℕ) → v ≡ g.count → (x_after g s at v + 4 ≤ 2 * suc g.count) × (y_after g s at v + 2 ≤ suc g.count)
  top_grid v e =
      let end : ℕ = g.width - 1 in
      let f = first_at 0 refl in
      let t = second_at end (omega arith) in
      let a = h.across 0 s.first (omega arith) (omega arith) in
      let b = h.along s.last end (omega arith) (omega arith) in
      (omega (arith, top_across v e, top_along v e, f.0, f.1, t.0, t.1, a, b), omega (arith, top_across v e, top_along v e, f.0, f.1, t.0, t.1, a, b))

  -- the two of the base
  base_after : (i v : ℕ) → i < g.width → g.vertex i ≡ v → (x_after g s at v ≡ at.x v + shift s i) × (y_after g s at v ≡ at.y v)
  base_after i v l e = subst (λ v. (x_after g s at v ≡ at.x v + shift s i) × (y_after g s at v ≡ at.y v)) e (x_after-contour i l, y_after-contour i l)

  -- the contour facts after a step
  pub IsShift-after : IsShift (after g s) (places_after g s at)
  IsShift-after =
      let o = step.order in
      let end : ℕ = g.width - 1 in
      let first = base_after 0 0 (omega arith) stage.begin in
      let second = base_after end 1 (omega arith) (stage.end end (omega arith)) in
      record {
        across = λ i j a b. elim (cases_lt i j) [ inl l ↦ (in_order_after i j l b).across | inr l ↦ same_across (places_after g s at) (vertex_after g s i) (vertex_after g s j) (ap (vertex_after g s) (omega arith)) ];
        along = λ i j a b. elim (cases_lt i j) [ inl l ↦ (in_order_after i j l b).along | inr l ↦ same_along (places_after g s at) (vertex_after g s i) (vertex_after g s j) (ap (vertex_after g s) (omega arith)) ];
        right = λ i j k a b. (in_order_after i j a b).right;
        even = λ i l. elim (cases_placed i l) [
          | inl c ↦ let c' = c.low in omega (arith, c.x, c.y, h.even i (omega arith))
          | inr (inl c) ↦ omega (arith, c.along, h.even s.last step.within)
          | inr (inr c) ↦ omega (arith, c.x, c.y, h.even c.from c.within)
        ];
        first_x = omega (arith, first.0, h.first_x, shift-low s 0 (omega arith));
        first_y = first.1 ∙ h.first_y;
        second_x = omega (arith, second.0, h.second_x, shift-high s end o (omega arith));
        second_y = second.1 ∙ h.second_y;
        wide = λ v l. elim (cases_lt v g.count) [ inl older ↦ omega (arith, x_after-older g s at v older, h.wide v older, shift-most s (g.place v) o) | inr new ↦ (top_grid v (omega arith)).0 ];
        high = λ v l. elim (cases_lt v g.count) [ inl older ↦ omega (arith, y_after-older g s at v older, h.high v older) | inr new ↦ (top_grid v (omega arith)).1 ];
      }

pub IsShift-base : IsShift base (record { x = λ v. 0; y = λ v. 0 })
IsShift-base = grind arith

pub IsShift-run : (steps : ℕ → Step) (n : ℕ) → IsRun steps n → IsShift (stage_after steps n) (shift_points steps n)
IsShift-run steps zero run = IsShift-base
IsShift-run steps (suc n) run =
    let less = IsRun-less steps n (suc n) (omega arith) run in
    IsShift-after (stage_after steps n) (steps n) (shift_points steps n) (IsStage-run steps n less) (IsShift-run steps n less) (run n (omega arith))

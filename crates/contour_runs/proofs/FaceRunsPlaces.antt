-- Where a step moves places, and what stands where after it.
use Rattle.std.proofs.Common.{◌≡◌, ◌⊎◌, ℕ, zero, suc, ◌+◌, ◌-◌, ◌<◌, ◌≤◌, ltb, leb, ap, ◌∙◌, inl, inr, arith}
use Rattle.std.proofs.lemmas.Bool.{cases_lt, cond-true, cond-false, lt-ltb, le-ltb, le-leb, lt-leb}
use Rattle.std.proofs.lemmas.Bool.Decides.{nat_tests}
use Rattle.contour_runs.specs.Runs.{Stage}
use Rattle.contour_runs.specs.FaceRuns.{Step, moved, vertex_after, place_after, after, IsStep}

module _ (g : Stage) (s : Step) (step : IsStep g s) where
  -- the cuts rise
  pub cut-next : (i : ℕ) → i < s.faces → s.cut i < s.cut (suc i)
  cut-next i l = let a = step.low i l in let b = step.high i l in omega arith

  pub cut-add : (i d : ℕ) → i + d ≤ s.faces → s.cut i + d ≤ s.cut (i + d)
  cut-add i zero l = let e : i + 0 ≡ i = omega arith in omega (arith, ap s.cut e)
  cut-add i (suc d) l =
      let next = cut-next (i + d) (omega arith) in
      let e : i + suc d ≡ suc (i + d) = omega arith in
      omega (arith, cut-add i d (omega arith), ap s.cut e)

  pub cut-lt : (i j : ℕ) → i < j → j ≤ s.faces → s.cut i < s.cut j
  cut-lt i j l m =
      let h = cut-add i (j - i) (omega arith) in
      let e : i + (j - i) ≡ j = omega arith in
      omega (arith, ap s.cut e)

  pub cut-le : (i j : ℕ) → i ≤ j → j ≤ s.faces → s.cut i ≤ s.cut j
  cut-le i j l m =
      let h = cut-add i (j - i) (omega arith) in
      let e : i + (j - i) ≡ j = omega arith in
      omega (arith, ap s.cut e)

  -- and lie between the two places
  pub cut-first : (i : ℕ) → i ≤ s.faces → s.first ≤ s.cut i
  cut-first i l = let h = cut-le 0 i (omega arith) l in let b = step.begin in omega arith

  pub cut-last : (i : ℕ) → i ≤ s.faces → s.cut i ≤ s.last
  cut-last i l = let h = cut-le i s.faces l (omega arith) in let e = step.end in omega arith

  pub order : s.first < s.last
  order = let some = step.some_face in let h = cut-lt 0 s.faces some (omega arith) in let b = step.begin in let e = step.end in omega arith

  -- the first turn and the last
  pub first_turn : s.first ≤ s.turn 0
  first_turn = let some = step.some_face in let h = step.low 0 some in let b = step.begin in omega arith

  pub last_turn : s.turn (s.faces - 1) < s.last
  last_turn = grind arith

  -- turns rise too
  pub turn-lt : (i j : ℕ) → i < j → j < s.faces → s.turn i < s.turn j
  turn-lt i j l m =
      let b = cut-le (suc i) j l (omega arith) in
      omega (arith, step.low j m, step.high i (omega arith))

  pub turn-le : (i j : ℕ) → i ≤ j → j < s.faces → s.turn i ≤ s.turn j
  turn-le i j l m = elim (cases_lt i j) [ inl a ↦ (let h = turn-lt i j a m in omega arith) | inr a ↦ (let e : i ≡ j = omega arith in omega (arith, ap s.turn e)) ]

-- where a place goes
pub record IsAsItWas (s : Step) (i : ℕ) : Type 0 where
  pub low : i ≤ s.first
  pub to : moved s i ≡ i

pub record IsBack (s : Step) (i : ℕ) : Type 0 where
  pub low : s.first < i
  pub high : i ≤ s.turn 0
  pub to : moved s i ≡ s.first

pub record IsBetween (s : Step) (i : ℕ) : Type 0 where
  pub low : s.turn 0 < i
  pub high : i ≤ s.turn (s.faces - 1)
  pub to : moved s i ≡ suc s.first

pub record IsOn (s : Step) (i : ℕ) : Type 0 where
  pub low : s.turn (s.faces - 1) < i
  pub high : i < s.last
  pub to : moved s i ≡ s.first + s.vertices + 1

pub record IsBehind (s : Step) (i : ℕ) : Type 0 where
  pub low : s.last ≤ i
  pub to : moved s i + s.last ≡ i + s.first + s.vertices + 1

module _ (g : Stage) (s : Step) (step : IsStep g s) where
  pub cases_moved : (i : ℕ) → IsAsItWas s i ⊎ (IsBack s i ⊎ (IsBetween s i ⊎ (IsOn s i ⊎ IsBehind s i)))
  unfolding moved
  cases_moved i = grind (arith, cases_lt, nat_tests)

  -- the place map does not fall
  pub moved-le : (i j : ℕ) → i ≤ j → moved s i ≤ moved s j
  unfolding moved
  moved-le i j l =
      grind (arith, nat_tests)

-- what stands where after a step: low, new, high
pub vertex_after-low : (g : Stage) (s : Step) (i : ℕ) → i ≤ s.first → vertex_after g s i ≡ g.vertex i
unfolding vertex_after
vertex_after-low g s i l = cond-true (leb i s.first) (g.vertex i) _ (le-leb i s.first l)

pub vertex_after-new : (g : Stage) (s : Step) (i : ℕ) → s.first < i → i ≤ s.first + s.vertices → vertex_after g s i + suc s.first ≡ g.count + i
unfolding vertex_after
vertex_after-new g s i l m =
    let e = cond-false (leb i s.first) (g.vertex i) _ (lt-leb i s.first l) ∙ cond-true (leb i (s.first + s.vertices)) (g.count + i - suc s.first) (g.vertex (i + s.last - (s.first + s.vertices + 1))) (le-leb i (s.first + s.vertices) m) in
    omega (arith, e)

pub vertex_after-high : (g : Stage) (s : Step) (i j : ℕ) → s.first + s.vertices < i → i + s.last ≡ j + s.first + s.vertices + 1 → vertex_after g s i ≡ g.vertex j
unfolding vertex_after
vertex_after-high g s i j l e =
    let n : i + s.last - (s.first + s.vertices + 1) ≡ j = omega arith in
    cond-false (leb i s.first) (g.vertex i) _ (lt-leb i s.first (omega arith)) ∙ cond-false (leb i (s.first + s.vertices)) (g.count + i - suc s.first) (g.vertex (i + s.last - (s.first + s.vertices + 1))) (lt-leb i (s.first + s.vertices) l) ∙ ap g.vertex n

-- a placed vertex is older or new
pub place_after-older : (g : Stage) (s : Step) (v : ℕ) → v < g.count → place_after g s v ≡ moved s (g.place v)
unfolding place_after
place_after-older g s v l = cond-true (ltb v g.count) (moved s (g.place v)) _ (lt-ltb v g.count l)

pub place_after-new : (g : Stage) (s : Step) (v : ℕ) → g.count ≤ v → place_after g s v + g.count ≡ v + suc s.first
unfolding place_after
place_after-new g s v l = let e = cond-false (ltb v g.count) (moved s (g.place v)) (v + suc s.first - g.count) (le-ltb v g.count l) in omega (arith, e)

-- where a place of the contour after a step comes from
pub record IsLow (s : Step) (i : ℕ) : Type 0 where
  pub low : i ≤ s.first

pub record IsNew (s : Step) (i : ℕ) : Type 0 where
  pub low : s.first < i
  pub high : i ≤ s.first + s.vertices

pub record IsHigh (g : Stage) (s : Step) (i : ℕ) : Type 0 where
  pub from : ℕ
  pub high : s.last ≤ from
  pub within : from < g.width
  pub to : i + s.last ≡ from + s.first + s.vertices + 1

pub cases_place : (g : Stage) (s : Step) (i : ℕ) → IsStep g s → i < (after g s).width → IsLow s i ⊎ (IsNew s i ⊎ IsHigh g s i)
cases_place g s i h l =
    elim (cases_lt s.first i) [
      | inr a ↦ inl record { low = a }
      | inl a ↦ elim (cases_lt (s.first + s.vertices) i) [
        | inr b ↦ inr (inl record { low = a; high = b })
        | inl b ↦ inr (inr record { from = i + s.last - (s.first + s.vertices + 1); high = omega arith; within = omega arith; to = omega arith })
      ]
    ]

-- What a step adds to the counts.
use Rattle.std.proofs.Common.{◌≡◌, ◌⊎◌, ℕ, zero, suc, ◌+◌, ◌-◌, ◌<◌, ◌≤◌, ltb, sym, ap, ◌∙◌, inl, inr, arith}
use Rattle.std.proofs.lemmas.Bool.{cases_lt, cond-true, cond-false, lt-ltb, le-ltb}
use Rattle.contour_runs.specs.Runs.{Stage}
use Rattle.contour_runs.specs.Laws.{IsStage}
use Rattle.contour_runs.specs.Wood.{Coordinates}
use Rattle.contour_runs.specs.FaceRuns.{Step, vertex_after, after, IsStep}
use Rattle.contour_runs.proofs.FaceRunsPlaces.{cut-le, turn-le, first_turn, last_turn, order, vertex_after-low, vertex_after-new, vertex_after-high, cases_place}
use Rattle.convex_counts.specs.Counts.{turned, one_gain, two_gain, one_after, two_after}

module _ (turn : ℕ → ℕ) where
  pub turned-before : (m i : ℕ) → turn m < i → turned turn (suc m) i ≡ suc (turned turn m i)
  unfolding turned
  turned-before m i l = cond-true (ltb (turn m) i) (suc (turned turn m i)) (turned turn m i) (lt-ltb (turn m) i l)

  pub turned-from : (m i : ℕ) → i ≤ turn m → turned turn (suc m) i ≡ turned turn m i
  unfolding turned
  turned-from m i l = cond-false (ltb (turn m) i) (suc (turned turn m i)) (turned turn m i) (le-ltb (turn m) i l)

  turned-zero : (i : ℕ) → turned turn 0 i ≡ 0
  unfolding turned
  turned-zero i = omega arith

  -- not more than there are
  pub turned-most : (m i : ℕ) → turned turn m i ≤ m
  turned-most zero i = omega (arith, turned-zero i)
  turned-most (suc m) i = elim (cases_lt (turn m) i) [ inl l ↦ omega (arith, turned-before m i l, turned-most m i) | inr l ↦ omega (arith, turned-from m i l, turned-most m i) ]

  -- more, the later the place
  pub turned-le : (m i j : ℕ) → i ≤ j → turned turn m i ≤ turned turn m j
  turned-le zero i j l = omega (arith, turned-zero i)
  turned-le (suc m) i j l = elim (cases_lt (turn m) i) [
    | inl a ↦ omega (arith, turned-before m i a, turned-before m j (omega arith), turned-le m i j l)
    | inr a ↦ elim (cases_lt (turn m) j) [ inl b ↦ omega (arith, turned-from m i a, turned-before m j b, turned-le m i j l) | inr b ↦ omega (arith, turned-from m i a, turned-from m j b, turned-le m i j l) ]
  ]

  -- just the first c
  pub turned-is : (m c i : ℕ) → c ≤ m → ((t : ℕ) → t < c → turn t < i) → ((t : ℕ) → c ≤ t → t < m → i ≤ turn t) → turned turn m i ≡ c
  turned-is zero c i l before from = omega (arith, turned-zero i)
  turned-is (suc m) c i l before from = elim (cases_lt m c) [
    | inl all ↦ omega (arith, turned-before m i (before m all), turned-is m m i (omega arith) (λ t b. before t (omega arith)) (λ t a b. absurd (omega arith)))
    | inr less ↦ omega (arith, turned-from m i (from m less (omega arith)), turned-is m c i less before (λ t a b. from t a (omega arith)))
  ]

module _ (g : Stage) (s : Step) (step : IsStep g s) where
  pub gain-low : (i : ℕ) → i ≤ s.first → two_gain s i ≡ 0
  gain-low i l =
      let t = first_turn g s step in
      turned-is s.turn s.faces 0 i (omega arith) (λ z b. absurd (omega arith)) (λ z a b. let h = turn-le g s step 0 z a b in omega arith)

  pub gain-high : (i : ℕ) → s.last ≤ i → two_gain s i ≡ s.faces
  gain-high i l =
      let t = last_turn g s step in
      turned-is s.turn s.faces s.faces i (omega arith) (λ z b. let h = turn-le g s step z (s.faces - 1) (omega arith) (omega arith) in omega arith) (λ z a b. absurd (omega arith))

  -- under a face, up to its turn and behind it
  pub gain-first : (i j : ℕ) → i < s.faces → s.cut i ≤ j → j ≤ s.turn i → two_gain s j ≡ i
  gain-first i j l a b =
      turned-is s.turn s.faces i j (omega arith)
      (λ t c. let h = step.high t (omega arith) in let k = cut-le g s step (suc t) i c (omega arith) in omega arith)
      (λ t c d. let h = turn-le g s step i t c d in omega arith)

  pub gain-second : (i j : ℕ) → i < s.faces → s.turn i < j → j ≤ s.cut (suc i) → two_gain s j ≡ suc i
  gain-second i j l a b =
      turned-is s.turn s.faces (suc i) j l
      (λ t c. let h = turn-le g s step t i (omega arith) l in omega arith)
      (λ t c d. let h = step.low t d in let k = cut-le g s step (suc i) t c (omega arith) in omega arith)

pub gain-most : (s : Step) (i : ℕ) → two_gain s i ≤ s.faces
gain-most s i = turned-most s.turn s.faces i

pub gain-le : (s : Step) (i j : ℕ) → i ≤ j → two_gain s i ≤ two_gain s j
gain-le s i j l = turned-le s.turn s.faces i j l

module _ (g : Stage) (s : Step) (at : Coordinates) where
  pub one_after-older : (v : ℕ) → v < g.count → one_after g s at v + two_gain s (g.place v) ≡ at.one v + s.faces
  unfolding one_after
  one_after-older v l = grind (arith, cond-true, ltb, one_gain, lt-ltb, gain-most)

  pub two_after-older : (v : ℕ) → v < g.count → two_after g s at v ≡ at.two v + two_gain s (g.place v)
  unfolding two_after
  two_after-older v l = cond-true (ltb v g.count) (at.two v + two_gain s (g.place v)) (at.two (g.vertex s.first)) (lt-ltb v g.count l)

  pub one_after-new : (v : ℕ) → g.count ≤ v → one_after g s at v ≡ at.one (g.vertex s.last)
  unfolding one_after
  one_after-new v l = cond-false (ltb v g.count) (at.one v + one_gain s (g.place v)) (at.one (g.vertex s.last)) (le-ltb v g.count l)

  pub two_after-new : (v : ℕ) → g.count ≤ v → two_after g s at v ≡ at.two (g.vertex s.first)
  unfolding two_after
  two_after-new v l = cond-false (ltb v g.count) (at.two v + two_gain s (g.place v)) (at.two (g.vertex s.first)) (le-ltb v g.count l)

-- the counts along the new contour: low, new, high
pub record IsCountedLow (g : Stage) (s : Step) (at : Coordinates) (i : ℕ) : Type 0 where
  pub low : i ≤ s.first
  pub one : one_after g s at (vertex_after g s i) ≡ at.one (g.vertex i) + s.faces
  pub two : two_after g s at (vertex_after g s i) ≡ at.two (g.vertex i)

pub record IsCountedNew (g : Stage) (s : Step) (at : Coordinates) (i : ℕ) : Type 0 where
  pub low : s.first < i
  pub high : i ≤ s.first + s.vertices
  pub one : one_after g s at (vertex_after g s i) ≡ at.one (g.vertex s.last)
  pub two : two_after g s at (vertex_after g s i) ≡ at.two (g.vertex s.first)

pub record IsCountedHigh (g : Stage) (s : Step) (at : Coordinates) (i : ℕ) : Type 0 where
  pub from : ℕ
  pub high : s.last ≤ from
  pub within : from < g.width
  pub to : i + s.last ≡ from + s.first + s.vertices + 1
  pub one : one_after g s at (vertex_after g s i) ≡ at.one (g.vertex from)
  pub two : two_after g s at (vertex_after g s i) ≡ at.two (g.vertex from) + s.faces

module _ (g : Stage) (s : Step) (at : Coordinates) (stage : IsStage g) (step : IsStep g s) where
  -- the counts of a vertex of the contour
  pub one_after-contour : (i : ℕ) → i < g.width → one_after g s at (g.vertex i) + two_gain s i ≡ at.one (g.vertex i) + s.faces
  one_after-contour i l = ap (λ j. one_after g s at (g.vertex i) + two_gain s j) (sym (stage.own i l)) ∙ one_after-older g s at (g.vertex i) (stage.placed i l)

  pub two_after-contour : (i : ℕ) → i < g.width → two_after g s at (g.vertex i) ≡ at.two (g.vertex i) + two_gain s i
  two_after-contour i l = two_after-older g s at (g.vertex i) (stage.placed i l) ∙ ap (λ j. at.two (g.vertex i) + two_gain s j) (stage.own i l)

  pub counted-low : (i : ℕ) → i ≤ s.first → IsCountedLow g s at i
  counted-low i a =
      let o = order g s step in
      let w = step.within in
      let e = vertex_after-low g s i a in
      let one = one_after-contour i (omega arith) in
      let two = two_after-contour i (omega arith) in
      let z = gain-low g s step i a in
      record { low = a; one = ap (one_after g s at) e ∙ omega arith; two = ap (two_after g s at) e ∙ omega arith }

  pub counted-new : (i : ℕ) → s.first < i → i ≤ s.first + s.vertices → IsCountedNew g s at i
  counted-new i a b =
      let n = vertex_after-new g s i a b in
      record { low = a; high = b; one = one_after-new g s at (vertex_after g s i) (omega arith); two = two_after-new g s at (vertex_after g s i) (omega arith) }

  pub high_counts : (i from : ℕ) → s.last ≤ from → from < g.width → i + s.last ≡ from + s.first + s.vertices + 1 → (one_after g s at (vertex_after g s i) ≡ at.one (g.vertex from)) × (two_after g s at (vertex_after g s i) ≡ at.two (g.vertex from) + s.faces)
  high_counts i from a b t =
      let o = order g s step in
      let e = vertex_after-high g s i from (omega arith) t in
      let one = one_after-contour from b in
      let two = two_after-contour from b in
      let z = gain-high g s step from a in
      (ap (one_after g s at) e ∙ omega arith, ap (two_after g s at) e ∙ omega arith)

  pub counted-high : (i from : ℕ) → s.last ≤ from → from < g.width → i + s.last ≡ from + s.first + s.vertices + 1 → IsCountedHigh g s at i
  counted-high i from a b t =
      let c = high_counts i from a b t in
      record { from = from; high = a; within = b; to = t; one = c.0; two = c.1 }

  pub cases_counted : (i : ℕ) → i < (after g s).width → IsCountedLow g s at i ⊎ (IsCountedNew g s at i ⊎ IsCountedHigh g s at i)
  cases_counted i l = elim (cases_place g s i step l) [
    | inl c ↦ inl (counted-low i c.low)
    | inr (inl c) ↦ inr (inl (counted-new i c.low c.high))
    | inr (inr c) ↦ inr (inr (counted-high i c.from c.high c.within c.to))
  ]

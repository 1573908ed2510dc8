-- Vertices that lead from the left.
use Rattle.std.proofs.Common.{◌≡◌, ◌≢◌, ◌⊎◌, ℕ, zero, suc, ◌+◌, ◌-◌, ◌<◌, ◌≤◌, Bool, true, false, refl, sym, ap, ◌∙◌, inl, inr, arith}
use Rattle.std.proofs.lemmas.Bool.{cases_eq, cases_lt, cases_Bool, both_ways}
use Rattle.contour_runs.specs.Runs.{Step, Stage, IsStep, after, vertex_after}
use Rattle.contour_runs.specs.Laws.{IsStage}
use Rattle.contour_runs.proofs.Places.{cases_place, vertex_after-low, vertex_after-new, vertex_after-high}
use Rattle.rect_runs.specs.Labels.{turn, IsSorted}
use Rattle.rect_runs.specs.Numbers.{Numbers}
use Rattle.rect_runs.proofs.Edges.{IsTurn, IsTurn-within, IsTurn-turn}
use Rattle.rect_runs.specs.Leads.{AreLeft}

-- the marks after a step with its turn at c: the new vertex leads, and the last one of the row no more where it stands directly behind the turn
pub record AreLeftAfter (g : Stage) (s : Step) (c : ℕ) (lead lead' : ℕ → Bool) : Type 0 where
  pub new : lead' g.count ≡ true
  pub end : suc c ≡ s.last → lead' (g.vertex s.last) ≡ false
  pub others : (j : ℕ) → j < g.width → (suc c ≢ s.last) ⊎ (j ≢ s.last) → lead' (g.vertex j) ≡ lead (g.vertex j)

-- what has a greater x than all up to the place behind the turn has a greater one than the new vertex too
abbrev pub MakesRoom : Stage → ℕ → (ℕ → ℕ) → Type 0
MakesRoom g c x = (v : ℕ) → v < g.count → ((j : ℕ) → j ≤ suc c → x (g.vertex j) < x v) → x g.count < x v

-- the new vertex leads, and the first one of the row no more where it stands at the turn
pub record AreLowerAfter (g : Stage) (s : Step) (c : ℕ) (lead lead' : ℕ → Bool) : Type 0 where
  pub new : lead' g.count ≡ true
  pub end : c ≡ s.first → lead' (g.vertex s.first) ≡ false
  pub others : (j : ℕ) → j < g.width → (c ≢ s.first) ⊎ (j ≢ s.first) → lead' (g.vertex j) ≡ lead (g.vertex j)

-- what has a greater y than all from the turn on has a greater one than the new vertex too
abbrev pub MakesRoomBelow : Stage → ℕ → (ℕ → ℕ) → Type 0
MakesRoomBelow g c y = (v : ℕ) → v < g.count → ((j : ℕ) → c ≤ j → j < g.width → y (g.vertex j) < y v) → y g.count < y v

-- What is behind a run has a greater x than all up to the run; what is before a rise has a greater y than all behind it.
pub record IsNumbered (g : Stage) (label : ℕ → Bool) (at : Numbers) : Type 0 where
  pub run : (i j : ℕ) → suc i < g.width → label i ≡ true → j ≤ i → at.x (g.vertex j) < at.x (g.vertex (suc i))
  pub rise : (i j : ℕ) → j < g.width → label i ≡ false → i < j → at.y (g.vertex j) < at.y (g.vertex i)

-- Where a step with its turn at c puts a vertex z. All up to the turn lie to the left of its left side, all behind the turn below its lower side. What is before a rise up to the turn begins above that lower side, what is behind a run past the turn begins to the right of that left side. At a rise z stands level with the vertex at the turn, and that behind it begins to the left; at a run z begins with the vertex behind the turn, and that at the turn begins below.
pub record IsPut (g : Stage) (label : ℕ → Bool) (c z : ℕ) (at : Numbers) : Type 0 where
  pub left : (j : ℕ) → j ≤ c → at.x (g.vertex j) < at.x z
  pub below : (j : ℕ) → c < j → j < g.width → at.y (g.vertex j) < at.y z
  pub under : (j : ℕ) → j < c → label j ≡ false → at.y z < at.y (g.vertex j)
  pub before : (i : ℕ) → c < i → suc i < g.width → label i ≡ true → at.x z < at.x (g.vertex (suc i))
  pub at_rise : label c ≡ false → (at.x (g.vertex (suc c)) < at.x z) × (at.y z ≡ at.y (g.vertex c))
  pub at_run : label c ≡ true → (at.y (g.vertex c) < at.y z) × (at.x z ≡ at.x (g.vertex (suc c)))

module _ (g : Stage) (s : Step) (label : ℕ → Bool) (c : ℕ) (at : Numbers) (lead lead' : ℕ → Bool) (stage : IsStage g) (step : IsStep g s) (turns : IsTurn label s c) (numbered : IsNumbered g label at) (put : IsPut g label c g.count at) (room : label c ≡ false → MakesRoom g c at.x) (marks : AreLeftAfter g s c lead lead') (h : AreLeft g at.x lead) where
  abbrev x : ℕ → ℕ
  x i = at.x (g.vertex i)

  abbrev x' : ℕ → ℕ
  x' i = at.x (vertex_after g s i)

  -- all up to the place behind the turn are no greater than the new one
  up_to : (j : ℕ) → j ≤ suc c → x j ≤ at.x g.count
  up_to j l = grind (arith, cases_eq, cases_Bool)

  -- what is greater than those is greater than the new one
  past_new : (i : ℕ) → i < g.width → suc c < i → ((j : ℕ) → j < i → x j < x i) → at.x g.count < x i
  past_new i l m all = elim (cases_Bool (label c)) [
    | inl t ↦ let p = all (suc c) m in omega (arith, (put.at_run t).1, p)
    | inr t ↦ room t (g.vertex i) (stage.placed i l) (λ j b. all j (omega arith))
  ]

  yes : (i j : ℕ) → i < (after g s).width → lead' (vertex_after g s i) ≡ true → j < i → x' j < x' i
  yes i j l t less =
      elim (cases_place g s i step l) [
        | inl a ↦
            let e = vertex_after-low g s i a.low in
            let m = marks.others i (omega arith) (inr (omega arith)) in
            omega (arith, ap at.x e, ap at.x (vertex_after-low g s j (omega arith)), h.yes i j (omega arith) (sym m ∙ (sym (ap lead' e) ∙ t)) less)
        | inr (inl a) ↦
            omega (arith, ap at.x (vertex_after-new g s i a.new), ap at.x (vertex_after-low g s j (omega arith)), put.left j (omega arith))
        | inr (inr a) ↦
            let b = a.within in
            let e = vertex_after-high g s i a.from (omega arith) a.high a.to in
            let far : (suc c ≢ s.last) ⊎ (a.from ≢ s.last) = grind (arith, cases_eq, both_ways) in
            let old : lead (g.vertex a.from) ≡ true = sym (marks.others a.from b far) ∙ (sym (ap lead' e) ∙ t) in
            let behind : suc c < a.from = elim far [ inl ne ↦ omega arith | inr ne ↦ omega arith ] in
            elim (cases_place g s j step (omega arith)) [
              | inl k ↦ let k1 = k.low in omega (arith, ap at.x e, ap at.x (vertex_after-low g s j k1), h.yes a.from j b old (omega arith))
              | inr (inl k) ↦ let k1 = k.new in omega (arith, ap at.x e, ap at.x (vertex_after-new g s j k1), past_new a.from b behind (λ u p. h.yes a.from u b old p))
              | inr (inr k) ↦
                  let k2 = k.to in
                  omega (arith, ap at.x e, ap at.x (vertex_after-high g s j k.from (omega arith) k.high k2), h.yes a.from k.from b old (omega arith))
            ]
      ]

  -- the new vertex, and one from the last on, as witnesses
  by_new : (i a : ℕ) → suc s.first < i → a ≤ at.x g.count → (j : ℕ) × (j < i) × (a ≤ x' j)
  by_new i a l m = (suc s.first, l, omega (arith, m, ap at.x (vertex_after-new g s (suc s.first) refl)))

  by_high : (i a j : ℕ) → s.last ≤ j → j + suc (suc s.first) < i + s.last → a ≤ x j → (k : ℕ) × (k < i) × (a ≤ x' k)
  by_high i a j l m b =
      let k : ℕ = j + suc (suc s.first) - s.last in
      (k, omega arith, omega (arith, b, ap at.x (vertex_after-high g s k j (omega (arith, step.order)) l (omega arith))))

  no : (i : ℕ) → i < (after g s).width → lead' (vertex_after g s i) ≡ false → (j : ℕ) × (j < i) × (x' i ≤ x' j)
  no i l t =
      elim (cases_place g s i step l) [
        | inl a ↦
            let e = vertex_after-low g s i a.low in
            let q = h.no i (omega arith) (sym (marks.others i (omega arith) (inr (omega arith))) ∙ (sym (ap lead' e) ∙ t)) in
            (q.0, q.1, omega (arith, ap at.x e, ap at.x (vertex_after-low g s q.0 (omega arith)), q.2))
        | inr (inl a) ↦ absurd (both_ways (lead' g.count) (sym (ap lead' (vertex_after-new g s i a.new)) ∙ t) marks.new)
        | inr (inr a) ↦
            let b = a.within in
            let e = vertex_after-high g s i a.from (omega arith) a.high a.to in
            let far : suc s.first < i = omega arith in
            let old : lead (g.vertex a.from) ≡ false → (j : ℕ) × (j < i) × (x a.from ≤ x' j) = λ f.
            let q = h.no a.from b f in
            let j : ℕ = q.0 in
            let q2 : x a.from ≤ x j = q.2 in
            elim (cases_lt s.first j) [
              | inr n ↦ (j, omega arith, omega (arith, q2, ap at.x (vertex_after-low g s j n)))
              | inl n ↦ elim (cases_lt j s.last) [
                | inr n2 ↦ by_high i (x a.from) j n2 (omega arith) q2
                | inl n2 ↦ elim (cases_lt (suc c) j) [
                  | inr n3 ↦ by_new i (x a.from) far (omega (arith, q2, up_to j n3))
                  | inl n3 ↦
                      let z : suc (s.last - 1) ≡ s.last = omega arith in
                      let r = numbered.run (s.last - 1) j (omega arith) (turns.runs (s.last - 1) (omega arith) (omega arith)) (omega arith) in
                      let up : x j < x s.last = omega (arith, r, ap x z) in
                      elim (cases_eq a.from s.last) [
                        | inl y ↦ absurd (omega (arith, ap x y, q2, up))
                        | inr ny ↦ by_high i (x a.from) s.last (omega arith) (omega arith) (omega (arith, q2, up))
                      ]
                ]
              ]
            ] in
            let found : (j : ℕ) × (j < i) × (x a.from ≤ x' j) = elim (cases_eq (suc c) s.last) [
              | inr ne ↦ old (sym (marks.others a.from b (inl ne)) ∙ (sym (ap lead' e) ∙ t))
              | inl q ↦ elim (cases_eq a.from s.last) [
                | inr ny ↦ old (sym (marks.others a.from b (inr ny)) ∙ (sym (ap lead' e) ∙ t))
                | inl y ↦ by_new i (x a.from) far (omega (arith, up_to (suc c) (omega arith), ap x q, ap x y))
              ]
            ] in
            (found.0, found.1, omega (arith, ap at.x e, found.2))
      ]

  pub AreLeft-after : AreLeft (after g s) at.x lead'
  AreLeft-after = record { yes = yes; no = no }

pub left_after : (g : Stage) (s : Step) (label : ℕ → Bool) (at : Numbers) (lead lead' : ℕ → Bool) → IsStage g → IsStep g s → IsSorted label s → IsNumbered g label at → IsPut g label (turn label s) g.count at → (label (turn label s) ≡ false → MakesRoom g (turn label s) at.x) → AreLeftAfter g s (turn label s) lead lead' → AreLeft g at.x lead → AreLeft (after g s) at.x lead'
left_after g s label at lead lead' stage step sorted numbered put room marks h =
    AreLeft-after g s label (turn label s) at lead lead' stage step (IsTurn-turn label s step.order sorted) numbered put room marks h

greatest : (g : Stage) (x : ℕ → ℕ) (lead : ℕ → Bool) → AreLeft g x lead → (j d : ℕ) → j + d < g.width → lead (g.vertex j) ≡ true → ((k : ℕ) → j < k → k ≤ j + d → lead (g.vertex k) ≡ false) → (k : ℕ) → k ≤ j + d → x (g.vertex k) ≤ x (g.vertex j)
greatest g x lead h j zero w t none k l = elim (cases_lt k j) [
  | inl a ↦ let p = h.yes j k (omega arith) t a in omega (arith, p)
  | inr a ↦ let e : k ≡ j = omega arith in omega (arith, ap (λ i. x (g.vertex i)) e)
]
greatest g x lead h j (suc d) w t none k l = elim (cases_lt k (j + suc d)) [
  | inl a ↦ greatest g x lead h j d (omega arith) t (λ i m o. none i m (omega arith)) k (omega arith)
  | inr a ↦
      let q = h.no k (omega arith) (none k (omega arith) l) in
      omega (arith, q.2, greatest g x lead h j d (omega arith) t (λ i m o. none i m (omega arith)) q.0 (omega arith))
]

-- The nearest marked vertex at or before a place has the greatest number up to there.
pub left_is_greatest : (g : Stage) (x : ℕ → ℕ) (lead : ℕ → Bool) (i : ℕ) → AreLeft g x lead → (j : ℕ) → i < g.width → j ≤ i → lead (g.vertex j) ≡ true → ((k : ℕ) → j < k → k ≤ i → lead (g.vertex k) ≡ false) → (k : ℕ) → k ≤ i → x (g.vertex k) ≤ x (g.vertex j)
left_is_greatest g x lead i h j w l t none k m =
    greatest g x lead h j (i - j) (omega arith) t (λ k a b. none k a (omega arith)) k (omega arith)

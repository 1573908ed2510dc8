-- Vertices that lead from below.
use Rattle.std.proofs.Common.{◌≡◌, ◌≢◌, ◌⊎◌, ℕ, zero, suc, ◌+◌, ◌-◌, ◌<◌, ◌≤◌, Bool, true, false, refl, sym, ap, ◌∙◌, inl, inr, arith}
use Rattle.std.proofs.lemmas.Bool.{cases_eq, cases_lt, cases_Bool, both_ways}
use Rattle.contour_runs.specs.Runs.{Step, Stage, IsStep, after, vertex_after}
use Rattle.contour_runs.specs.Laws.{IsStage}
use Rattle.contour_runs.proofs.Places.{cases_place, vertex_after-low, vertex_after-new, vertex_after-high}
use Rattle.rect_runs.specs.Labels.{turn, IsSorted}
use Rattle.rect_runs.specs.Numbers.{Numbers}
use Rattle.rect_runs.proofs.Left.{IsNumbered, IsPut, AreLowerAfter, MakesRoomBelow}
use Rattle.rect_runs.proofs.Edges.{IsTurn, IsTurn-within, IsTurn-turn}
use Rattle.rect_runs.specs.Leads.{AreLower}

module _ (g : Stage) (s : Step) (label : ℕ → Bool) (c : ℕ) (at : Numbers) (lead lead' : ℕ → Bool) (stage : IsStage g) (step : IsStep g s) (turns : IsTurn label s c) (numbered : IsNumbered g label at) (put : IsPut g label c g.count at) (room : label c ≡ true → MakesRoomBelow g c at.y) (marks : AreLowerAfter g s c lead lead') (h : AreLower g at.y lead) where
  abbrev y : ℕ → ℕ
  y i = at.y (g.vertex i)

  abbrev y' : ℕ → ℕ
  y' i = at.y (vertex_after g s i)

  -- all from the turn on are no greater than the new one
  from_turn : (j : ℕ) → c ≤ j → j < g.width → y j ≤ at.y g.count
  from_turn j l w = grind (arith, cases_eq, cases_Bool)

  -- what is greater than those is greater than the new one
  past_new : (i : ℕ) → i < c → i < g.width → ((j : ℕ) → i < j → j < g.width → y j < y i) → at.y g.count < y i
  past_new i m l all = elim (cases_Bool (label c)) [
    | inl t ↦ room t (g.vertex i) (stage.placed i l) (λ j b w. all j (omega arith) w)
    | inr t ↦ let o = step.within in let hi = turns.high in let p = all c m (omega arith) in omega (arith, (put.at_rise t).1, p)
  ]

  yes : (i j : ℕ) → j < (after g s).width → lead' (vertex_after g s i) ≡ true → i < j → y' j < y' i
  yes i j l t less =
      elim (cases_place g s i step (omega arith)) [
        | inl a ↦
            let e = vertex_after-low g s i a.low in
            let far : (c ≢ s.first) ⊎ (i ≢ s.first) = grind (arith, cases_eq, both_ways) in
            let old : lead (g.vertex i) ≡ true = sym (marks.others i (omega arith) far) ∙ (sym (ap lead' e) ∙ t) in
            let before : i < c = elim far [ inl ne ↦ omega arith | inr ne ↦ omega arith ] in
            grind (arith, cases_place, vertex_after-low, vertex_after-new, past_new, vertex_after-high)
        | inr (inl a) ↦ grind (arith, cases_place, vertex_after-new, vertex_after-high)
        | inr (inr a) ↦
            let e = vertex_after-high g s i a.from (omega arith) a.high a.to in
            let old : lead (g.vertex a.from) ≡ true = sym (marks.others a.from a.within (inr (omega arith))) ∙ (sym (ap lead' e) ∙ t) in
            elim (cases_place g s j step l) [
              | inl k ↦ let k1 = k.low in absurd (omega arith)
              | inr (inl k) ↦ let k1 = k.new in absurd (omega arith)
              | inr (inr k) ↦ grind (arith, vertex_after-high)
            ]
      ]

  -- one from the last on, as a witness
  by_high : (i a j : ℕ) → s.last ≤ j → j < g.width → i + s.last < j + suc (suc s.first) → a ≤ y j → (k : ℕ) × (i < k) × (k < (after g s).width) × (a ≤ y' k)
  by_high i a j l w m b =
      let k : ℕ = j + suc (suc s.first) - s.last in
      (k, omega arith, omega arith, omega (arith, b, ap at.y (vertex_after-high g s k j (omega (arith, step.order)) l (omega arith))))

  no : (i : ℕ) → i < (after g s).width → lead' (vertex_after g s i) ≡ false → (j : ℕ) × (i < j) × (j < (after g s).width) × (y' i ≤ y' j)
  no i l t =
      elim (cases_place g s i step l) [
        | inl a ↦
            let e = vertex_after-low g s i a.low in
            let by_new : y i ≤ at.y g.count → (j : ℕ) × (i < j) × (j < (after g s).width) × (y i ≤ y' j) = λ m. (suc s.first, omega arith, omega arith, omega (arith, m, ap at.y (vertex_after-new g s (suc s.first) refl))) in
            let old : lead (g.vertex i) ≡ false → (j : ℕ) × (i < j) × (j < (after g s).width) × (y i ≤ y' j) = λ f.
            let q = h.no i (omega arith) f in
            let j : ℕ = q.0 in
            let q1 : i < j = q.1 in
            let q2 : j < g.width = q.2 in
            let q3 : y i ≤ y j = q.3 in
            elim (cases_lt s.first j) [
              | inr n ↦ (j, q1, omega arith, omega (arith, q3, ap at.y (vertex_after-low g s j n)))
              | inl n ↦ elim (cases_lt j s.last) [
                | inr n2 ↦ by_high i (y i) j n2 q2 (omega arith) q3
                | inl n2 ↦ elim (cases_lt j c) [
                  | inr n3 ↦ by_new (omega (arith, q3, from_turn j n3 q2))
                  | inl n3 ↦
                      let up : y j < y s.first = numbered.rise s.first j q2 (turns.rises s.first (omega arith) (omega arith)) n in
                      elim (cases_eq i s.first) [
                        | inl z ↦ absurd (omega (arith, ap y z, q3, up))
                        | inr nz ↦ (s.first, omega arith, omega arith, omega (arith, q3, up, ap at.y (vertex_after-low g s s.first (omega arith))))
                      ]
                ]
              ]
            ] in
            let found : (j : ℕ) × (i < j) × (j < (after g s).width) × (y i ≤ y' j) = grind (arith, after, y', cases_eq, from_turn) in
            (found.0, found.1, found.2, omega (arith, ap at.y e, found.3))
        | inr (inl a) ↦ absurd (both_ways (lead' g.count) (sym (ap lead' (vertex_after-new g s i a.new)) ∙ t) marks.new)
        | inr (inr a) ↦
            let e = vertex_after-high g s i a.from (omega arith) a.high a.to in
            let q = h.no a.from a.within (sym (marks.others a.from a.within (inr (omega arith))) ∙ (sym (ap lead' e) ∙ t)) in
            let found = by_high i (y a.from) q.0 (omega arith) q.2 (omega arith) q.3 in
            (found.0, found.1, found.2, omega (arith, ap at.y e, found.3))
      ]

  pub AreLower-after : AreLower (after g s) at.y lead'
  AreLower-after = record { yes = yes; no = no }

pub lower_after : (g : Stage) (s : Step) (label : ℕ → Bool) (at : Numbers) (lead lead' : ℕ → Bool) → IsStage g → IsStep g s → IsSorted label s → IsNumbered g label at → IsPut g label (turn label s) g.count at → (label (turn label s) ≡ true → MakesRoomBelow g (turn label s) at.y) → AreLowerAfter g s (turn label s) lead lead' → AreLower g at.y lead → AreLower (after g s) at.y lead'
lower_after g s label at lead lead' stage step sorted numbered put room marks h =
    AreLower-after g s label (turn label s) at lead lead' stage step (IsTurn-turn label s step.order sorted) numbered put room marks h

greatest : (g : Stage) (y : ℕ → ℕ) (lead : ℕ → Bool) → AreLower g y lead → (i j d : ℕ) → i + d ≡ j → j < g.width → lead (g.vertex j) ≡ true → ((k : ℕ) → i ≤ k → k < j → lead (g.vertex k) ≡ false) → (k : ℕ) → i ≤ k → k < g.width → y (g.vertex k) ≤ y (g.vertex j)
greatest g y lead h i j zero e w t none k l m = grind (arith, cases_lt, yes)
greatest g y lead h i j (suc d) e w t none k l m = elim (cases_lt i k) [
  | inl a ↦ greatest g y lead h (suc i) j d (omega arith) w t (λ k b u. none k (omega arith) u) k (omega arith) m
  | inr a ↦
      let q = h.no k m (none k l (omega arith)) in
      omega (arith, q.3, greatest g y lead h (suc i) j d (omega arith) w t (λ k b u. none k (omega arith) u) q.0 (omega arith) q.2)
]

-- The nearest marked vertex at or behind a place has the greatest number from there on.
pub lower_is_greatest : (g : Stage) (y : ℕ → ℕ) (lead : ℕ → Bool) (i : ℕ) → AreLower g y lead → (j : ℕ) → j < g.width → i ≤ j → lead (g.vertex j) ≡ true → ((k : ℕ) → i ≤ k → k < j → lead (g.vertex k) ≡ false) → (k : ℕ) → i ≤ k → k < g.width → y (g.vertex k) ≤ y (g.vertex j)
lower_is_greatest g y lead i h j w l t none k m b =
    let e : i + (j - i) ≡ j = omega arith in greatest g y lead h i j (j - i) e w t none k m b

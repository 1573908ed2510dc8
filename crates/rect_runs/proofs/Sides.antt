-- Right and upper sides along a run.
use Rattle.std.proofs.Common.{◌≡◌, ◌⊎◌, ℕ, zero, suc, ◌+◌, ◌-◌, ◌<◌, ◌≤◌, true, false, eqb, ltb, leb, refl, sym, ap, subst, ◌∙◌, inl, inr, arith}
use Rattle.std.proofs.lemmas.Bool.{cases_eq, cases_lt, cases_Bool, cond-true, cond-false, both_ways, lt-ltb, le-leb, ltb-true, leb-true, eq-eqb, eqb-true, and_parts, and_from}
use Rattle.contour_runs.specs.Runs.{Step, Stage, vertex_after, stage_after}
use Rattle.contour_runs.specs.Laws.{IsStage}
use Rattle.contour_runs.proofs.Places.{cases_place, vertex_after-low, vertex_after-new, vertex_after-high}
use Rattle.contour_runs.proofs.Stages.{IsStage-run, IsRun-less, count-stage_after}
use Rattle.rect_runs.specs.Labels.{labels, IsLabelledRun}
use Rattle.rect_runs.specs.Numbers.{Numbers, turn_of}
use Rattle.rect_runs.proofs.Left.{IsPut}
use Rattle.rect_runs.proofs.Edges.{IsTurn-within, cases_edge, labels_after-high, labels_after-low, labels_after-run}
use Rattle.rect_runs.proofs.Steps.{turn-step}
use Rattle.rect_runs.specs.Boxes.{stands_between, side_after, rights, highs}

-- what stands between two places
pub record Stands (g : Stage) (i j v : ℕ) : Type 0 where
  pub older : v < g.count
  pub vertex : g.vertex (g.place v) ≡ v
  pub low : i ≤ g.place v
  pub high : g.place v ≤ j

Stands-known : (g : Stage) (i j v : ℕ) → stands_between g i j v ≡ true → Stands g i j v
unfolding stands_between
Stands-known g i j v e = grind (arith, and_parts, ltb, eqb, leb, ltb-true, eqb-true, leb-true)

Stands-test : (g : Stage) (i j v : ℕ) → Stands g i j v → stands_between g i j v ≡ true
unfolding stands_between
Stands-test g i j v h = and_from _ _ (lt-ltb v g.count h.older) (and_from _ _ (eq-eqb (g.vertex (g.place v)) v h.vertex) (and_from _ _ (le-leb i (g.place v) h.low) (le-leb (g.place v) j h.high)))

Stands-place : (g : Stage) (i j p : ℕ) → IsStage g → p < g.width → i ≤ p → p ≤ j → Stands g i j (g.vertex p)
Stands-place g i j p stage l a b =
    record { older = stage.placed p l; vertex = ap g.vertex (stage.own p l); low = omega arith; high = omega arith }

module _ (g : Stage) (i j side : ℕ) (old : ℕ → ℕ) (v : ℕ) where
  pub side_after-between : Stands g i j v → side_after g i j side old v ≡ side
  unfolding side_after
  side_after-between h = cond-true (stands_between g i j v) side (old v) (Stands-test g i j v h)

  pub side_after-other : (Stands g i j v → ⊥) → side_after g i j side old v ≡ old v
  unfolding side_after
  side_after-other h = elim (cases_Bool (stands_between g i j v)) [ inl e ↦ absurd (h (Stands-known g i j v e)) | inr e ↦ cond-false (stands_between g i j v) side (old v) e ]

  cases_side : Stands g i j v ⊎ (side_after g i j side old v ≡ old v)
  unfolding side_after
  cases_side = elim (cases_Bool (stands_between g i j v)) [ inl e ↦ inl (Stands-known g i j v e) | inr e ↦ inr (cond-false (stands_between g i j v) side (old v) e) ]

-- a vertex at another place is not touched
side_after-place : (g : Stage) (i j side : ℕ) (old : ℕ → ℕ) (p : ℕ) → IsStage g → p < g.width → (p < i) ⊎ (j < p) → side_after g i j side old (g.vertex p) ≡ old (g.vertex p)
side_after-place g i j side old p stage l out = side_after-other g i j side old (g.vertex p) (λ h. let own = stage.own p l in let a = h.low in let b = h.high in elim out [ inl c ↦ omega arith | inr c ↦ omega arith ])

module _ (steps : ℕ → Step) (n : ℕ) (h : IsLabelledRun steps n) (at : Numbers) (put : (k : ℕ) → k < n → IsPut (stage_after steps k) (labels steps k) (turn_of steps k) (k + 2) at) where
  stage_at : (k : ℕ) → k ≤ n → IsStage (stage_after steps k)
  stage_at k l = IsStage-run steps k (IsRun-less steps k n l h.run)

  -- a step: its stage, its turn, its end, and the vertices so far
  at_step : (k : ℕ) → k < n → IsStage (stage_after steps k) × ((steps k).first ≤ turn_of steps k) × (turn_of steps k < (steps k).last) × ((steps k).last < (stage_after steps k).width) × ((stage_after steps k).count ≡ k + 2)
  at_step k l =
      let (lo, hi, w) = IsTurn-within (stage_after steps k) (steps k) (labels steps k) (turn_of steps k) (h.run k l) (turn-step steps k n h l) in
      (stage_at k (omega arith), lo, hi, w, count-stage_after steps k)

  module _ (end : ℕ) (few : (v : ℕ) → v < n + 2 → at.x v < end) where
    abbrev r : ℕ → ℕ → ℕ
    r = rights steps at.x end

    right_later : (k v : ℕ) → k + 1 ≤ v → r k v ≡ end
    right_later zero v l = refl
    right_later (suc k) v l =
        let count = count-stage_after steps k in
        side_after-other (stage_after steps k) (steps k).first (turn_of steps k) (at.x (k + 2)) (r k) v (λ s. let o = s.older in omega arith) ∙ right_later k v (omega arith)

    -- where the edge behind a vertex is a run its right side is the left side of the next; else it is not set
    record IsRights (k : ℕ) : Type 0 where
      run : (i : ℕ) → suc i < (stage_after steps k).width → labels steps k i ≡ true → r k ((stage_after steps k).vertex i) ≡ at.x ((stage_after steps k).vertex (suc i))
      free : (i : ℕ) → i < (stage_after steps k).width → (labels steps k i ≡ false) ⊎ (suc i ≡ (stage_after steps k).width) → r k ((stage_after steps k).vertex i) ≡ end

    rights_at : (k : ℕ) → k ≤ n → IsRights k
    rights_at zero l = record { run = λ i m e. absurd (both_ways false refl e); free = λ i m e. refl }
    rights_at (suc k) l =
        let g = stage_after steps k in
        let s = steps k in
        let label = labels steps k in
        let c = turn_of steps k in
        let step = h.run k l in
        let (stage, lo, hi, w, count) = at_step k l in
        let before = rights_at k (omega arith) in
        record {
          run = λ i m e. elim (cases_edge g s label i step m) [
            | inl d ↦
                let d1 = d.low in
                ap (r (suc k)) d.start ∙ side_after-place g s.first c (at.x (k + 2)) (r k) i stage (omega arith) (inl d1) ∙ before.run i (omega arith) (sym d.label_is ∙ e) ∙ sym (ap at.x d.end)
            | inr (inl d) ↦ ap (r (suc k)) d.start ∙ side_after-between g s.first c (at.x (k + 2)) (r k) (g.vertex s.first) (Stands-place g s.first c s.first stage (omega arith) (omega arith) lo) ∙ sym (ap at.x (d.end ∙ count))
            | inr (inr (inl d)) ↦ absurd (both_ways _ d.label_is e)
            | inr (inr (inr d)) ↦
                ap (r (suc k)) d.start ∙ side_after-place g s.first c (at.x (k + 2)) (r k) d.from stage (omega arith) (inr (omega arith)) ∙ before.run d.from d.within (sym d.label_is ∙ e) ∙ sym (ap at.x d.end)
          ];
          free = λ i m e. elim (cases_place g s i step m) [
            | inl d ↦ grind (arith, cases_eq, both_ways, labels_after-run, vertex_after-low, side_after-place, labels_after-low)
            | inr (inl d) ↦
                right_later (suc k) (vertex_after g s i) (omega arith)
            | inr (inr d) ↦
                let d1 = d.high in
                let d2 = d.to in
                ap (r (suc k)) (vertex_after-high g s i d.from (omega arith) d1 d2) ∙ side_after-place g s.first c (at.x (k + 2)) (r k) d.from stage d.within (inr (omega arith))
                ∙ before.free d.from d.within (elim e [ inl f ↦ inl (sym (labels_after-high s label i d.from (omega arith) d2) ∙ f) | inr f ↦ inr (omega arith) ])
          ];
        }

    -- once set it stays
    right_stays : (k v : ℕ) → k < n → (r k v ≡ end) ⊎ (r (suc k) v ≡ r k v)
    right_stays k v l =
        let g = stage_after steps k in
        let s = steps k in
        let c = turn_of steps k in
        let (stage, lo, hi, w, count) = at_step k l in
        let before = rights_at k (omega arith) in
        elim (cases_side g s.first c (at.x (k + 2)) (r k) v) [
          | inr e ↦ inr e
          | inl d ↦
              let i = g.place v in
              let e = d.vertex in
              elim (cases_Bool (labels steps k i)) [
                | inr f ↦ inl (ap (r k) (sym e) ∙ before.free i (omega arith) (inl f))
                | inl f ↦ elim (cases_lt i c) [
                  | inl b ↦ absurd (both_ways _ ((turn-step steps k n h l).rises i d.low b) f)
                  | inr b ↦
                      let m : i ≡ c = omega arith in
                      let f' : labels steps k c ≡ true = ap (labels steps k) (sym m) ∙ f in
                      inr (side_after-between g s.first c (at.x (k + 2)) (r k) v d ∙ ((put k l).at_run f').1 ∙ ap (λ i. at.x (g.vertex (suc i))) (sym m) ∙ sym (before.run i (omega arith) f) ∙ ap (r k) e)
                ]
              ]
        ]

    pub right_is : (m k j : ℕ) → m ≤ n → k < m → (steps k).first ≤ j → j ≤ turn_of steps k → r m ((stage_after steps k).vertex j) ≡ at.x (k + 2)
    right_is zero k j a l p q = absurd (omega arith)
    right_is (suc m) k j a l p q = elim (cases_eq k m) [
      | inl e ↦ grind (arith, turn-step, turn_of, stage_after, side_after-between, Stands-place, stage_at)
      | inr ne ↦
          let f = right_is m k j (omega arith) (omega arith) p q in
          elim (right_stays m ((stage_after steps k).vertex j) a) [ inl e ↦ absurd (omega arith) | inr e ↦ e ∙ f ]
    ]

    -- where it can be
    pub right_within : (k v : ℕ) → k ≤ n → v < k + 2 → (at.x v < r k v) × (r k v ≤ end)
    right_within zero v l m = (few v (omega arith), omega arith)
    right_within (suc k) v l m =
        let g = stage_after steps k in
        let s = steps k in
        let c = turn_of steps k in
        elim (cases_lt v (k + 2)) [
          | inr new ↦ let f = few v (omega arith) in let e = right_later (suc k) v (omega arith) in (omega arith, omega arith)
          | inl older ↦ elim (cases_side g s.first c (at.x (k + 2)) (r k) v) [
            | inr e ↦ let f = right_within k v (omega arith) older in (omega (arith, f.0), omega (arith, f.1))
            | inl d ↦ grind (arith, side_after-between)
          ]
        ]

    pub right_free : (i : ℕ) → i < (stage_after steps n).width → (labels steps n i ≡ false) ⊎ (suc i ≡ (stage_after steps n).width) → r n ((stage_after steps n).vertex i) ≡ end
    right_free = (rights_at n (omega arith)).free

  module _ (end : ℕ) (few : (v : ℕ) → v < n + 2 → at.y v < end) where
    abbrev u : ℕ → ℕ → ℕ
    u = highs steps at.y end

    high_later : (k v : ℕ) → k + 1 ≤ v → u k v ≡ end
    high_later zero v l = refl
    high_later (suc k) v l =
        let count = count-stage_after steps k in
        side_after-other (stage_after steps k) (suc (turn_of steps k)) (steps k).last (at.y (k + 2)) (u k) v (λ s. let o = s.older in omega arith) ∙ high_later k v (omega arith)

    -- where the edge before a vertex is a rise its upper side is the lower side of the one before; else it is not set
    record IsHighs (k : ℕ) : Type 0 where
      rise : (i : ℕ) → 0 < k → suc i < (stage_after steps k).width → labels steps k i ≡ false → u k ((stage_after steps k).vertex (suc i)) ≡ at.y ((stage_after steps k).vertex i)
      free : (i : ℕ) → suc i < (stage_after steps k).width → labels steps k i ≡ true → u k ((stage_after steps k).vertex (suc i)) ≡ end
      first : u k ((stage_after steps k).vertex 0) ≡ end

    highs_at : (k : ℕ) → k ≤ n → IsHighs k
    highs_at zero l = record { rise = λ i some m e. absurd (omega arith); free = λ i m e. refl; first = refl }
    highs_at (suc k) l =
        let g = stage_after steps k in
        let s = steps k in
        let label = labels steps k in
        let c = turn_of steps k in
        let step = h.run k l in
        let (stage, lo, hi, w, count) = at_step k l in
        let before = highs_at k (omega arith) in
        let some : (i : ℕ) → suc i < g.width → (i < s.first) ⊎ (s.last ≤ i) → 0 < k = λ i m out. elim (cases_lt 0 k) [
          | inl a ↦ a
          | inr a ↦
              elim out [ inl b ↦ absurd (omega arith) | inr b ↦ absurd (omega arith) ]
        ] in
        record {
          rise = λ i pos m e. elim (cases_edge g s label i step m) [
            | inl d ↦
                let d1 = d.low in
                ap (u (suc k)) d.end ∙ side_after-place g (suc c) s.last (at.y (k + 2)) (u k) (suc i) stage (omega arith) (inl (omega arith)) ∙ before.rise i (some i (omega arith) (inl d1)) (omega arith) (sym d.label_is ∙ e) ∙ sym (ap at.y d.start)
            | inr (inl d) ↦ absurd (both_ways _ e d.label_is)
            | inr (inr (inl d)) ↦ ap (u (suc k)) d.end ∙ side_after-between g (suc c) s.last (at.y (k + 2)) (u k) (g.vertex s.last) (Stands-place g (suc c) s.last s.last stage w (omega arith) (omega arith)) ∙ sym (ap at.y (d.start ∙ count))
            | inr (inr (inr d)) ↦ grind (arith, side_after-place)
          ];
          free = λ i m e. elim (cases_edge g s label i step m) [
            | inl d ↦
                ap (u (suc k)) d.end ∙ side_after-place g (suc c) s.last (at.y (k + 2)) (u k) (suc i) stage (omega arith) (inl (omega arith)) ∙ before.free i (omega arith) (sym d.label_is ∙ e)
            | inr (inl d) ↦ let z = d.end in high_later (suc k) (vertex_after g s (suc i)) (omega arith)
            | inr (inr (inl d)) ↦ absurd (both_ways _ d.label_is e)
            | inr (inr (inr d)) ↦
                let d2 = d.within in
                ap (u (suc k)) d.end ∙ side_after-place g (suc c) s.last (at.y (k + 2)) (u k) (suc d.from) stage d2 (inr (omega arith)) ∙ before.free d.from d2 (sym d.label_is ∙ e)
          ];
          first = ap (u (suc k)) (vertex_after-low g s 0 (omega arith)) ∙ side_after-place g (suc c) s.last (at.y (k + 2)) (u k) 0 stage (omega arith) (inl (omega arith)) ∙ before.first;
        }

    high_stays : (k v : ℕ) → k < n → (u k v ≡ end) ⊎ (u (suc k) v ≡ u k v)
    high_stays zero v l = inl refl
    high_stays (suc k') v l =
        let k = suc k' in
        let g = stage_after steps k in
        let s = steps k in
        let c = turn_of steps k in
        let (stage, lo, hi, w, count) = at_step k l in
        let before = highs_at k (omega arith) in
        elim (cases_side g (suc c) s.last (at.y (k + 2)) (u k) v) [
          | inr e ↦ inr e
          | inl d ↦
              let i : ℕ = g.place v - 1 in
              let i_is : g.place v ≡ suc i = omega arith in
              let e : g.vertex (suc i) ≡ v = ap g.vertex (sym i_is) ∙ d.vertex in
              elim (cases_Bool (labels steps k i)) [
                | inl f ↦ inl (ap (u k) (sym e) ∙ before.free i (omega arith) f)
                | inr f ↦ elim (cases_lt c i) [
                  | inl b ↦ absurd (both_ways _ f ((turn-step steps k n h l).runs i b (omega arith)))
                  | inr b ↦ grind (arith, labels, side_after-between)
                ]
              ]
        ]

    pub high_is : (m k j : ℕ) → m ≤ n → k < m → turn_of steps k < j → j ≤ (steps k).last → u m ((stage_after steps k).vertex j) ≡ at.y (k + 2)
    high_is zero k j a l p q = absurd (omega arith)
    high_is (suc m) k j a l p q = elim (cases_eq k m) [
      | inl e ↦ grind (arith, turn_of, stage_after, side_after-between, Stands-place, stage_at)
      | inr ne ↦
          let f = high_is m k j (omega arith) (omega arith) p q in
          elim (high_stays m ((stage_after steps k).vertex j) a) [ inl e ↦ absurd (omega arith) | inr e ↦ e ∙ f ]
    ]

    pub high_within : (k v : ℕ) → k ≤ n → v < k + 2 → (at.y v < u k v) × (u k v ≤ end)
    high_within zero v l m = (few v (omega arith), omega arith)
    high_within (suc k) v l m =
        let g = stage_after steps k in
        let s = steps k in
        let c = turn_of steps k in
        let w = (h.run k l).within in
        elim (cases_lt v (k + 2)) [
          | inr new ↦ let f = few v (omega arith) in let e = high_later (suc k) v (omega arith) in (omega arith, omega arith)
          | inl older ↦ elim (cases_side g (suc c) s.last (at.y (k + 2)) (u k) v) [
            | inr e ↦ let f = high_within k v (omega arith) older in (omega (arith, f.0), omega (arith, f.1))
            | inl d ↦ grind (arith, side_after-between)
          ]
        ]

    pub high_free : (i : ℕ) → suc i < (stage_after steps n).width → labels steps n i ≡ true → u n ((stage_after steps n).vertex (suc i)) ≡ end
    high_free = (highs_at n (omega arith)).free

    pub high_first : u n ((stage_after steps n).vertex 0) ≡ end
    high_first = (highs_at n (omega arith)).first

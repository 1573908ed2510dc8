-- A vertex with a run before it and a rise behind it has no later neighbour yet.
use Rattle.std.proofs.Common.{◌≡◌, ℕ, zero, suc, ◌+◌, ◌<◌, ◌≤◌, true, false, refl, sym, ap, subst, ◌∙◌, inl, inr, arith}
use Rattle.std.proofs.lemmas.Bool.{both_ways, cases_eq, true_from_ne_false}
use Rattle.contour_runs.specs.Runs.{Step, stage_after, IsRun}
use Rattle.contour_runs.specs.Laws.{IsStage}
use Rattle.contour_runs.proofs.Stages.{IsStage-run, IsRun-less, count-stage_after}
use Rattle.rect_runs.specs.Labels.{labels, IsLabelledRun}
use Rattle.rect_runs.specs.Later.{StandsOver, HaveTwoLater}
use Rattle.rect_runs.proofs.Edges.{cases_edge, labels_after-run, labels_after-low, labels_after-high}

module _ (steps : ℕ → Step) (n : ℕ) (run : IsRun steps n) where
  stage_at : (k : ℕ) → k ≤ n → IsStage (stage_after steps k)
  stage_at k l = IsStage-run steps k (IsRun-less steps k n l run)

  -- what a step is put on over is older than its vertex
  StandsOver-older : (k v : ℕ) → k < n → StandsOver steps k v (k + 2) → v < k + 2
  StandsOver-older k v l h =
      omega (arith, (stage_at k (omega arith)).placed h.place (omega (arith, (run k l).within)), count-stage_after steps k)

  -- a vertex of the contour that a step is put on over stands from its first place up to its last
  StandsOver-place : (k i : ℕ) → k < n → i < (stage_after steps k).width → StandsOver steps k ((stage_after steps k).vertex i) (k + 2) → ((steps k).first ≤ i) × (i ≤ (steps k).last)
  StandsOver-place k i l m h = grind (arith, stage_at, stage_after)

  fresh : (k i m : ℕ) → k ≤ n → suc (suc i) < (stage_after steps k).width → labels steps k i ≡ true → labels steps k (suc i) ≡ false → m < k → StandsOver steps m ((stage_after steps k).vertex (suc i)) (m + 2) → ⊥
  fresh zero i m l w e f less p = omega arith
  fresh (suc k) i m l w e f less p =
      let g = stage_after steps k in
      let s = steps k in
      let label = labels steps k in
      let step = run k l in
      let count = count-stage_after steps k in
      let older : (v : ℕ) → (stage_after steps (suc k)).vertex (suc i) ≡ v → StandsOver steps m v (m + 2) = λ v z. record { new = p.new; place = p.place; low = p.low; high = p.high; vertex = p.vertex ∙ z } in
      elim (cases_edge g s label i step (omega arith)) [
        | inl d ↦
            let q = older (g.vertex (suc i)) d.end in
            elim (cases_eq (suc i) s.first) [
              | inl z ↦ both_ways _ f (labels_after-run s label (suc i) z)
              | inr ne ↦
                  let f' = sym (labels_after-low s label (suc i) (omega arith)) ∙ f in
                  elim (cases_eq m k) [
                    | inl z ↦
                        omega (arith, (StandsOver-place k (suc i) l (omega arith) (subst (λ m. StandsOver steps m (g.vertex (suc i)) (m + 2)) z q)).0)
                    | inr nz ↦ fresh k i m (omega arith) (omega arith) (sym d.label_is ∙ e) f' (omega arith) q
                  ]
            ]
        | inr (inl d) ↦ omega (arith, StandsOver-older m g.count (omega arith) (older g.count d.end))
        | inr (inr (inl d)) ↦ both_ways _ d.label_is e
        | inr (inr (inr d)) ↦
            let q = older (g.vertex (suc d.from)) d.end in
            let f' = sym (labels_after-high s label (suc i) (suc d.from) (omega arith) (omega arith)) ∙ f in
            elim (cases_eq m k) [
              | inl z ↦
                  omega (arith, (StandsOver-place k (suc d.from) l d.within (subst (λ m. StandsOver steps m (g.vertex (suc d.from)) (m + 2)) z q)).1)
              | inr nz ↦ fresh k d.from m (omega arith) (omega arith) (sym d.label_is ∙ e) f' (omega arith) q
            ]
      ]

pub two_later_sort : (steps : ℕ → Step) (n : ℕ) → IsRun steps n → HaveTwoLater steps n → IsLabelledRun steps n
two_later_sort steps n run two = record {
  run = run;
  sorted = λ k l i a b e.
      true_from_ne_false (labels steps k (suc i))
      (λ f.
      let t = two k ((stage_after steps k).vertex (suc i)) l record { place = suc i; low = omega arith; high = b; vertex = refl } in
      fresh steps n run k i t.0 (omega arith) (omega (arith, (run k l).within)) e f t.1 t.2);
}

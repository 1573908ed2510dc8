-- Where labels lead.
use Rattle.std.proofs.Common.{◌≡◌, ◌⊎◌, ℕ, zero, suc, ◌<◌, false, refl, sym, ◌∙◌, inl, inr, arith}
use Rattle.std.proofs.lemmas.Bool.{both_ways}
use Rattle.contour_runs.specs.Runs.{Step, stage_after, IsRun}
use Rattle.contour_runs.proofs.Stages.{IsRun-less, count-stage_after}
use Rattle.rect_runs.specs.Labels.{labels}
use Rattle.rect_runs.proofs.Edges.{cases_edge}
use Rattle.std.specs.Prelude.{◌+◌, true}

-- v is put on over a row of the contour that begins with u
pub record IsFirstUnder (steps : ℕ → Step) (k u v : ℕ) : Type 0 where
  pub step : ℕ
  pub earlier : step < k
  pub new : v ≡ step + 2
  pub first : u ≡ (stage_after steps step).vertex (steps step).first

-- v is put on over a row of the contour that ends with u
pub record IsLastUnder (steps : ℕ → Step) (k u v : ℕ) : Type 0 where
  pub step : ℕ
  pub earlier : step < k
  pub new : v ≡ step + 2
  pub last : u ≡ (stage_after steps step).vertex (steps step).last

-- A run leads from the first earlier neighbour of its later end. A rise but the base leads to the last earlier neighbour of its earlier end.
pub record AreParents (steps : ℕ → Step) (k i : ℕ) : Type 0 where
  pub run : labels steps k i ≡ true → IsFirstUnder steps k ((stage_after steps k).vertex i) ((stage_after steps k).vertex (suc i))
  pub rise : labels steps k i ≡ false → (((stage_after steps k).vertex i ≡ 0) × ((stage_after steps k).vertex (suc i) ≡ 1)) ⊎ IsLastUnder steps k ((stage_after steps k).vertex (suc i)) ((stage_after steps k).vertex i)

module _ (steps : ℕ → Step) where
  first_later : (k u v a b : ℕ) → a ≡ u → b ≡ v → IsFirstUnder steps k u v → IsFirstUnder steps (suc k) a b
  first_later k u v a b e f h = let l = h.earlier in record { step = h.step; earlier = omega arith; new = f ∙ h.new; first = e ∙ h.first }

  last_later : (k u v a b : ℕ) → a ≡ u → b ≡ v → ((v ≡ 0) × (u ≡ 1)) ⊎ IsLastUnder steps k u v → ((b ≡ 0) × (a ≡ 1)) ⊎ IsLastUnder steps (suc k) a b
  last_later k u v a b e f h = grind arith

  pub parents : (k i : ℕ) → IsRun steps k → suc i < (stage_after steps k).width → AreParents steps k i
  parents zero i run l = record { run = λ e. absurd (both_ways false refl e); rise = λ e. inl (omega arith, omega arith) }
  parents (suc k) i run l =
      let o = (run k (omega arith)).order in
      let w = (run k (omega arith)).within in
      let count = count-stage_after steps k in
      let less = parents k in
      let before = IsRun-less steps k (suc k) (omega arith) run in
      elim (cases_edge (stage_after steps k) (steps k) (labels steps k) i (run k (omega arith)) l) [
        | inl d ↦
            let h = less i before (omega arith) in
            record {
              run = λ e. first_later k _ _ _ _ d.start d.end (h.run (sym d.label_is ∙ e));
              rise = λ e. last_later k _ _ _ _ d.end d.start (h.rise (sym d.label_is ∙ e));
            }
        | inr (inl d) ↦ record {
          run = λ e. record { step = k; earlier = omega arith; new = d.end ∙ count; first = d.start };
          rise = λ e. absurd (both_ways _ e d.label_is);
        }
        | inr (inr (inl d)) ↦ record {
          run = λ e. absurd (both_ways _ d.label_is e);
          rise = λ e. inr record { step = k; earlier = omega arith; new = d.start ∙ count; last = d.end };
        }
        | inr (inr (inr d)) ↦
            let h = less d.from before d.within in
            record {
              run = λ e. first_later k _ _ _ _ d.start d.end (h.run (sym d.label_is ∙ e));
              rise = λ e. last_later k _ _ _ _ d.end d.start (h.rise (sym d.label_is ∙ e));
            }
      ]

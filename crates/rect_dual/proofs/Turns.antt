-- A step more: its turn, and the labels after it.
use Rattle.std.proofs.Common.{◌≡◌, ◌≢◌, ℕ, suc, ◌+◌, ◌-◌, ◌<◌, ◌≤◌, Bool, true, false, List, [], ◌∷◌, ◌++◌, length, get_or, set, All, sym, ap, ◌∙◌, subst, inl, inr, arith, length-append}
use Rattle.std.proofs.lemmas.Bool.{cases_eq, cases_lt, true≢false}
use Rattle.std.proofs.lemmas.List.{get_or_append_left, get_or_default}
use Rattle.std.proofs.Math.Seq.{get_or-append_seam}
use Rattle.map_lists.specs.Lists.{Lists}
use Rattle.map_theory.specs.Maps.{list_of}
use Rattle.contour_runs.specs.Runs.{Step, Stage, stage_after, IsStep}
use Rattle.contour_runs.specs.Laws.{IsStage}
use Rattle.contour_runs.proofs.Stages.{IsStage-run, IsRun-less, count-stage_after}
use Rattle.rect_runs.specs.Labels.{labels}
use Rattle.rect_runs.specs.Numbers.{turn_of, turns_at_run}
use Rattle.rect_runs.proofs.Edges.{IsFirstRun, IsFirstRun-first_run, cases_edge}
use Rattle.canon_order.specs.Marks.{is_set}
use Rattle.canon_order.proofs.Marks.{is_set-here, is_set-other}
use Rattle.order_drawings.specs.Rows.{IsRow, AreRows}
use Rattle.rect_dual.specs.Turns.{IsTurnIn, AreTurns}

-- The turns of the first k steps are known, and for each vertex of the contour but the last whether the edge behind it is a run.
pub record IsTurned (steps : ℕ → Step) (k : ℕ) (runs : List Bool) (places : List ℕ) (at_runs : List Bool) : Type 0 where
  pub turns : AreTurns steps k places at_runs
  pub labels_are : (i : ℕ) → suc i < (stage_after steps k).width → is_set runs ((stage_after steps k).vertex i) ≡ labels steps k i
  pub fresh : (v : ℕ) → k + 2 ≤ v → is_set runs v ≡ false

-- there is one first run
one_first_run : (label : ℕ → Bool) (i d c c' : ℕ) → IsFirstRun label i d c → IsFirstRun label i d c' → c ≡ c'
one_first_run label i d c c' one two =
    elim (cases_lt c c') [
      | inl l ↦ absurd (earlier c c' one two l)
      | inr l ↦ elim (cases_lt c' c) [ inl m ↦ absurd (earlier c' c two one m) | inr m ↦ omega arith ]
    ]
  where
    earlier : (c c' : ℕ) → IsFirstRun label i d c → IsFirstRun label i d c' → c < c' → ⊥
    earlier c c' one two l =
        let high = two.high in
        elim one.end [
          | inl e ↦ omega (arith, e, high, l)
          | inr t ↦ true≢false (sym t ∙ two.rises c one.low l)
        ]

-- nothing is known of no step
pub IsTurned-none : (steps : ℕ → Step) (runs : List Bool) (places : List ℕ) (at_runs : List Bool) → ((v : ℕ) → is_set runs v ≡ false) → places ≡ [] → at_runs ≡ [] → IsTurned steps 0 runs places at_runs
IsTurned-none steps runs places at_runs none e e' = record {
  turns = record { count = ap length e; count_runs = ap length e'; place = λ k l. absurd (omega (arith, l)); run = λ k l. absurd (omega (arith, l)) };
  labels_are = λ i l. none _;
  fresh = λ v l. none v;
}

module _ (steps : ℕ → Step) (rows : Lists) (h : AreRows steps rows) (k : ℕ) (l : k < length rows) where
  abbrev g : Stage
  g = stage_after steps k

  abbrev row : List ℕ
  row = list_of rows k

  sound : IsStage g
  sound = IsStage-run steps k (IsRun-less steps k (length rows) (omega arith) h.run)

  step : IsStep g (steps k)
  step = h.run k l

  is_row : IsRow g (steps k) row
  is_row = h.row k l

  pub row_long : 2 ≤ length row
  row_long = let c = is_row.count in let o = step.order in omega arith

  pub row_within : All (λ u. u < length rows + 2) row
  row_within = λ i d m.
      let e = is_row.each i m in
      let q = get_or_default row i 0 d m in
      let c = is_row.count in
      let w = step.within in
      let p = sound.placed ((steps k).first + i) (omega arith) in
      omega (arith, count-stage_after steps k)

  -- a turn is no place behind the last but one
  pub turn_within : (c : ℕ) → (steps k).first + c ≡ turn_of steps k → c + 2 ≤ length row
  turn_within c e =
      let f = IsFirstRun-first_run (labels steps k) (steps k).first ((steps k).last - suc (steps k).first) in
      let hi = f.high in
      let o = step.order in
      let n = is_row.count in
      omega arith

  module _ (runs : List Bool) (places : List ℕ) (at_runs : List Bool) (t : IsTurned steps k runs places at_runs) (c : ℕ) (turn : IsTurnIn row runs c) where
    -- what is behind a vertex of the row
    label_at : (j : ℕ) → j + 2 ≤ length row → is_set runs (get_or row j 0) ≡ labels steps k ((steps k).first + j)
    label_at j m =
        let n = is_row.count in
        let w = step.within in
        ap (is_set runs) (is_row.each j (omega arith)) ∙ t.labels_are ((steps k).first + j) (omega arith)

    turn_is : (steps k).first + c ≡ turn_of steps k
    turn_is =
        let n = is_row.count in
        let o = step.order in
        let hi = turn.high in
        one_first_run (labels steps k) (steps k).first ((steps k).last - suc (steps k).first) ((steps k).first + c) (turn_of steps k)
        record {
          low = omega arith;
          high = omega arith;
          rises = λ j a b.
              let i : ℕ = j - (steps k).first in
              let e : (steps k).first + i ≡ j = omega arith in
              ap (labels steps k) (sym e) ∙ (sym (label_at i (omega arith)) ∙ turn.rises i (omega arith));
          end = elim turn.end [ inl e ↦ inl (omega arith) | inr e ↦ inr (sym (label_at c hi) ∙ e) ];
        }
        (IsFirstRun-first_run (labels steps k) (steps k).first ((steps k).last - suc (steps k).first))

    run_is : is_set runs (get_or row c 0) ≡ turns_at_run steps k
    run_is = label_at c turn.high ∙ ap (labels steps k) turn_is

    -- the labels after the step
    abbrev runs' : List Bool
    runs' = set runs (get_or row 0 0) true

    first_is : get_or row 0 0 ≡ g.vertex (steps k).first
    first_is = let n = row_long in let z : (steps k).first + 0 ≡ (steps k).first = omega arith in is_row.each 0 (omega arith) ∙ ap g.vertex z

    -- another vertex of the contour keeps what is known of it
    other : (j : ℕ) → j < g.width → j ≢ (steps k).first → is_set runs' (g.vertex j) ≡ is_set runs (g.vertex j)
    other j m ne =
        let o = step.order in
        let w = step.within in
        is_set-other runs (get_or row 0 0) (g.vertex j) true
        (λ e. ne (sym (sound.own j m) ∙ (ap g.place (e ∙ first_is) ∙ sound.own (steps k).first (omega arith))))

    count : g.count ≡ k + 2
    count = count-stage_after steps k

    old_first : get_or row 0 0 < k + 2
    old_first = let o = step.order in let w = step.within in let p = sound.placed (steps k).first (omega arith) in omega (arith, first_is, p, count)

    pub IsTurned-more : length runs ≡ length rows + 2 → (places' : List ℕ) (at_runs' : List Bool) → places' ≡ places ++ c ∷ [] → at_runs' ≡ at_runs ++ is_set runs (get_or row c 0) ∷ [] → IsTurned steps (suc k) runs' places' at_runs'
    IsTurned-more size places' at_runs' e e' =
        let o = step.order in
        let w = step.within in
        let n = t.turns.count in
        let n' = t.turns.count_runs in
        let len = ap length e ∙ length-append places (c ∷ []) in
        let len' = ap length e' ∙ length-append at_runs (is_set runs (get_or row c 0) ∷ []) in
        record {
          turns = record {
            count = omega arith;
            count_runs = omega arith;
            place = λ i m. elim (cases_eq i k) [
              | inl q ↦
                  let there : get_or places' i 0 ≡ c = ap (λ z. get_or places' z 0) (q ∙ sym n) ∙ (ap (λ us. get_or us (length places) 0) e ∙ get_or-append_seam places c [] 0) in
                  subst (λ z. (steps z).first + get_or places' i 0 ≡ turn_of steps z) (sym q) (ap (λ z. (steps k).first + z) there ∙ turn_is)
              | inr ne ↦ ap (λ z. (steps i).first + z) (ap (λ us. get_or us i 0) e ∙ get_or_append_left places (c ∷ []) 0 i (omega arith)) ∙ t.turns.place i (omega arith)
            ];
            run = λ i m. elim (cases_eq i k) [
              | inl q ↦
                  let there : is_set at_runs' i ≡ is_set runs (get_or row c 0) = ap (is_set at_runs') (q ∙ sym n') ∙ (ap (λ us. get_or us (length at_runs) false) e' ∙ get_or-append_seam at_runs (is_set runs (get_or row c 0)) [] false) in
                  there ∙ (run_is ∙ ap (turns_at_run steps) (sym q))
              | inr ne ↦ ap (λ us. get_or us i false) e' ∙ (get_or_append_left at_runs (is_set runs (get_or row c 0) ∷ []) false i (omega arith) ∙ t.turns.run i (omega arith))
            ];
          };
          labels_are = λ i m. elim (cases_edge g (steps k) (labels steps k) i step m) [
            | inl d ↦ let a = d.low in ap (is_set runs') d.start ∙ (other i (omega arith) (λ q. omega (arith, a, q)) ∙ (t.labels_are i (omega arith) ∙ sym d.label_is))
            | inr (inl d) ↦ ap (is_set runs') (d.start ∙ sym first_is) ∙ (is_set-here runs (get_or row 0 0) true (omega (arith, old_first, size, l)) ∙ sym d.label_is)
            | inr (inr (inl d)) ↦
                ap (is_set runs') d.start ∙ (is_set-other runs (get_or row 0 0) g.count true (λ q. omega (arith, q, old_first, count)) ∙ (t.fresh g.count (omega (arith, count)) ∙ sym d.label_is))
            | inr (inr (inr d)) ↦
                let a = d.high in
                let b = d.within in
                ap (is_set runs') d.start ∙ (other d.from (omega arith) (λ q. omega (arith, a, q, o)) ∙ (t.labels_are d.from b ∙ sym d.label_is))
          ];
          fresh = λ v m. is_set-other runs (get_or row 0 0) v true (λ q. omega (arith, q, old_first, m)) ∙ t.fresh v (omega arith);
        }

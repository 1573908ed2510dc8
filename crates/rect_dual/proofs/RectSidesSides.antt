-- A step more, when the pieces of its row are written.
use Rattle.std.proofs.Common.{◌≡◌, ℕ, suc, ◌+◌, ◌-◌, ◌<◌, ◌≤◌, List, length, get_or, sym, ap, ◌∙◌, subst, inl, inr, arith}
use Rattle.map_lists.specs.Lists.{Lists}
use Rattle.map_theory.specs.Maps.{list_of}
use Rattle.contour_runs.specs.Runs.{Step, Stage, stage_after, IsStep}
use Rattle.contour_runs.specs.Laws.{IsStage}
use Rattle.contour_runs.proofs.Stages.{IsStage-run, IsRun-less}
use Rattle.rect_runs.specs.Numbers.{turn_of}
use Rattle.rect_runs.specs.Boxes.{side_after, rights, highs}
use Rattle.rect_runs.proofs.Sides.{side_after-between, side_after-other}
use Rattle.order_drawings.specs.Rows.{IsRow, AreRows}
use Rattle.rect_dual.proofs.Turns.{turn_within}
use Rattle.rect_dual.specs.Sides.{IsWritten, AreSides}

-- a piece of a step's row that is written: the sides after the step
written_side : (g : Stage) (s : Step) (row : List ℕ) → IsStage g → IsStep g s → IsRow g s row → (old new : List ℕ) (from to i j side : ℕ) (f : ℕ → ℕ) → IsWritten old new row from to side → s.first + from ≡ i → s.first + to ≡ suc j → to ≤ length row → (v : ℕ) → get_or old v 0 ≡ f v → get_or new v 0 ≡ side_after g i j side f v
written_side g s row sound step is_row old new from to i j side f w e e' short v same =
    let n = is_row.count in
    let o = step.order in
    let within = step.within in
    elim (w v) [
      | inl x ↦
          let p = x.0 in
          let a = p.low in
          let b = p.high in
          let z : ℕ = s.first + p.place in
          let at : g.vertex z ≡ v = sym (is_row.each p.place (omega arith)) ∙ p.vertex in
          let own : g.place v ≡ z = ap g.place (sym at) ∙ sound.own z (omega arith) in
          let older = sound.placed z (omega arith) in
          x.1 ∙ sym (side_after-between g i j side f v (record { older = omega (arith, at, older); vertex = ap g.vertex own ∙ at; low = omega (arith, own, e, a); high = omega (arith, own, e', b) }))
      | inr x ↦
          x.1 ∙ (same ∙ sym (side_after-other g i j side f v (λ between.
          let c = between.low in
          let d = between.high in
          let q : ℕ = g.place v - s.first in
          let there : s.first + q ≡ g.place v = omega (arith, c, e) in
          x.0 record { place = q; low = omega (arith, there, c, e); high = omega (arith, there, d, e'); vertex = is_row.each q (omega (arith, there, d, e', short)) ∙ (ap g.vertex there ∙ between.vertex) })))
    ]

module _ (steps : ℕ → Step) (rows : Lists) (h : AreRows steps rows) (k : ℕ) (l : k < length rows) where
  abbrev g : Stage
  g = stage_after steps k

  abbrev row : List ℕ
  row = list_of rows k

  pub AreSides-more : (x y : ℕ → ℕ) (width ceiling : ℕ) (m : ℕ) (right high right' high' : List ℕ) (c a b : ℕ) → (steps k).first + c ≡ turn_of steps k → a ≡ x (k + 2) → b ≡ y (k + 2) → IsWritten right right' row 0 (c + 1) a → IsWritten high high' row (c + 1) (length row) b → AreSides steps k m x y width ceiling right high → AreSides steps (suc k) m x y width ceiling right' high'
  AreSides-more x y width ceiling m right high right' high' c a b turn ea eb one two t =
      let w = turn_within steps rows h k l c turn in
      let n = (h.row k l).count in
      let written = written_side g (steps k) row (IsStage-run steps k (IsRun-less steps k (length rows) (omega arith) h.run)) (h.run k l) (h.row k l) in
      record {
        rights_are = λ v o.
            subst (λ z. get_or right' v 0 ≡ side_after g (steps k).first (turn_of steps k) z (rights steps x width k) v) ea
            (written right right' 0 (c + 1) (steps k).first (turn_of steps k) a (rights steps x width k) one (omega arith) (omega arith) (omega arith) v (t.rights_are v o));
        highs_are = λ v o.
            subst (λ z. get_or high' v 0 ≡ side_after g (suc (turn_of steps k)) (steps k).last z (highs steps y ceiling k) v) eb
            (written high high' (c + 1) (length row) (suc (turn_of steps k)) (steps k).last b (highs steps y ceiling k) two (omega arith) (omega arith) (omega arith) v (t.highs_are v o));
      }

use Rattle.std.proofs.Common.{ℕ, ◌↔◌, arith, rules, ⊎_elim, sym, ◌∙◌}
use Rattle.std.specs.Bool.{one_answer}
use Rattle.std.specs.Cmp.{booleans_Decides}
use Rattle.std.proofs.lemmas.Bool.{true≢false, not_from_true}
use Rattle.map_theory.specs.Maps.{HasDart}
use Rattle.drawings.specs.Duals.{ShareSide}
use Rattle.rect_check.proofs.PairLemmas.{between_more}
use Rattle.rect_check.proofs.rects.Rects.first_wrong_at.Goals as goal

pub first_missed_with-requires-clause-joined : goal.first_missed_with-requires-clause-joined
first_missed_with-requires-clause-joined c = λ v less l share. ⊎_elim (λ d. d) (λ m. absurd (true≢false (sym m.0 ∙ c.if-not-marks-u.true))) (c.requires.joined c.args.u.0 v less l share)

pub loop-v-preserved : goal.loop-v-preserved
loop-v-preserved c =
    let fig = c.args.self.now.fig.now in
    between_more (λ (w : ℕ). ShareSide fig c.args.u.0 w ↔ HasDart c.args.self.now.map.now.lists c.args.u.0 w) c.args.u.0 c.loop-v.v c.loop-v.invariant (search rules)

pub returns-then-share_side-are_adjacent : goal.returns-then-share_side-are_adjacent
returns-then-share_side-are_adjacent c = record {
  here = record {
    order = omega (arith, c.loop-v.auto.v);
    vertex = omega (arith, c.loop-v-test.true, c.n-v-end.ensures.count);
    wrong = λ same.
        let equal = one_answer _ _ c.share_side.ensures (λ e. same.1 (c.are_adjacent.ensures.0 e), λ s. c.are_adjacent.ensures.1 (same.0 s)) in
        true≢false (sym c.if-share_side-are_adjacent.true ∙ not_from_true _ ((booleans_Decides _ _).1 equal));
  };
  before = λ w l wrong. wrong.wrong (c.loop-v.invariant w wrong.order l);
}

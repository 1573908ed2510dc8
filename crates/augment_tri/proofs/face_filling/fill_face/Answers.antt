use Rattle.std.proofs.Common.{subst, sym, ◌∙◌}
use Rattle.std.proofs.lemmas.Option.{same_Some}
use Rattle.map_theory.specs.Maps.{Dart}
use Rattle.augment_tri.specs.Growing.{IsCovered}
use Rattle.augment_tri.proofs.EarCover.{filled_from_covered}
use Rattle.augment_tri.proofs.Growth.{IsGrown-itself, IsGrown-chained}
use Rattle.augment_tri.proofs.NearEars.{live_dart}
use Rattle.augment_tri.proofs.face_filling.fill_face.Goals as goal

pub loop-at-init : goal.loop-at-init
loop-at-init c = record {
  fillable = c.requires.fillable;
  grown = IsGrown-itself c.args.map.now;
  live = c.requires.live;
  covered = λ first k a b at_d covered v u at.
      subst (λ (y : Dart). IsCovered first k c.args.map.now.lists y.0 y.1) (same_Some (a, b) (v, u) (sym at_d ∙ at)) covered;
}

pub loop-at-preserved : goal.loop-at-preserved
loop-at-preserved c =
    let h = c.loop-at.invariant in
    let d = live_dart c.loop-at.map c.loop-at.at.0 h.live in
    record {
      fillable = c.cut_near-at.ensures.fillable;
      grown = IsGrown-chained _ _ _ h.grown c.cut_near-at.ensures.grown;
      live = c.cut_near-at.ensures.live;
      covered = λ first k a b at_d covered.
          c.cut_near-at.ensures.covered first k d.0.0 d.0.1 d.1 (h.covered first k a b at_d covered d.0.0 d.0.1 d.1);
    }

pub returns-clause-filled : goal.returns-clause-filled
returns-clause-filled c = λ first k a b at_d covered.
    let h = c.loop-at.invariant in
    let d = live_dart c.loop-at.map c.loop-at.at.0 h.live in
    filled_from_covered first k c.loop-at.map.lists d.0.0 d.0.1 (h.covered first k a b at_d covered d.0.0 d.0.1 d.1) ((c.is_triangle.ensures d.0.0 d.0.1 d.1).0 c.loop-at-test.false)

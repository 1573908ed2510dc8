use Rattle.std.proofs.Common.{◌≡◌, get_or, refl, subst, inl, inr, arith}
use Rattle.std.proofs.lemmas.Bool.{cases_lt}
use Rattle.plane_drawings.specs.Drawing.{place}
use Rattle.draw_check.specs.Wedges.{IsInWedge}
use Rattle.draw_check.proofs.wedges.Wedge.holds_all.Goals as goal

pub loop-i-preserved : goal.loop-i-preserved
loop-i-preserved c = λ j less.
    let w = c.args.self in
    let points = c.args.drawing.now.points.now in
    elim (cases_lt j c.loop-i.i) [
      | inl before ↦ c.loop-i.invariant j before
      | inr more ↦
          (let same : c.loop-i.i ≡ j = omega arith in
          subst (λ k. IsInWedge w.apex.point w.right.point w.left.point (place points (get_or c.args.heads.now k 0))) same
          (subst (IsInWedge w.apex.point w.right.point w.left.point) c.spot.ensures (c.if-not-holds.ensures.0 refl)))
    ]

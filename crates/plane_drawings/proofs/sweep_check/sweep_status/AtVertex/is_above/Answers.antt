use Rattle.std.proofs.Common.{◌<◌, ◌-◌, w64, FitsSigned, slice_index_or, pos, ap, ◌∙◌, subst, rules, arith}
use Rattle.std.specs.Prelude.{◌<ℤ◌}
use Rattle.std.proofs.lemmas.Bool.{OnTrue_from}
use Rattle.std.proofs.lemmas.Int.{ints, to_z-of_z}
use Rattle.std.proofs.lemmas.List.{get_or_default}
use Rattle.plane_drawings.specs.Drawing.{place}
use Rattle.plane_drawings.specs.declared.plane_sweep.line.Line.{Line}
use Rattle.plane_drawings.specs.PlaneSweepLines.{rise}
use Rattle.plane_drawings.proofs.sweep_check.sweep_status.AtVertex.is_above.Goals as goal

pub returns-else-begin-eq0 : goal.returns-else-begin-eq0
returns-else-begin-eq0 c =
    let height = λ (d : Line). rise (place c.args.self.now.places.now) d c.args.self.now.v in
    let f : FitsSigned w64 c.rise.result = search rules in
    rw (to_z-of_z w64 c.rise.result f) (OnTrue_from _ ((d : Line) → 0 < c.args.begin → pos 0 <ℤ height (slice_index_or c.args.status.now (c.args.begin - 1) d))
    (λ h d l. subst (λ z. pos 0 <ℤ z) (c.rise.ensures ∙ ap height (get_or_default c.args.status.now (c.args.begin - 1) _ d (omega (arith, l, c.requires.within)))) (grind (arith, ints, h))))

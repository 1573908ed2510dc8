use Rattle.std.proofs.Common.{◌<◌, w64, FitsSigned, length, slice_index_or, pos, ap, ◌∙◌, subst, rules, arith}
use Rattle.std.specs.Prelude.{◌<ℤ◌}
use Rattle.std.proofs.lemmas.Bool.{OnTrue_from}
use Rattle.std.proofs.lemmas.Int.{ints, to_z-of_z}
use Rattle.std.proofs.lemmas.List.{get_or_default}
use Rattle.plane_drawings.specs.Drawing.{place}
use Rattle.plane_drawings.specs.declared.plane_sweep.line.Line.{Line}
use Rattle.plane_drawings.specs.PlaneSweepLines.{rise}
use Rattle.plane_drawings.proofs.sweep_check.sweep_status.AtVertex.is_below.Goals as goal

pub returns-else-end-status : goal.returns-else-end-status
returns-else-end-status c =
    let height = λ (d : Line). rise (place c.args.self.now.places.now) d c.args.self.now.v in
    let f : FitsSigned w64 c.rise.result = search rules in
    rw (to_z-of_z w64 c.rise.result f) (OnTrue_from _ ((d : Line) → c.args.end < length c.args.status.now → height (slice_index_or c.args.status.now c.args.end d) <ℤ pos 0)
    (λ h d l. subst (λ z. z <ℤ pos 0) (c.rise.ensures ∙ ap height (get_or_default c.args.status.now c.args.end _ d (omega (arith, l, c.requires.within)))) (grind (arith, ints, h))))

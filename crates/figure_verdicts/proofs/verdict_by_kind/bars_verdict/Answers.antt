-- The verdict on the bars of the map, whose lists are those given.
use Rattle.std.proofs.Common.{◌∙◌, ap, sym, rules, w32, FitsSigned, ℕ, pos}
use Rattle.std.specs.Prelude.{◌-ℤ◌}
use Rattle.std.proofs.lemmas.Int.{to_z-of_z}
use Rattle.map_lists.specs.Lists.{Lists}
use Rattle.map_theory.specs.Maps.{face_count}
use Rattle.figure_verdicts.proofs.VerdictLemmas.{IsBarsVerdict-drawn}
use Rattle.figure_verdicts.proofs.verdict_by_kind.bars_verdict.Goals as goal

pub returns-in-Ok : goal.returns-in-Ok
returns-in-Ok c =
    let width = c.bars_width.result in
    let counted = c.in-Ok.ensures.counted in
    let wide = c.bars_width.ensures ∙ ap (λ (f : ℕ). pos f -ℤ pos 1) (counted.count.f ∙ ap (λ (ls : Lists). face_count ls) (sym counted.lists_are)) in
    let fits : FitsSigned w32 width = search rules in
    let checked = rw (to_z-of_z w32 width fits) at c.check_bars-verdict.ensures in
    IsBarsVerdict-drawn c.args.lists.now c.in-Ok.found.map.lists c.args.bars.now width c.of_bars.result counted.lists_are wide c.in-Ok.ensures.simple (c.of_bars.ensures c.in-Ok.found.map.lists c.args.bars.now width checked)

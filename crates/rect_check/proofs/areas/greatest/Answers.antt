use Rattle.std.proofs.Common.{pos, sym, ap₂, ◌∙◌, arith, w32, FitsSigned, rules}
use Rattle.std.specs.Int.{int_max}
use Rattle.std.proofs.lemmas.Int.{to_z-of_z}
use Rattle.rect_check.proofs.AreaLemmas.{greatest-more}
use Rattle.rect_check.proofs.areas.greatest.Goals as goal

pub loop-i-preserved : goal.loop-i-preserved
loop-i-preserved c =
    let b : FitsSigned w32 c.loop-i.best = search rules in
    let g : FitsSigned w32 c.greater-best.result = search rules in
    let n : FitsSigned w32 c.number_in.result = search rules in
    let r = simp to_z-of_z at c.greater-best.ensures in
    simp to_z-of_z (r ∙ (ap₂ int_max c.loop-i.invariant c.number_in.ensures ∙ sym (greatest-more c.args.list.now c.loop-i.i (pos 0) (omega (arith, c.loop-i-test.true, c.len-i-end.ensures)))))

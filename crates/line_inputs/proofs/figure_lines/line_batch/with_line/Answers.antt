-- The line is taken where it is good, and stays otherwise.
use Rattle.std.proofs.Common.{◌<◌, length, take, refl, sym, ap, ◌∙◌, arith, subst}
use Rattle.std.proofs.lemmas.Bool.{OnTrue_at}
use Rattle.figure_text.specs.declared.vertex_lines.Draft.{Draft}
use Rattle.figure_text.specs.Words.{words_of}
use Rattle.line_inputs.specs.declared.figure_lines.first_line.Head.{Head}
use Rattle.line_inputs.specs.Given.{AreDrawn}
use Rattle.line_inputs.specs.Heads.{head_kind}
use Rattle.line_inputs.proofs.FigureLinesLineLemmas.{AreDrawn-more, lists-with_row}
use Rattle.line_inputs.proofs.RunLemmas.{run-same, run-line}
use Rattle.line_inputs.proofs.figure_lines.line_batch.with_line.Goals as goal

pub returns-then-len-part-clause-takes : goal.returns-then-len-part-clause-takes
returns-then-len-part-clause-takes c = λ consumed figures number first few p.
    rw c.no_step.ensures (run-same consumed figures number first c.args.rows _ c.args.part.now p refl refl refl)

pub returns-then-not-are_two_due-clause-takes : goal.returns-then-not-are_two_due-clause-takes
returns-then-not-are_two_due-clause-takes c = λ consumed figures number first few p.
    rw c.no_step-then-not-are_two_due.ensures (run-same consumed figures number first c.args.rows _ c.args.part.now p refl refl refl)

pub invariant_of-result : goal.invariant_of-result
invariant_of-result c =
    let held = c.args.rows.held in
    let line = take c.line_length-len.result c.args.part.now in
    let new = c.quick.new.self in
    let same = c.quick.ensures.same in
    let good = OnTrue_at c.if-branch.true c.in_ok-quick.ensures.good in
    let long = ap (λ (d : Draft). length d.lists) good.2 ∙ lists-with_row (head_kind held.head) held.draft (words_of line) in
    let two = OnTrue_at c.if-not-are_two_due.false c.are_two_due.ensures in
    let few = c.args.rows.few in
    let same_n = same.1 in
    record {
      few = omega arith;
      due = omega arith;
      drawn = subst (λ (h : Head). AreDrawn h new.draft) (sym same.0) (subst (λ (d : Draft). AreDrawn held.head d) (sym good.2) (AreDrawn-more held.head held.draft (words_of line) c.args.rows.drawn));
    }

pub returns-then-branch-clause-takes : goal.returns-then-branch-clause-takes
returns-then-branch-clause-takes c = λ consumed figures number first few p.
    let n = c.line_length-len.result in
    let part = c.args.part.now in
    let within : n < length part = let le = c.line_length-len.ensures.within in let ne = c.if-len-part.false in omega arith in
    let same = c.quick.ensures.same in
    run-line consumed figures number first c.args.rows _ part p same.0 same.1 n within c.line_length-len.ensures.before (c.line_length-len.ensures.found within) few (OnTrue_at c.if-branch.true c.in_ok-quick.ensures.good)

pub returns-else-branch-clause-takes : goal.returns-else-branch-clause-takes
returns-else-branch-clause-takes c = λ consumed figures number first few p.
    let same = c.quick.ensures.same in
    rw c.no_step-else-branch.ensures (run-same consumed figures number first c.args.rows _ c.args.part.now p same.0 same.1 (c.in_ok-quick.ensures.bad c.if-branch.false))

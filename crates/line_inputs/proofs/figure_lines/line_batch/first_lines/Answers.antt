-- Nothing has come of the line that is due, and the figure that has begun is one of rows.
use Rattle.std.proofs.Common.{◌≡◌, ℕ, List, [], sym, subst, rules}
use Rattle.std.specs.Prelude.{Some}
use Rattle.std.proofs.lemmas.List.{nil_from_length}
use Rattle.line_inputs.specs.FigureLinesProgress.{Progress}
use Rattle.line_inputs.specs.FigureLinesState.{TakesFront}
use Rattle.line_inputs.specs.declared.figure_lines.begun_figure.Due.{Due}
use Rattle.line_inputs.specs.declared.figure_lines.line_batch.Front.TheVariants.{Lines, NoLine}
use Rattle.line_inputs.proofs.RunLemmas.{none-run}
use Rattle.line_inputs.proofs.figure_lines.line_batch.first_lines.Goals as goal

pub returns-then-run-eq0-clause-takes : goal.returns-then-run-eq0-clause-takes
returns-then-run-eq0-clause-takes c = λ consumed figures number few p.
    let none : c.args.pending.now ≡ [] = nil_from_length c.args.pending.now (search rules) in
    let begun = rw none at (rw c.in-Some.is at p) in
    let here = subst (λ (due : Due). Progress consumed figures number [] (Some (record { first = c.in-Some.begun.first; due = due }))) c.in-Row.is begun in
    let run = c.in_ok-run-in-Row.run' in
    subst (λ (x : List ℕ). TakesFront consumed figures number c.args.part.now x (NoLine (Some run.begun))) (sym none)
    (none-run consumed figures number c.args.part.now run.begun run.bytes run.lines c.if-run-eq0.true c.in_ok-run-in-Row.ensures.few (c.in_ok-run-in-Row.ensures.takes consumed figures number few here))

pub returns-else-run-eq0-clause-takes : goal.returns-else-run-eq0-clause-takes
returns-else-run-eq0-clause-takes c = λ consumed figures number few p.
    let none : c.args.pending.now ≡ [] = nil_from_length c.args.pending.now (search rules) in
    let begun = rw none at (rw c.in-Some.is at p) in
    let here = subst (λ (due : Due). Progress consumed figures number [] (Some (record { first = c.in-Some.begun.first; due = due }))) c.in-Row.is begun in
    subst (λ (x : List ℕ). TakesFront consumed figures number c.args.part.now x (Lines c.in_ok-run-in-Row.run')) (sym none)
    (c.in_ok-run-in-Row.ensures.takes consumed figures number few here)

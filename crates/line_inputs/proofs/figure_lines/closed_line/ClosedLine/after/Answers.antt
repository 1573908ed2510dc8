-- A figure that has begun goes on, or a line stands outside one.
use Rattle.std.proofs.Common.{List, ℕ, ◌++◌, ◌∷◌, [], sym, subst}
use Rattle.std.specs.Prelude.{IfOk}
use Rattle.line_inputs.specs.FigureLinesProgress.{Makes}
use Rattle.line_inputs.proofs.figure_lines.closed_line.ClosedLine.after.Goals as goal

pub returns-in-Row-clause-makes : goal.returns-in-Row-clause-makes
returns-in-Row-clause-makes c = λ text start plain stands. let due = rw c.in-Some.is at stands in c.after_row.ensures.makes text start plain due.0 (rw c.in-Row.is at due.1)

pub returns-in-Columns-clause-makes : goal.returns-in-Columns-clause-makes
returns-in-Columns-clause-makes c = λ text start plain stands. let due = rw c.in-Some.is at stands in c.after_columns.ensures.makes text start plain (rw c.in-Columns.is at due.1)

pub returns-in-None-clause-makes : goal.returns-in-None-clause-makes
returns-in-None-clause-makes c = λ text start plain stands.
    let alone = rw c.in-None.is at stands in
    let number = c.args.self.now.number in
    subst (λ (x : List ℕ). IfOk c.after_front.result (Makes start number (x ++ 10 ∷ []))) (sym alone.1)
    (subst (λ (k : ℕ). IfOk c.after_front.result (Makes k number (c.args.self.now.text.now ++ 10 ∷ []))) alone.0 (c.after_front.ensures.makes plain))

-- What the line of the columns is worth decides.
use Rattle.std.proofs.Common.{ap, ◌∙◌, List, ℕ, ℤ}
use Rattle.figure_text.specs.declared.vertex_lines.Draft.{Draft}
use Rattle.figure_text.specs.declared.figure.Figure.TheVariants.{Bars as BarsFigure}
use Rattle.line_inputs.proofs.FigureLinesLineLemmas.{makes-columns, makes-bad_columns, makes-far_columns}
use Rattle.line_inputs.proofs.figure_lines.closed_line.ClosedLine.after_columns.Goals as goal

pub returns-in_ok-held-in-Good-clause-makes : goal.returns-in_ok-held-in-Good-clause-makes
returns-in_ok-held-in-Good-clause-makes c = λ text start plain due.
    let draft = c.args.bars.draft in
    let taken = c.into_inner-lists.result in
    let is = rw c.in-Good.is at c.columns_line.ensures in
    makes-columns text start c.args.self.now.number c.args.self.now.text.now plain draft due is.0 is.1 c.in_ok-held-in-Good.held
    (c.in_ok-held-in-Good.ensures
    ∙ ap (λ (lists : List (List ℕ)). BarsFigure lists (record { y = taken.y; x1 = taken.x1; x2 = taken.x2; column = c.in-Good.column })) c.from_lists-lists.ensures
    ∙ ap (λ (d : Draft). BarsFigure d.lists (record { y = d.y; x1 = d.x1; x2 = d.x2; column = c.in-Good.column })) c.into_inner-lists.ensures
    ∙ ap (λ (x : List ℤ). BarsFigure draft.lists (record { y = draft.y; x1 = draft.x1; x2 = draft.x2; column = x })) is.2)

pub returns-in-Bad-clause-makes : goal.returns-in-Bad-clause-makes
returns-in-Bad-clause-makes c = λ text start plain due.
    let is = rw c.in-Bad.is at c.columns_line.ensures in
    makes-bad_columns text start c.args.self.now.number c.args.self.now.text.now plain c.args.bars.draft due is

pub returns-in-Limit-clause-makes : goal.returns-in-Limit-clause-makes
returns-in-Limit-clause-makes c = λ text start plain due.
    let is = rw c.in-Limit.is at c.columns_line.ensures in
    makes-far_columns text start c.args.self.now.number c.args.self.now.text.now plain c.args.bars.draft due is.0 is.1

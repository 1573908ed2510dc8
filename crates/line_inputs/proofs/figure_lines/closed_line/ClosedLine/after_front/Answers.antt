-- What the line is decides.
use Rattle.std.proofs.Common.{sym, ◌∙◌, subst}
use Rattle.std.specs.Prelude.{Option}
use Rattle.figure_text.specs.declared.line_shapes.Kind.{Kind}
use Rattle.figure_text.specs.Figures.{IsHead}
use Rattle.figure_text.specs.Lines.{TailInRange}
use Rattle.line_inputs.proofs.FigureLinesLineLemmas.{makes-note, makes-head, makes-limit, makes-bad, IsHead-of}
use Rattle.line_inputs.proofs.figure_lines.closed_line.ClosedLine.after_front.Goals as goal

pub returns-in-Note-clause-makes : goal.returns-in-Note-clause-makes
returns-in-Note-clause-makes c = λ plain.
    let is = rw c.in-Note.is at c.in_ok-front_line.ensures in
    makes-note c.args.self.now.number c.args.self.now.text.now plain is

pub head_of-requires : goal.head_of-requires
head_of-requires c =
    let is = rw c.in-Begins.is at c.in_ok-front_line.ensures in
    subst (λ (k : Option Kind). TailInRange k c.args.self.now.text.now) is.1.0.job is.1.1.tail

pub returns-in_ok-held-in-Begins-clause-makes : goal.returns-in_ok-held-in-Begins-clause-makes
returns-in_ok-held-in-Begins-clause-makes c = λ plain.
    let is = rw c.in-Begins.is at c.in_ok-front_line.ensures in
    let line = c.args.self.now.text.now in
    let says = IsHead-of c.in-Begins.kind c.in-Begins.n line is.1.0 is.1.1 is.1.2 in
    makes-head c.args.self.now.number line plain c.in_ok-head-in-Begins.head c.in-Begins.n c.in_ok-held-in-Begins.held (c.in_ok-held-in-Begins.ensures ∙ c.new.ensures) is.0
    (subst (λ (k : Kind). IsHead k c.in-Begins.n line) (sym c.in_ok-head-in-Begins.ensures.kind) says) c.in_ok-head-in-Begins.ensures.graph

pub returns-in-Limit-clause-makes : goal.returns-in-Limit-clause-makes
returns-in-Limit-clause-makes c = λ plain.
    let is = rw c.in-Limit.is at c.in_ok-front_line.ensures in
    makes-limit c.args.self.now.number c.args.self.now.text.now plain is.0 is.1.0.shape is.1.1

pub returns-in-Bad-clause-makes : goal.returns-in-Bad-clause-makes
returns-in-Bad-clause-makes c = λ plain.
    let is = rw c.in-Bad.is at c.in_ok-front_line.ensures in
    makes-bad c.args.self.now.number c.args.self.now.text.now plain is.0 is.1

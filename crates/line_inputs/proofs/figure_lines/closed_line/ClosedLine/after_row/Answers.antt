-- What the line of a vertex is worth decides.
use Rattle.std.proofs.Common.{◌≡◌, ℕ, length, refl, sym, ap, ◌∙◌, arith, subst}
use Rattle.figure_text.specs.declared.vertex_lines.Draft.{Draft}
use Rattle.figure_text.specs.Words.{words_of}
use Rattle.figure_text.specs.Drafts.{with_row}
use Rattle.line_inputs.specs.declared.figure_lines.first_line.Head.{Head}
use Rattle.line_inputs.specs.Given.{AreDrawn}
use Rattle.line_inputs.specs.Heads.{head_kind}
use Rattle.line_inputs.specs.Steps.{IsGrown}
use Rattle.line_inputs.proofs.FigureLinesLineLemmas.{makes-grown, makes-bad_row, makes-far_row, AreDrawn-more, lists-with_row}
use Rattle.line_inputs.proofs.figure_lines.closed_line.ClosedLine.after_row.Goals as goal

pub grown-requires-clause-some : goal.grown-requires-clause-some
grown-requires-clause-some c = let due = c.args.rows.due in let same = c.row.ensures.same.1 in omega arith

pub grown-requires-clause-few : goal.grown-requires-clause-few
grown-requires-clause-few c = let few = c.args.rows.few in let same = c.row.ensures.same.1 in omega arith

pub grown-requires-clause-within : goal.grown-requires-clause-within
grown-requires-clause-within c =
    let held = c.args.rows.held in
    let row = rw c.in-Some-Good.field-0-is at c.in-Some-Good.ensures.judged in
    let long = ap (λ (d : Draft). length d.lists) (row.1 refl) ∙ lists-with_row (head_kind held.head) held.draft (words_of c.args.self.now.text.now) in
    let due = c.args.rows.due in
    let same = c.row.ensures.same.1 in
    omega arith

pub grown-requires-clause-drawn : goal.grown-requires-clause-drawn
grown-requires-clause-drawn c =
    let held = c.args.rows.held in
    let row = rw c.in-Some-Good.field-0-is at c.in-Some-Good.ensures.judged in
    let drawn = AreDrawn-more held.head held.draft (words_of c.args.self.now.text.now) c.args.rows.drawn in
    subst (λ (h : Head). AreDrawn h c.row.new.self.draft) (sym c.row.ensures.same.0) (subst (λ (d : Draft). AreDrawn held.head d) (sym (row.1 refl)) drawn)

pub returns-in_ok-after-in-Some-Good-clause-makes : goal.returns-in_ok-after-in-Some-Good-clause-makes
returns-in_ok-after-in-Some-Good-clause-makes c = λ text start plain same begun.
    let held = c.args.rows.held in
    let kind = head_kind held.head in
    let line = c.args.self.now.text.now in
    let new = c.row.new.self in
    let after = c.in_ok-after-in-Some-Good.after in
    let row = rw c.in-Some-Good.field-0-is at c.in-Some-Good.ensures.judged in
    let is : new.draft ≡ with_row kind held.draft (words_of line) = row.1 refl in
    let long = ap (λ (d : Draft). length d.lists) is ∙ lists-with_row kind held.draft (words_of line) in
    let due = c.args.rows.due in
    let grown = subst (λ (n : ℕ). IsGrown held.head n c.args.first new.draft after) c.row.ensures.same.1
    (subst (λ (h : Head). IsGrown h new.n c.args.first new.draft after) c.row.ensures.same.0 c.in_ok-after-in-Some-Good.ensures.grown) in
    makes-grown text start c.args.self.now.number line plain held.head held.n held.draft begun row.0 new.draft is (omega arith) c.args.first same after grown

pub returns-in-Some-Bad-clause-makes : goal.returns-in-Some-Bad-clause-makes
returns-in-Some-Bad-clause-makes c = λ text start plain same begun.
    let held = c.args.rows.held in
    let row = rw c.in-Some-Bad.field-0-is at c.in-Some-Bad.ensures.judged in
    makes-bad_row text start c.args.self.now.number c.args.self.now.text.now plain held.head held.n held.draft begun c.args.rows.due row.0

pub returns-in-Some-Limit-clause-makes : goal.returns-in-Some-Limit-clause-makes
returns-in-Some-Limit-clause-makes c = λ text start plain same begun.
    let held = c.args.rows.held in
    let row = rw c.in-Some-Limit.field-0-is at c.in-Some-Limit.ensures.judged in
    makes-far_row text start c.args.self.now.number c.args.self.now.text.now plain held.head held.n held.draft begun c.args.rows.due row.0.0 row.0.1

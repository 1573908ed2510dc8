-- The front of the line by its words, and its neighbours one by one.
use Rattle.std.proofs.Common.{refl, length}
use Rattle.std.proofs.lemmas.Bool.{OnTrue_at}
use Rattle.figure_text.specs.Words.{words_of}
use Rattle.figure_text.proofs.FrontLemmas.{front-row, front-range, front-draft}
use Rattle.figure_text.proofs.vertex_lines.VertexLine.push_by_words.Goals as goal

pub returns-clause-good : goal.returns-clause-good
returns-clause-good c =
    let kind = c.args.self.now.kind in
    let place = c.args.self.now.place in
    let line = c.args.self.now.line.now in
    let found = c.fill_front.new.found.items in
    let at = c.in_ok-at.at in
    let parts = c.in_ok-at.ensures.words in
    let (many, fits, within) = rw (c.pieces-pieces.ensures.pieces, c.deref.ensures.value) at (OnTrue_at c.if-not-is_front.false c.is_front.ensures) in
    let (all, lists) = OnTrue_at c.if-not-branch.false c.in_ok-push_plain.ensures.good in (
      front-row kind place line found at parts many all fits (c.is_witness.ensures place (length (words_of line)) c.if-is_witness.false),
      front-range kind place line found at parts many all within,
      front-draft kind place line found at parts many all c.args.draft.now c.push_values.new.draft c.push_plain.new.lists _ (λ i h held. refl) lists c.in_ok-push_values.ensures,
    )

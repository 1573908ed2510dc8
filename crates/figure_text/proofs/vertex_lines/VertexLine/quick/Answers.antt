-- The front of the line piece by piece, and its neighbours one by one.
use Rattle.std.proofs.Common.{length, get_or}
use Rattle.std.proofs.lemmas.Bool.{OnTrue_at}
use Rattle.figure_text.specs.declared.front_pieces.Piece.TheVariants.{Row}
use Rattle.figure_text.specs.Words.{words_of, word_at}
use Rattle.figure_text.specs.Pieces.{pieces}
use Rattle.figure_text.proofs.FrontLemmas.{front-row, front-range, front-draft, size-value}
use Rattle.figure_text.proofs.vertex_lines.VertexLine.quick.Goals as goal

pub returns-clause-good : goal.returns-clause-good
returns-clause-good c =
    let kind = c.args.self.now.kind in
    let place = c.args.self.now.place in
    let line = c.args.self.now.line.now in
    let front = c.read_front.new.front in
    let is = c.read_front.ensures (c.new-front.ensures place line) c.if-not-read_front.false in
    let (all, lists) = OnTrue_at c.if-not-branch.false c.in_ok-push_plain.ensures.good in (
      front-row kind place line is.words front.end is.parts is.long all is.fits (c.is_witness.ensures place (length (words_of line)) c.if-is_witness.false),
      front-range kind place line is.words front.end is.parts is.long all is.within,
      front-draft kind place line is.words front.end is.parts is.long all c.args.draft.now c.push_values.new.draft c.push_plain.new.lists _
          (λ i h held. size-value (get_or (pieces kind) i Row) (word_at is.words i) (get_or front.numbers i 0) held (is.sizes i h)) lists c.in_ok-push_values.ensures,
    )

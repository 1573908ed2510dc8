-- One piece more.
use Rattle.std.proofs.Common.{refl, ap, set, ℕ}
use Rattle.figure_text.proofs.FrontLemmas.{front-more}
use Rattle.figure_text.proofs.vertex_lines.VertexLine.with_piece.Goals as goal

pub returns-in-Some : goal.returns-in-Some
returns-in-Some c = λ pieces long is there.
    front-more pieces c.args.piece c.args.self.now.place c.args.k c.args.self.now.line.now c.args.front.now _ c.in-Some.next long c.requires is c.in-Some.ensures (ap (λ (n : ℕ). set c.args.front.now.numbers c.args.k n) c.size_of.ensures) refl

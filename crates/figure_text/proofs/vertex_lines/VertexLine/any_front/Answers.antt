-- One piece more.
use Rattle.std.proofs.Common.{List, take, subst, sym, arith, length-take-le}
use Rattle.std.proofs.lemmas.List.{take_more, take_all}
use Rattle.figure_text.specs.declared.front_pieces.Piece.{Piece}
use Rattle.figure_text.specs.Plain.{IsFrontOf}
use Rattle.figure_text.proofs.vertex_lines.VertexLine.any_front.Goals as goal

pub loop-k-preserved : goal.loop-k-preserved
loop-k-preserved c = λ start.
    let pieces = c.args.pieces.now in
    let k = c.loop-k.k in
    subst (λ (ps : List Piece). IsFrontOf ps c.args.self.now.place c.args.self.now.line.now c.with_piece.new.front) (sym (take_more pieces k _ (omega arith)))
    (c.with_piece.ensures (take k pieces) (length-take-le k pieces (omega arith)) (c.loop-k.invariant start) c.if-not-with_piece.false)

pub returns : goal.returns
returns c = λ start there. subst (λ (ps : List Piece). IsFrontOf ps c.args.self.now.place c.args.self.now.line.now c.loop-k.front) (take_all c.loop-k.k c.args.pieces.now (omega arith)) (c.loop-k.invariant start)

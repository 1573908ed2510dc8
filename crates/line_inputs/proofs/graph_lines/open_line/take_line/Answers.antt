-- The part holds a byte 10 or none.
use Rattle.std.proofs.Common.{◌≡◌, ◌<◌, ◌++◌, length, take, arith, rules}
use Rattle.std.proofs.lemmas.List.{nil_from_length}
use Rattle.line_inputs.proofs.FigureLinesPartLemmas.{joined}
use Rattle.line_inputs.proofs.GraphLinesPartLemmas.{joins-all, closes-line}
use Rattle.line_inputs.proofs.graph_lines.open_line.take_line.Goals as goal

pub returns-then-len-part-clause-takes : goal.returns-then-len-part-clause-takes
returns-then-len-part-clause-takes c = λ consumed graphs p few.
    joins-all consumed graphs c.args.at.number c.args.at.first c.args.pending.now.items c.extend_from_slice.new.self.items c.args.part.now c.line_length-len.result c.if-len-part.true c.line_length-len.ensures.before c.in_ok-extend_from_slice.ensures.items p

pub returns-clause-takes : goal.returns-clause-takes
returns-clause-takes c = λ consumed graphs p few.
    let n = c.line_length-len.result in
    let part = c.args.part.now in
    let within : n < length part = let le = c.line_length-len.ensures.within in let ne = c.if-len-part.false in omega arith in
    let line : c.chosen-line.result.now ≡ c.args.pending.now.items ++ take n part =
    joined c.is_empty-alone.result c.args.pending.now.items (take n part) c.join.new.front.items c.chosen-line.result.now (λ is. nil_from_length c.args.pending.now.items (search rules)) c.in_ok-join.ensures (search rules) in
    (c.clear.ensures.items, closes-line consumed graphs c.args.at.number c.args.at.first c.args.pending.now.items c.chosen-line.result.now c.in_ok-judged.judged part n within c.line_length-len.ensures.before (c.line_length-len.ensures.found within) few line p c.in_ok-judged.ensures)

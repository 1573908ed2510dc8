-- A bad line, and what follows it in the part.
use Rattle.std.proofs.Common.{◌≤◌, ◌+◌, List, ℕ, ◌++◌, length, drop, arith, subst, sym}
use Rattle.record_runs.specs.Texts.{input_limit}
use Rattle.line_inputs.proofs.FigureLinesPartLemmas.{part-splits}
use Rattle.line_inputs.specs.GraphLinesProgress.{Progress}
use Rattle.line_inputs.specs.GraphLinesReading.{IsReading}
use Rattle.line_inputs.specs.GraphLinesState.{State}
use Rattle.line_inputs.proofs.graph_lines.reader.GraphReaderFormat.take.Goals as goal

pub returns-in-Bad-clause-reads : goal.returns-in-Bad-clause-reads
returns-in-Bad-clause-reads c = λ consumed graphs at.
    let part = c.args.piece.now in
    let few : length consumed + length part ≤ input_limit = let l = at.placed in let r = c.requires.room in omega arith in
    let P : State → Type 0 = λ s. Progress consumed graphs s.line s.first s.pending in
    let progress = subst P (sym c.self.view_is) at.progress in
    let took = c.in_ok-take_line.ensures.takes consumed graphs progress few in
    let takes = rw c.in-Bad.is at (rw c.in-Closed.is at took) in
    (takes.1.0, λ tail. subst (λ (x : List ℕ). IsReading x graphs c.in-Bad.ending) (part-splits consumed part tail c.in-Closed.k) (takes.1.1 (drop c.in-Closed.k part ++ tail)))

-- A bad line, and what follows it in the part.
use Rattle.std.proofs.Common.{◌≤◌, ◌+◌, List, ℕ, ◌++◌, length, drop, arith, subst, sym}
use Rattle.line_inputs.specs.FigureLinesProgress.{Progress}
use Rattle.record_runs.specs.Texts.{input_limit}
use Rattle.line_inputs.specs.FigureLinesReading.{IsReading}
use Rattle.line_inputs.specs.FigureLinesState.{State}
use Rattle.line_inputs.proofs.FigureLinesPartLemmas.{part-splits}
use Rattle.line_inputs.proofs.figure_lines.reader.FigureReaderFormat.take.Goals as goal

pub returns-in-Bad-clause-reads : goal.returns-in-Bad-clause-reads
returns-in-Bad-clause-reads c = λ consumed figures at.
    let state = c.args.self.now in
    let part = c.args.piece.now in
    let few : length consumed + length part ≤ input_limit = let l = at.placed in let r = c.requires.room in omega arith in
    let P : State → Type 0 = λ s. Progress consumed figures s.line s.pending s.begun in
    let here = subst P (sym c.self.view_is) at.progress in
    let progress = rw (← c.take-before.ensures.value) at here in
    let took = c.in_ok-begun.ensures.takes consumed figures progress few in
    let takes = rw c.in-Bad.is at (rw c.in-Closed.is at took) in
    (takes.1.0, λ tail. subst (λ (x : List ℕ). IsReading x figures c.in-Bad.ending) (part-splits consumed part tail c.in-Closed.k) (takes.1.1 (drop c.in-Closed.k part ++ tail)))

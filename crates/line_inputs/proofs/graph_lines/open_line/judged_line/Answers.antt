-- The graph of the line, or how the input ends by the fault that it has.
use Rattle.std.proofs.Common.{true≢false, List, ℕ, sym, ◌∙◌, subst}
use Rattle.line_inputs.specs.GraphLinesProgress.{IsJudged}
use Rattle.line_inputs.specs.declared.graph_lines.open_line.Judged.TheVariants.{Graph, Bad}
use Rattle.line_inputs.proofs.GraphLinesLineLemmas.{closes-judged}
use Rattle.line_inputs.proofs.graph_lines.open_line.judged_line.Goals as goal

pub returns-in-Ok : goal.returns-in-Ok
returns-in-Ok c = λ consumed graphs p short.
    closes-judged consumed graphs c.args.at.number c.args.at.first c.args.line.now (Graph c.in-Ok.graph) short p (λ t e. true≢false (sym (c.is_header.ensures.1 (t, e)) ∙ c.if-is_header.false))
    (rw (← c.behind_header.ensures) c.in-Ok.ensures.ok)

pub returns-in-Some : goal.returns-in-Some
returns-in-Some c = λ consumed graphs p short.
    let judged = rw c.in-Some.is at (c.fault_ending.ensures c.behind_header.result.now c.in-Err.ensures.fault) in
    closes-judged consumed graphs c.args.at.number c.args.at.first c.args.line.now (Bad c.in-Some.ending) short p (λ t e. true≢false (sym (c.is_header.ensures.1 (t, e)) ∙ c.if-is_header.false))
    (subst (λ (x : List ℕ). IsJudged c.args.at.number x (Bad c.in-Some.ending)) c.behind_header.ensures (c.in-Err.fault, judged))

-- One line more, until none is taken.
use Rattle.std.proofs.Common.{◌≤◌, ◌+◌, ◌++◌, ℕ, List, length, take, drop, arith, length-append}
use Rattle.std.proofs.lemmas.List.{take_rest, length-drop, length-take-le}
use Rattle.record_runs.specs.Texts.{input_limit}
use Rattle.line_inputs.proofs.RunLemmas.{begun_by, run-none, run-more}
use Rattle.line_inputs.proofs.figure_lines.line_batch.rows_run.Goals as goal

pub loop-bytes-init : goal.loop-bytes-init
loop-bytes-init c = record {
  within = omega arith;
  few = omega arith;
  taken = λ consumed figures number few p. run-none consumed figures number c.args.part.now (begun_by c.args.first c.args.rows) p;
}

pub returns-then-step-eq0-clause-takes : goal.returns-then-step-eq0-clause-takes
returns-then-step-eq0-clause-takes c = λ consumed figures number few p.
    let part = c.args.part.now in
    let bytes = c.loop-bytes.bytes in
    let lines = c.loop-bytes.lines in
    let step = c.in_ok-step.step in
    let front : List ℕ = consumed ++ take bytes part in
    let room : length front + length (drop bytes part) ≤ input_limit =
    let a = length-append consumed (take bytes part) in let t = length-take-le bytes part c.loop-bytes.invariant.within in let d = length-drop bytes part in let w = c.loop-bytes.invariant.within in omega arith in
    let takes = rw (take_rest part bytes) at c.in_ok-step.ensures.takes in
    rw c.run_to.ensures (run-more consumed figures number (begun_by c.args.first step.rows) part bytes lines step.bytes step.lines (takes front figures (number + lines) c.args.first room (c.loop-bytes.invariant.taken consumed figures number few p)))

pub loop-bytes-preserved : goal.loop-bytes-preserved
loop-bytes-preserved c =
    let part = c.args.part.now in
    let bytes = c.loop-bytes.bytes in
    let lines = c.loop-bytes.lines in
    let step = c.in_ok-step.step in
    let w = c.loop-bytes.invariant.within in
    let f = c.loop-bytes.invariant.few in
    let more = rw (take_rest part bytes) at c.in_ok-step.ensures.within in
    let fewer = c.in_ok-step.ensures.few in
    let takes = rw (take_rest part bytes) at c.in_ok-step.ensures.takes in
    record {
      within = omega (arith, more, length-drop bytes part);
      few = omega arith;
      taken = λ consumed figures number few p.
          let front : List ℕ = consumed ++ take bytes part in
          let room : length front + length (drop bytes part) ≤ input_limit =
          let a = length-append consumed (take bytes part) in let t = length-take-le bytes part w in let d = length-drop bytes part in omega arith in
          run-more consumed figures number (begun_by c.args.first step.rows) part bytes lines step.bytes step.lines (takes front figures (number + lines) c.args.first room (c.loop-bytes.invariant.taken consumed figures number few p));
    }

-- What a closed line makes of the figure that has begun.
use Rattle.std.proofs.Common.{◌++◌, ◌<◌, length, sym, subst, arith}
use Rattle.std.specs.Prelude.{Err}
use Rattle.figure_text.specs.declared.fault.TextFault.{TextFault}
use Rattle.figure_text.specs.Laws.{IsAnswer}
use Rattle.line_inputs.proofs.ReadToLemmas.{ReadTo-few, ReadTo-more, line-open, answers-note, answers-drawn, answers-bad, answers-end, behind-more}
use Rattle.line_inputs.proofs.figure_lines.whole_text.read_figure.Goals as goal

pub returns-in-Ok-Goes-None : goal.returns-in-Ok-Goes-None
returns-in-Ok-Goes-None c =
    let l = c.loop-text in
    let read = l.invariant.read in
    let line = c.in-Some.ensures in
    let stands = line-open c.args.bytes.now c.in-Some.text.now c.args.at c.args.line l.next l.number c.in-Some.behind l.begun c.requires.within l.invariant.within line.1 read line.0 in
    let makes = rw (c.in-Ok-Goes-None.field-0-is, c.in-Ok-Goes-None.field-0-0-is) at (c.in-Ok-Goes-None.ensures.makes (read.text ++ c.in-Some.text.now) c.args.line line.0.plain stands) in
    answers-note c.args.bytes.now c.in-Some.text.now c.args.at c.args.line l.next l.number c.in-Some.behind l.begun c.requires.within l.invariant.within line.1 read line.0 makes

pub overflow_add-result-in-Ok-Whole : goal.overflow_add-result-in-Ok-Whole
overflow_add-result-in-Ok-Whole c =
    let l = c.loop-text in
    let few = ReadTo-few c.args.bytes.now c.args.at c.args.line l.next l.number l.begun l.invariant.read in
    let first = c.requires.few in
    omega arith

pub returns-in-Ok-Whole : goal.returns-in-Ok-Whole
returns-in-Ok-Whole c =
    let l = c.loop-text in
    let read = l.invariant.read in
    let line = c.in-Some.ensures in
    let stands = line-open c.args.bytes.now c.in-Some.text.now c.args.at c.args.line l.next l.number c.in-Some.behind l.begun c.requires.within l.invariant.within line.1 read line.0 in
    let makes = rw c.in-Ok-Whole.field-0-is at (c.in-Ok-Whole.ensures.makes (read.text ++ c.in-Some.text.now) c.args.line line.0.plain stands) in
    rw c.into_inner.ensures (answers-drawn c.args.bytes.now c.in-Some.text.now c.args.at c.args.line l.next l.number c.in-Some.behind l.begun c.requires.within l.invariant.within line.1 read line.0 c.in-Ok-Whole.held makes)

pub fault_of-requires : goal.fault_of-requires
fault_of-requires c =
    let l = c.loop-text in
    let read = l.invariant.read in
    let line = c.in-Some.ensures in
    let stands = line-open c.args.bytes.now c.in-Some.text.now c.args.at c.args.line l.next l.number c.in-Some.behind l.begun c.requires.within l.invariant.within line.1 read line.0 in
    let makes = rw c.in-Ok-Bad.field-0-is at (c.in-Ok-Bad.ensures.makes (read.text ++ c.in-Some.text.now) c.args.line line.0.plain stands) in
    makes.0

pub returns-in-Ok-Bad : goal.returns-in-Ok-Bad
returns-in-Ok-Bad c =
    let l = c.loop-text in
    let read = l.invariant.read in
    let line = c.in-Some.ensures in
    let stands = line-open c.args.bytes.now c.in-Some.text.now c.args.at c.args.line l.next l.number c.in-Some.behind l.begun c.requires.within l.invariant.within line.1 read line.0 in
    let makes = rw c.in-Ok-Bad.field-0-is at (c.in-Ok-Bad.ensures.makes (read.text ++ c.in-Some.text.now) c.args.line line.0.plain stands) in
    subst (λ (f : TextFault). IsAnswer c.args.bytes.now c.args.at c.args.line (Err f)) (sym c.fault_of.ensures)
    (answers-bad c.args.bytes.now c.in-Some.text.now c.args.at c.args.line l.next l.number c.in-Some.behind l.begun c.requires.within l.invariant.within line.1 read line.0 c.in-Ok-Bad.ending makes)

pub overflow_add-number : goal.overflow_add-number
overflow_add-number c =
    let l = c.loop-text in
    let few = ReadTo-few c.args.bytes.now c.args.at c.args.line l.next l.number l.begun l.invariant.read in
    let first = c.requires.few in
    omega arith

pub loop-text-smaller : goal.loop-text-smaller
loop-text-smaller c =
    let line = c.in-Some.ensures in
    behind-more c.args.bytes.now c.in-Some.text.now c.loop-text.next c.in-Some.behind c.loop-text.invariant.within line.1 line.0

pub loop-text-preserved : goal.loop-text-preserved
loop-text-preserved c =
    let l = c.loop-text in
    let read = l.invariant.read in
    let line = c.in-Some.ensures in
    let stands = line-open c.args.bytes.now c.in-Some.text.now c.args.at c.args.line l.next l.number c.in-Some.behind l.begun c.requires.within l.invariant.within line.1 read line.0 in
    let makes = rw (c.in-Ok-Goes-Some.field-0-is, c.in-Ok-Goes-Some.field-0-0-is) at (c.in-Ok-Goes-Some.ensures.makes (read.text ++ c.in-Some.text.now) c.args.line line.0.plain stands) in
    record {
      within = line.1;
      read = ReadTo-more c.args.bytes.now c.in-Some.text.now c.args.at c.args.line l.next l.number c.in-Some.behind l.begun c.requires.within l.invariant.within line.1 read line.0 c.in-Ok-Goes-Some.figure makes;
    }

pub returns : goal.returns
returns c =
    let l = c.loop-text in
    let some : c.args.at < length c.args.bytes.now = let w = c.requires.within in let e = c.if-at-bytes.false in omega arith in
    subst (λ (f : TextFault). IsAnswer c.args.bytes.now c.args.at c.args.line (Err f)) (sym c.end_fault.ensures)
    (answers-end c.args.bytes.now c.args.at c.args.line l.next l.number l.begun some l.invariant.read c.in_default.ensures)

-- Each record that ends is one more, and where none does the bytes are cut.
use Rattle.std.proofs.Common.{drop, arith}
use Rattle.planar_code.proofs.WholeLemmas.{cut-from, cut-at-end, upto-header, upto-more, bad-none, header-within}
use Rattle.planar_code.proofs.whole_input.last_cut.Goals as goal

pub loop-end-init : goal.loop-end-init
loop-end-init c =
    let e = c.after_header-end.ensures in
    let w = header-within c.args.bytes.now in
    record { upto = upto-header c.args.bytes.now c.after_header-end.result e (omega arith); between = c.new-scanner.ensures.bytes }

pub loop-end-preserved : goal.loop-end-preserved
loop-end-preserved c =
    let l = c.loop-end in
    let e = rw c.in-Ended.is at c.in_ok-next.ensures in
    record {
      upto = upto-more c.args.bytes.now l.end l.records c.in-Ended.next _ l.invariant.upto e.0 e.1 e.2;
      between = e.3;
    }

pub returns-in-Bad : goal.returns-in-Bad
returns-in-Bad c =
    let l = c.loop-end in
    cut-from c.args.bytes.now l.end l.records l.invariant.upto (bad-none (drop l.end c.args.bytes.now) (rw c.in-Bad.is at c.in_ok-next.ensures))

pub returns-in-Open : goal.returns-in-Open
returns-in-Open c =
    let l = c.loop-end in
    let e = rw c.in-Open.is at c.in_ok-next.ensures in
    cut-from c.args.bytes.now l.end l.records l.invariant.upto e.1

pub returns : goal.returns
returns c = let l = c.loop-end in cut-at-end c.args.bytes.now l.end l.records l.invariant.upto (omega arith)

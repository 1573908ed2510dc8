use Rattle.std.proofs.Common.{◌-◌, length, drop, refl, arith}
use Rattle.std.proofs.lemmas.List.{drop_all}
use Rattle.figure_text.proofs.BackwardLemmas.{entry_back}
use Rattle.figure_text.proofs.backward_writing.write_text.Goals as goal

pub loop-k-init : goal.loop-k-init
loop-k-init c = (omega arith, omega arith, rw (drop_all (length c.args.text.now - 0) c.args.text.now (omega arith)) refl)

pub loop-k-preserved : goal.loop-k-preserved
loop-k-preserved c =
    let w = c.write_byte-start in
    (omega arith, omega arith, entry_back c.args.text.now c.loop-k.k 0 (omega arith) (drop w.result w.new.bytes) (drop c.args.end c.args.bytes.now) (rw (w.ensures.written, c.loop-k.invariant.2) refl))

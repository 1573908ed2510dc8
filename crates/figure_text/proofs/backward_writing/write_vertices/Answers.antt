use Rattle.std.proofs.Common.{◌+◌, ◌-◌, ◌∷◌, length, drop, decimal, refl, arith}
use Rattle.std.proofs.lemmas.Fmt.{length-decimal-le}
use Rattle.std.proofs.lemmas.List.{drop_all}
use Rattle.figure_text.proofs.BackwardLemmas.{texts_back}
use Rattle.figure_text.proofs.backward_writing.write_vertices.Goals as goal

pub loop-k-init : goal.loop-k-init
loop-k-init c = (omega arith, omega arith, omega arith, rw (drop_all (length c.args.list.now - 0) c.args.list.now (omega arith)) refl)

pub write-start-requires : goal.write-start-requires
write-start-requires c =
    let long = length-decimal-le 5 (c.from.result + 1) (omega arith) (omega arith) (omega arith) in
    (omega (arith, long), omega arith, omega arith)

pub loop-k-preserved : goal.loop-k-preserved
loop-k-preserved c =
    let w = c.write-start in
    let long = length-decimal-le 5 (c.from.result + 1) (omega arith) (omega arith) (omega arith) in
    (omega arith, omega arith, omega (arith, long), texts_back c.args.list.now c.loop-k.k 0 (omega arith) (λ u. 32 ∷ decimal (u + 1)) (drop w.result w.new.bytes) (drop c.args.end c.args.bytes.now) (rw (w.ensures.written, c.from.ensures, c.loop-k.invariant.3) refl))

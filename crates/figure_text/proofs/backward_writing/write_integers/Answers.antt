use Rattle.std.proofs.Common.{◌-◌, ◌∷◌, length, drop, get_or, pos, FitsSigned, w32, to_z-of_z, refl, arith, rules}
use Rattle.std.specs.Fmt.{signed_decimal}
use Rattle.std.proofs.lemmas.List.{drop_all}
use Rattle.figure_text.proofs.BackwardLemmas.{texts_back}
use Rattle.figure_text.proofs.backward_writing.write_integers.Goals as goal

pub loop-k-init : goal.loop-k-init
loop-k-init c = (omega arith, omega arith, omega arith, rw (drop_all (length c.args.list.now - 0) c.args.list.now (omega arith)) refl)

pub loop-k-preserved : goal.loop-k-preserved
loop-k-preserved c =
    let w = c.write_signed-start in
    let fits : FitsSigned w32 (get_or c.args.list.now (length c.args.list.now - 1 - c.loop-k.k) (pos 0)) = search rules in
    (omega arith, omega arith, omega arith, texts_back c.args.list.now c.loop-k.k (pos 0) (omega arith) (λ z. 32 ∷ signed_decimal z) (drop w.result w.new.bytes) (drop c.args.end c.args.bytes.now) (rw (w.ensures.written, to_z-of_z fits, c.loop-k.invariant.3) refl))

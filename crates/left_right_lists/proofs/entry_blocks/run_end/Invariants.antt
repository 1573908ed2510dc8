use Rattle.std.proofs.Common.{◌≡◌, true, false, eqb, not}
use Rattle.left_right_lists.proofs.RunLemmas.{IsRunTo}
use Rattle.left_right_lists.proofs.entry_blocks.run_end.Given as goal

abbrev pub invariant-loop-i : goal.invariant-loop-i
invariant-loop-i l = record {
  at : l.ends ≡ true → IsRunTo (λ d. eqb d.1 l.v) l.ds l.from l.i;
  off : l.ends ≡ false → IsRunTo (λ d. not (eqb d.1 l.v)) l.ds l.from l.i;
}

use Rattle.std.proofs.Common.{◌∙◌, sym}
use Rattle.graphs.specs.Bits.{is_set}
use Rattle.graphs.proofs.BitLemmas.{is_set-set}
use Rattle.graphs.proofs.bits.set.Goals as goal

pub with_bit-requires-clause-unset : goal.with_bit-requires-clause-unset
unfolding is_set
with_bit-requires-clause-unset c = sym c.is_set.ensures ∙ c.if-not-is_set.true

pub returns-then-not-is_set-clause-bits : goal.returns-then-not-is_set-clause-bits
returns-then-not-is_set-clause-bits c = is_set-set c.args.body.now c.args.place c.with_bit.result c.requires.within c.with_bit.ensures.bits

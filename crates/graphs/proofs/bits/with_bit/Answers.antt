-- A byte with one bit more, by cases on which.
use Rattle.graphs.proofs.BitLemmas.{range-with_bit, bits-with_bit}
use Rattle.graphs.proofs.bits.with_bit.Goals as goal

pub returns-clause-range : goal.returns-clause-range
returns-clause-range c = range-with_bit c.args.byte c.args.k c.requires.range c.requires.bit c.requires.unset

pub returns-clause-bits : goal.returns-clause-bits
returns-clause-bits c = bits-with_bit c.args.byte c.args.k c.requires.range c.requires.bit c.requires.unset

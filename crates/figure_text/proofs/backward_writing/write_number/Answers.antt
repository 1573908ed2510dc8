use Rattle.std.proofs.Common.{arith}
use Rattle.std.proofs.lemmas.Fmt.{length-decimal-le}
use Rattle.figure_text.proofs.BackwardLemmas.{behind_space}
use Rattle.figure_text.proofs.backward_writing.write_number.Goals as goal

pub write-requires : goal.write-requires
write-requires c = (omega (arith, length-decimal-le 20 c.args.number (omega arith) (omega arith) c.ranges.number.fits), omega arith, omega arith)

pub returns-clause-within : goal.returns-clause-within
returns-clause-within c =
    let long = length-decimal-le 20 c.args.number (omega arith) (omega arith) c.ranges.number.fits in
    (omega arith, omega (arith, long))

pub returns-clause-written : goal.returns-clause-written
returns-clause-written c = behind_space c.write.new.bytes _ c.write.result c.write.ensures.written

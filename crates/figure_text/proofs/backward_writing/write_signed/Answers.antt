use Rattle.std.proofs.Common.{refl, arith, to_z-of_z}
use Rattle.std.proofs.lemmas.Fmt.{length-decimal-le}
use Rattle.figure_text.proofs.BackwardLemmas.{behind_space}
use Rattle.itoa.proofs.Decimal.{minus_first}
use Rattle.figure_text.proofs.backward_writing.write_signed.Goals as goal

pub write-requires : goal.write-requires
write-requires c = (omega (arith, length-decimal-le 10 c.from.result (omega arith) (omega arith) (omega arith)), omega arith, omega arith)

pub write-start-requires : goal.write-start-requires
write-start-requires c = (omega (arith, length-decimal-le 10 c.from-2.result (omega arith) (omega arith) (omega arith)), omega arith, omega arith)

pub returns-then-number-ge0-clause-within : goal.returns-then-number-ge0-clause-within
returns-then-number-ge0-clause-within c =
    let long = length-decimal-le 10 c.from.result (omega arith) (omega arith) (omega arith) in
    (omega arith, omega (arith, long))

pub write_byte-sign-requires : goal.write_byte-sign-requires
write_byte-sign-requires c = (omega (arith, length-decimal-le 10 c.from-2.result (omega arith) (omega arith) (omega arith)), omega arith)

pub write_byte-requires : goal.write_byte-requires
write_byte-requires c = (omega (arith, length-decimal-le 10 c.from-2.result (omega arith) (omega arith) (omega arith)), omega arith)

pub returns-clause-within : goal.returns-clause-within
returns-clause-within c =
    let long = length-decimal-le 10 c.from-2.result (omega arith) (omega arith) (omega arith) in
    (omega arith, omega (arith, long))

pub returns-clause-written : goal.returns-clause-written
returns-clause-written c =
    let back = to_z-of_z c.ranges.number in
    rw (c.write_byte.ensures.written, c.write_byte-sign.ensures.written, behind_space c.write-start.new.bytes _ c.write-start.result c.write-start.ensures.written, c.from-2.ensures, c.unsigned_abs-2.ensures.value, back, ← minus_first c.args.number (rw back at c.if-number-ge0.false)) refl

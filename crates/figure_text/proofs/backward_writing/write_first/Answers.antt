use Rattle.std.proofs.Common.{length, arith}
use Rattle.std.proofs.lemmas.Fmt.{length-decimal-le}
use Rattle.figure_text.proofs.BackwardLemmas.{first_line-written}
use Rattle.figure_text.proofs.backward_writing.write_first.Goals as goal

pub write-count-requires : goal.write-count-requires
write-count-requires c = (omega (arith, length-decimal-le 4 c.len-n.result (omega arith) (omega arith) (omega (arith, c.len-n.ensures.is, c.len-n.ensures.few))), omega arith, omega arith)

pub write_text-name-requires : goal.write_text-name-requires
write_text-name-requires c = (omega (arith, length-decimal-le 4 c.len-n.result (omega arith) (omega arith) (omega (arith, c.len-n.ensures.is, c.len-n.ensures.few))), omega arith)

pub write_byte-space-requires : goal.write_byte-space-requires
write_byte-space-requires c = (omega (arith, length-decimal-le 4 c.len-n.result (omega arith) (omega arith) (omega (arith, c.len-n.ensures.is, c.len-n.ensures.few))), omega arith)

pub write-number-requires : goal.write-number-requires
write-number-requires c =
    let count = length-decimal-le 4 c.len-n.result (omega arith) (omega arith) (omega (arith, c.len-n.ensures.is, c.len-n.ensures.few)) in
    let number = length-decimal-le 10 c.from.result (omega arith) (omega arith) (omega arith) in
    (omega (arith, count, number), omega (arith, count), omega arith)

pub write_text-requires : goal.write_text-requires
write_text-requires c =
    let count = length-decimal-le 4 c.len-n.result (omega arith) (omega arith) (omega (arith, c.len-n.ensures.is, c.len-n.ensures.few)) in
    let number = length-decimal-le 10 c.from.result (omega arith) (omega arith) (omega arith) in
    (omega (arith, count, number), omega arith)

pub returns-clause-written : goal.returns-clause-written
returns-clause-written c =
    first_line-written c.args.heading.now.number _ (length c.args.heading.now.lists.now) _ c.args.heading.now.word.now _ _ _ _ _ _ _ c.write_text.ensures.written c.write-number.ensures.written c.from.ensures c.write_byte-space.ensures.written c.write_text-name.ensures.written c.write-count.ensures.written c.len-n.ensures.is c.write_byte-newline.ensures.written

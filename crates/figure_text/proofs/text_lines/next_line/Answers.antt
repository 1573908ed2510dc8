use Rattle.std.proofs.Common.{◌-◌, length, drop, arith}
use Rattle.std.proofs.lemmas.List.{take_all, length-drop, get_or_default}
use Rattle.figure_text.proofs.text_lines.next_line.Goals as goal

pub returns-then-len-rest : goal.returns-then-len-rest
returns-then-len-rest c = λ k d l.
    let whole = take_all (length c.args.bytes.now - c.args.at) (drop c.args.at c.args.bytes.now) (omega (arith, length-drop c.args.at c.args.bytes.now)) in
    rw (get_or_default (drop c.args.at c.args.bytes.now) k d 0 l) ((rw whole at c.line_length-len.ensures.before) k (omega (arith, l, rw whole at c.if-len-rest.true)))

-- A line of more words is none that begins a figure.
use Rattle.std.proofs.Common.{◌<◌, length, arith, rules}
use Rattle.figure_text.specs.Words.{words_of}
use Rattle.figure_text.proofs.OtherLemmas.{first-short}
use Rattle.figure_text.proofs.first_lines.front_line.Goals as goal

pub returns : goal.returns
returns c =
    let many : 5 < length (words_of c.args.line.now) = rw c.in-None.is at c.in_ok-found.ensures in
    (search rules, λ first. omega (arith, first-short c.args.line.now first, many))

-- The vertices before this place are listed.
use Rattle.std.proofs.Common.{◌+◌, ◌-◌, length}
use Rattle.figure_text.proofs.PlainLemmas.{IsListed}
use Rattle.figure_text.proofs.plain_numbers.push_plain.Given as goal

abbrev pub decreases-loop-short : goal.decreases-loop-short
decreases-loop-short l = length l.line + 1 - l.at

abbrev pub invariant-loop-short : goal.invariant-loop-short
invariant-loop-short l = IsListed l.fn.lists l.lists l.line l.start l.at

abbrev pub decreases-loop-digits : goal.decreases-loop-digits
decreases-loop-digits l = length l.line + 1 - l.at

abbrev pub invariant-loop-digits : goal.invariant-loop-digits
invariant-loop-digits l = IsListed l.fn.lists l.lists l.line l.start l.at

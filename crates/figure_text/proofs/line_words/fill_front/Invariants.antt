-- The words so far, and those from this place on, are the words of the line.
use Rattle.std.proofs.Common.{◌≡◌, ◌++◌, ◌+◌, ◌-◌, ◌≤◌, length}
use Rattle.figure_text.specs.Words.{words_of, words_left}
use Rattle.figure_text.proofs.line_words.fill_front.Given as goal

abbrev pub decreases-loop-at : goal.decreases-loop-at
decreases-loop-at l = length l.line + 1 - l.at

abbrev pub invariant-loop-at : goal.invariant-loop-at
invariant-loop-at l = record { words : l.found.items ++ words_left l.line l.at ≡ words_of l.line; few : length l.found.items ≤ l.at }

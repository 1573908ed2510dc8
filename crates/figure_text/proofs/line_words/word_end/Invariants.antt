-- No byte before this one is a space.
use Rattle.std.proofs.Common.{◌≡◌, ℕ, ◌<◌, ◌≤◌, get_or}
use Rattle.figure_text.proofs.line_words.word_end.Given as goal

abbrev pub invariant-loop-k : goal.invariant-loop-k
invariant-loop-k l = (j : ℕ) → l.at ≤ j → j < l.k → get_or l.line j 0 ≡ 32 → ⊥

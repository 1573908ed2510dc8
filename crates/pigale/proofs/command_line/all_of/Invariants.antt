use Rattle.std.proofs.Common.{◌≡◌, ◌++◌}
use Rattle.std.specs.Vec.Iter.{into_iter_items, into_iter_len}
use Rattle.pigale.proofs.command_line.all_of.Given as goal

-- the words so far and those to come are all
abbrev pub invariant-words : goal.invariant-words
invariant-words l = l.words.items ++ into_iter_items l.all ≡ into_iter_items l.fn.all

abbrev pub decreases-words : goal.decreases-words
decreases-words l = into_iter_len l.all

use Rattle.std.proofs.Common.{◌≡◌, map}
use Rattle.std.specs.List.{range_with_len}
use Rattle.embed_witnesses.specs.Merged.{old_number}
use Rattle.embed_witnesses.proofs.merged_ends.renumbered_witnesses.old_numbers.Given as goal

abbrev pub invariant-loop-v : goal.invariant-loop-v
invariant-loop-v l = l.table.items ≡ map (old_number l.n l.b) (range_with_len 0 l.v)

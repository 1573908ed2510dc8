use Rattle.std.proofs.Common.{◌≡◌, ◌++◌, length, take}
use Rattle.std.specs.List.{filter}
use Rattle.rect_class.specs.Upper.{has_degree}
use Rattle.rect_class.proofs.upper_neighbours.put_row.Given as goal

abbrev pub invariant-loop-u : goal.invariant-loop-u
invariant-loop-u l = l.entries.items ≡ l.initial.entries.items ++ filter (has_degree l.lists (length l.us)) (take l.u-index l.us)

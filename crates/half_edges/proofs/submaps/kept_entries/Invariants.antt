use Rattle.std.proofs.Common.{◌≡◌, take}
use Rattle.half_edges.specs.Induced.{induced_list}
use Rattle.half_edges.proofs.submaps.kept_entries.Given as goal

abbrev pub invariant-loop-u : goal.invariant-loop-u
invariant-loop-u l = l.kept.items ≡ induced_list l.keep (take l.u-index l.list)

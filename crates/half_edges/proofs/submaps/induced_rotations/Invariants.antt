use Rattle.std.proofs.Common.{◌≡◌, map, take}
use Rattle.half_edges.specs.Induced.{induced_list, kept_lists}
use Rattle.half_edges.proofs.submaps.induced_rotations.Given as goal

abbrev pub invariant-loop-v : goal.invariant-loop-v
invariant-loop-v l = l.part ≡ map (induced_list l.keep) (kept_lists (take l.v l.keep) (take l.v l.lists))

use Rattle.std.proofs.Common.{◌≡◌, [], take, slice_index_or}
use Rattle.left_right_maps.specs.RootedMaps.{joined}
use Rattle.left_right_lists.proofs.vertex_entries.joined_rows.Given as goal

abbrev pub invariant-loop-u : goal.invariant-loop-u
invariant-loop-u g l = l.list.items ≡ joined (λ u. slice_index_or l.rows u []) (take l.u-index l.us)

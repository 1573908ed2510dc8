-- The neighbours before number k are passed.
use Rattle.std.proofs.Common.{◌≡◌, filter, nat_lt, take}
use Rattle.svg_out.proofs.sorted_edges.fill_sorted.Given as goal

abbrev pub invariant-loop-k : goal.invariant-loop-k
invariant-loop-k l = l.row.items ≡ filter (λ u. nat_lt l.v u) (take l.k l.us)

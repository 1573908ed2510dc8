use Rattle.std.proofs.Common.{◌≡◌, ◌<◌, ℕ, map, slice_index}
use Rattle.canon_order.proofs.vertex_list_tools.write_places.Given as goal

abbrev pub invariant-loop-i : goal.invariant-loop-i
invariant-loop-i l = (k : ℕ) → k < l.i → slice_index l.ranks (slice_index (map (λ v. v.0) l.at) k) ≡ k

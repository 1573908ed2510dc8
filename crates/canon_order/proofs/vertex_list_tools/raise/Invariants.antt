use Rattle.std.proofs.Common.{◌≡◌, ◌+◌, ◌<◌, ◌==◌, ℕ, length, slice_index, count_by, take}
use Rattle.canon_order.proofs.vertex_list_tools.raise.Given as goal

abbrev pub invariant-loop-u : goal.invariant-loop-u
invariant-loop-u l = (w : ℕ) → w < length l.counts → slice_index l.counts w ≡ slice_index l.initial.counts w + count_by (λ u. u == w) (take l.u-index l.entries)

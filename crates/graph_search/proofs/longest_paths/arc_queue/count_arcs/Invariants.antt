use Rattle.std.proofs.Common.{◌≡◌, ◌<◌, ◌==◌, ℕ, length, slice_index, count_by, take}
use Rattle.graph_search.proofs.longest_paths.arc_queue.count_arcs.Given as goal

abbrev pub invariant-loop-r : goal.invariant-loop-r
invariant-loop-r l = (w : ℕ) → w < length l.counts → slice_index l.counts w ≡ count_by (λ u. u == w) (take l.r-index l.r-items)

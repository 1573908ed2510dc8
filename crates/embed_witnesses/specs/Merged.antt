-- Graphs in which one end of an edge has the neighbours of both, and the other none.
use Rattle.std.specs.Prelude.{ℕ, ◌+◌, Bool, ◌&&◌, ◌||◌, ◌==◌, not, nat_lt, if◌then◌else◌, filter}
use Rattle.graphs.specs.Graphs.{EdgeGraph, has_edge}
use Rattle.graphs.specs.Bits.{pairs}
use Rattle.embed_contraction.specs.Contracted.{IsContractedBy}

-- whether an edge joins u and v, where a has the neighbours of b too, and b none
abbrev pub merged_edge : EdgeGraph → ℕ → ℕ → ℕ → ℕ → Bool
merged_edge graph a b u v =
    (not (u == b) && not (v == b)) && (has_edge graph u v || ((u == a) && has_edge graph b v) || ((v == a) && has_edge graph u b))

-- the graph in which a has the neighbours of b too, and b none
abbrev pub merged : EdgeGraph → ℕ → ℕ → EdgeGraph
merged graph a b = record { n = graph.n; edges = filter (λ e. merged_edge graph a b e.0 e.1) (pairs graph.n) }

-- the number that a vertex had before b left; the last, which none has now, stands for b
abbrev pub old_number : ℕ → ℕ → ℕ → ℕ
old_number n b v = if nat_lt v b then v else if nat_lt (v + 1) n then v + 1 else b

-- a and b exchanged
abbrev pub exchanged_number : ℕ → ℕ → ℕ → ℕ
exchanged_number a b v = if v == a then b else if v == b then a else v

-- Each edge of the graph with a and b merged is one of the graph, or one of b in place of a.
abbrev pub MergedIsContracted : Type 0
MergedIsContracted = (graph : EdgeGraph) (a b : ℕ) → IsContractedBy graph (merged graph a b) a b (λ v. v)

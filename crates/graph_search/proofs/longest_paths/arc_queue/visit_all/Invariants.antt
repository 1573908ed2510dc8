use Rattle.std.proofs.Common.{ℕ}
use Rattle.graph_search.proofs.Progress.{IsVisited, IsAt}
use Rattle.graph_search.proofs.longest_paths.arc_queue.visit_all.Given as goal

abbrev pub invariant-loop-head : goal.invariant-loop-head
invariant-loop-head l = (used : ℕ → ℕ) × IsAt l.arcs l.base l.head used l.number l.waiting l.queue.items

abbrev pub invariant-loop-r : goal.invariant-loop-r
invariant-loop-r l = IsVisited l.arcs l.base l.e l.r-index l.initial.number l.initial.waiting l.initial.queue.items l.number l.waiting l.queue.items

use Rattle.std.proofs.Common.{◌<◌, ◌≤◌, ℕ, length, get_or}
use Rattle.graph_search.specs.Flags.{IsSeparatedIn}
use Rattle.graph_search.proofs.search_forests.searched.Searched.no_child_apart.Given as goal

abbrev pub invariant-loop-u : goal.invariant-loop-u
invariant-loop-u l = (v u : ℕ) → u < l.u → v < length l.self.number.now → get_or l.self.number.now v 0 ≤ get_or l.self.low.now u 0 → ¬ IsSeparatedIn l.self.number.now l.self.parent.now l.self.low.now v u

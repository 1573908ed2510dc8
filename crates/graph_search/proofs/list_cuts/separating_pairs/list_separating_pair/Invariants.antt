use Rattle.std.proofs.Common.{◌<◌, ℕ}
use Rattle.graph_search.specs.Cuts.{IsSeparatingPair}
use Rattle.graph_search.proofs.list_cuts.separating_pairs.list_separating_pair.Given as goal

abbrev pub invariant-loop-u : goal.invariant-loop-u
invariant-loop-u l = (a b : ℕ) → a < l.u → ¬ IsSeparatingPair l.lists a b

use Rattle.std.proofs.Common.{◌<◌, ℕ}
use Rattle.graph_search.specs.Cuts.{IsSeparatingPair}
use Rattle.graph_search.proofs.list_cuts.separating_pairs.partner.Given as goal

abbrev pub invariant-loop-v : goal.invariant-loop-v
invariant-loop-v l = (w : ℕ) → w < l.v → ¬ IsSeparatingPair l.lists l.u w

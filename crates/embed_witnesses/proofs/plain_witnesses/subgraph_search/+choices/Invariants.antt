use Rattle.std.proofs.Common.{◌≢◌, ◌<◌, ◌+◌, ◌-◌, ◌*◌, ℕ, length}
use Rattle.std.specs.Prelude.{slice_index_or}
use Rattle.kuratowski.specs.Witnesses.{branch_count}
use Rattle.embed_witnesses.specs.Kept.{IsPlain}
use Rattle.embed_witnesses.specs.Plain.{BeginsWith}
use Rattle.embed_witnesses.proofs.plain_witnesses.subgraph_search.+choices.Given as goal

abbrev pub decreases-begun : goal.decreases-begun
decreases-begun l = 2 * (branch_count l.search.now.kind - length l.chosen.now) + 1

abbrev pub decreases-continued : goal.decreases-continued
decreases-continued l = 2 * (branch_count l.search.now.kind - length l.chosen.now)

abbrev pub invariant-begun-loop-i : goal.invariant-begun-loop-i
invariant-begun-loop-i l = (branch : ℕ → ℕ) → IsPlain l.search.graph.now l.search.kind branch → BeginsWith l.chosen branch → (j : ℕ) → j < l.i → branch (length l.chosen) ≢ slice_index_or l.search.live.now j 0

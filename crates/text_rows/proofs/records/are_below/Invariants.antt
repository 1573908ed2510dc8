-- The lists so far have their entries below the limit.
use Rattle.std.proofs.Common.{ℕ, List, ◌<◌, All, get_or}
use Rattle.text_rows.proofs.records.are_below.Given as goal

abbrev pub invariant-loop-v : goal.invariant-loop-v
invariant-loop-v l = (k : ℕ) (d : List ℕ) → k < l.v → All (λ (u : ℕ). u < l.limit) (get_or l.lists k d)

use Rattle.std.proofs.Common.{◌≡◌, ◌⊎◌, ◌<◌, ◌≤◌, ℕ, slice_index}
use Rattle.bar_check.proofs.exact_sweep.fill_between.Given as goal

abbrev pub invariant-loop-k : goal.invariant-loop-k
invariant-loop-k l = record {
  inside : (j : ℕ) → l.left ≤ j → j < l.k → slice_index l.tops j ≡ l.top;
  outside : (j : ℕ) → (j < l.left) ⊎ (l.k ≤ j) → slice_index l.tops j ≡ slice_index l.fn.tops j;
}

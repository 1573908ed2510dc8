use Rattle.std.proofs.Common.{◌≡◌, ◌<◌, ◌≤◌, ℕ, length, get_or}
use Rattle.half_edges.specs.Induced.{kept_before}
use Rattle.half_edges.proofs.submaps.numbers_of.Given as goal

abbrev pub invariant-loop-k : goal.invariant-loop-k
invariant-loop-k l = record {
  numbers : length l.numbers.items ≡ l.k-index;
  at : (v : ℕ) → v < l.k-index → get_or l.numbers.items v 0 ≡ kept_before l.keep v;
  count : l.count ≡ kept_before l.keep l.k-index;
  few : l.count ≤ l.k-index;
}

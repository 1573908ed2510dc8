-- A run over the arcs: which arcs have been used, the numbers so far, how many arcs into a vertex are left, and the vertices into which none is left.
use Rattle.std.specs.Prelude.{ℕ, ◌+◌, ◌<◌, ◌≤◌, ◌≡◌, ◌≢◌, ◌⊎◌, ◌==◌, List, length, slice_index, count_by}
use Rattle.map_theory.proofs.DartCounts.{sum_below}
use Rattle.graph_search.specs.Arcs.{arcs_of}

-- the number of `r` was raised above that of `e`
pub record IsRaised (old new : List ℕ) (e r : ℕ) : Type 0 where
  pub size : length new ≡ length old
  pub here : ((slice_index new r ≡ slice_index old r) × (slice_index old e < slice_index old r)) ⊎ ((slice_index new r ≡ slice_index old e + 1) × (slice_index old r ≤ slice_index old e))
  pub elsewhere : (x : ℕ) → x ≢ r → slice_index new x ≡ slice_index old x

-- how many arcs lead to r
abbrev pub all_into : List (List ℕ) → ℕ → ℕ
all_into arcs r = sum_below (λ e. count_by (λ u. u == r) (arcs_of arcs e)) (length arcs)

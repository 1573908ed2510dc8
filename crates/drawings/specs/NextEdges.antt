-- A pass over all lists that meets each edge at its greater end, and numbers the edges of each lesser end as they come.
use Rattle.std.specs.Prelude.{ℕ, ◌+◌, ◌<◌, ◌≡◌, ◌==◌, nat_lt, if◌then◌else◌, List, length, take, slice_index, count_by}
use Rattle.map_lists.specs.Lists.{Lists}
use Rattle.map_theory.specs.Maps.{list_of}
use Rattle.drawings.specs.Bars.{edges_until, edges_before}

-- The lists before that of b have been gone over, and the first i entries of that of b: `next` says for each vertex the number of its next edge upwards.
abbrev pub AreNext : Lists → ℕ → ℕ → List ℕ → Type 0
AreNext lists b i next =
    (a : ℕ) → a < length lists → slice_index next a ≡ edges_before lists a + edges_until lists a b + (if nat_lt a b then count_by (λ u. u == a) (take i (list_of lists b)) else 0)

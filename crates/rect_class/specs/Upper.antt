-- For each vertex its neighbours of no lower degree: each edge stands in the row of one of its ends at least.
use Rattle.std.specs.Prelude.{ℕ, ◌<◌, ◌≡◌, Bool, nat_le, length}
use Rattle.std.specs.List.{filter}
use Rattle.map_lists.specs.Lists.{Lists}
use Rattle.map_theory.specs.Maps.{list_of}

-- u has this many neighbours, or more
abbrev pub has_degree : Lists → ℕ → ℕ → Bool
has_degree lists degree u = nat_le degree (length (list_of lists u))

-- row v has the neighbours of v of no lower degree, in their order
pub record AreUpperRows (lists rows : Lists) : Type 0 where
  pub count : length rows ≡ length lists
  pub each : (v : ℕ) → v < length lists → list_of rows v ≡ filter (has_degree lists (length (list_of lists v))) (list_of lists v)

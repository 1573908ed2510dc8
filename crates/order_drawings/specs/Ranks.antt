-- The ranks of a canonical order.
use Rattle.std.specs.Prelude.{ℕ, ◌<◌, List, length, All}
use Rattle.map_lists.specs.Lists.{Lists}
use Rattle.map_theory.specs.Maps.{Dart}
use Rattle.canon_order.specs.Orders.{IsCanonicalOrder, IsRankOf}

-- Each rank is a place of the order.
abbrev pub RanksArePlaces : Type 0
RanksArePlaces = (lists : Lists) (base : Dart) (at ranks : List ℕ) → IsCanonicalOrder lists base at → IsRankOf ranks at → All (λ k. k < length ranks) ranks

-- The twins of darts, as walks along faces overwrite them.
use Rattle.std.specs.Prelude.{ℕ, ◌<◌, ◌≡◌, ◌⊎◌, ◌==◌, Bool, List, slice_get, slice_index, slice_index_or, Some}
use Rattle.map_lists.specs.Lists.{Lists}
use Rattle.map_theory.specs.Maps.{darts, twin_dart, dart_count}

-- a dart was walked over
abbrev pub walked : List ℕ → ℕ → Bool
walked twins d = slice_index twins d == 4294967295

-- each dart that was not walked over has its twin
abbrev pub HaveTwins : Lists → List ℕ → Type 0
HaveTwins lists twins =
    (d : ℕ) → d < dart_count lists → (slice_index twins d ≡ 4294967295) ⊎ (slice_get (darts lists) (slice_index twins d) ≡ Some (twin_dart (slice_index_or (darts lists) d (0, 0))))

-- Lists without a vertex: it stays, alone.
use Rattle.std.specs.Prelude.{ℕ, ◌<◌, ◌≡◌, ◌==◌, not, if◌then◌else◌, List, [], length}
use Rattle.std.specs.List.{filter}
use Rattle.map_lists.specs.Lists.{Lists}
use Rattle.map_theory.specs.Maps.{list_of}

-- the list of v without the entries u; none, where v is u
abbrev pub list_without : ℕ → ℕ → List ℕ → List ℕ
list_without u v us = if v == u then [] else filter (λ w. not (w == u)) us

-- rest is lists without u
pub record IsWithoutVertex (lists rest : Lists) (u : ℕ) : Type 0 where
  pub count : length rest ≡ length lists
  pub each : (v : ℕ) → v < length lists → list_of rest v ≡ list_without u v (list_of lists v)

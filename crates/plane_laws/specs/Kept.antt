-- Maps restricted to the edges that pass a test.
use Rattle.std.specs.Prelude.{ℕ, ◌+◌, ◌≡◌, ◌↔◌, Bool, true, false, [], ◌∷◌, filter}
use Rattle.map_lists.specs.Lists.{Lists}
use Rattle.map_theory.specs.Maps.{HasDart, IsSimpleMap, IsPlane, follows}

-- the lists from v on, each with the entries alone for which the test passes at its vertex and them
abbrev pub kept_from : (ℕ → ℕ → Bool) → ℕ → Lists → Lists
kept_from keep v [] = []
kept_from keep v (us ∷ lists) = filter (keep v) us ∷ kept_from keep (v + 1) lists

-- the lists with the edges alone that pass a test
abbrev pub with_kept : (ℕ → ℕ → Bool) → Lists → Lists
with_kept keep lists = kept_from keep 0 lists

-- A simple map restricted to some of its edges.
pub record IsKeptMap (lists kept : Lists) (keep : ℕ → ℕ → Bool) : Type 0 where
  pub simple : IsSimpleMap kept
  pub plane : IsPlane lists → IsPlane kept
  pub darts : (v u : ℕ) → HasDart kept v u ↔ (HasDart lists v u × (keep v u ≡ true))
  pub follows_same : (v u : ℕ) → HasDart kept v u → keep v (follows lists v u) ≡ true → follows kept v u ≡ follows lists v u
  pub follows_skip : (v u : ℕ) → HasDart kept v u → keep v (follows lists v u) ≡ false → keep v (follows lists v (follows lists v u)) ≡ true → follows kept v u ≡ follows lists v (follows lists v u)

-- A simple map restricted to the edges that pass a test, which is the same in both directions.
abbrev pub KeptEdges : Type 0
KeptEdges =
    (lists : Lists) (keep : ℕ → ℕ → Bool) → ((v u : ℕ) → keep v u ≡ keep u v) → IsSimpleMap lists → IsKeptMap lists (with_kept keep lists) keep

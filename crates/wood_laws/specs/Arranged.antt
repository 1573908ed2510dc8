-- Vertices arranged as a wood has them.
use Rattle.std.specs.Prelude.{ℕ, ◌-◌, ◌<◌, ◌≡◌, ◌≢◌, List, length, slice_index, AllPairs, All}
use Rattle.map_lists.specs.Lists.{Lists}
use Rattle.map_theory.specs.Maps.{Dart}
use Rattle.wood_runs.specs.Parents.{Colour, one, two, three}
use Rattle.wood_laws.specs.Woods.{root, IsInner}

-- u stands before v in a list
abbrev pub IsBefore : List ℕ → ℕ → ℕ → Type 0
IsBefore at u v = (i : ℕ) × (j : ℕ) × (i < j) × (j < length at) × (slice_index at i ≡ u) × (slice_index at j ≡ v)

-- All vertices once, root one first, root two second and root three last; each inner vertex has its parents of colours one and two before it, and that of colour three after it.
pub record IsArranged (lists : Lists) (base : Dart) (parent : Colour → ℕ → ℕ) (at : List ℕ) : Type 0 where
  pub count : length at ≡ length lists
  pub vertices : All (λ v. v < length lists) at
  pub once : AllPairs ◌≢◌ at
  pub first : slice_index at 0 ≡ root lists base one
  pub second : slice_index at 1 ≡ root lists base two
  pub last : slice_index at (length lists - 1) ≡ root lists base three
  pub one_before : (v : ℕ) → IsInner lists base v → IsBefore at (parent one v) v
  pub two_before : (v : ℕ) → IsInner lists base v → IsBefore at (parent two v) v
  pub three_after : (v : ℕ) → IsInner lists base v → IsBefore at v (parent three v)

-- How vertices are taken off a map from outside: where it begins, one step, and where it ends.
use Rattle.std.specs.Prelude.{ℕ, ◌+◌, ◌<◌, ◌≡◌, ◌↔◌, Bool, true, List, ◌∷◌, length, []}
use Rattle.classes.specs.Classes.{count_below}
use Rattle.map_lists.specs.Lists.{Lists}
use Rattle.map_theory.specs.Maps.{HasDart, IsSimpleMap, IsPlane, follows}
use Rattle.map_theory.specs.Paths.{SameFace}
use Rattle.plane_laws.specs.Triangulations.{IsTriangulation}
use Rattle.plane_peeling.specs.Restricted.{restricted, kept_but}
use Rattle.plane_peeling.specs.NearTriangulations.{IsOuterCycle, IsOuterDart, IsRemovable}
use Rattle.plane_peeling.specs.Peeled.{IsPeeled, IsTakenOff}

-- The darts of an outer cycle are the face of its base.
abbrev pub OuterCycleIsFace : Type 0
OuterCycleIsFace =
    (lists : Lists) (s t : ℕ) (ws : List ℕ) → IsSimpleMap lists → IsOuterCycle lists s t ws → (x y : ℕ) → HasDart lists x y → SameFace lists (t, s) (x, y) ↔ IsOuterDart ws x y

-- In a map of genus zero an outer cycle has a vertex without a chord that is not an end of the base.
abbrev pub SomeRemovable : Type 0
SomeRemovable =
    (lists : Lists) (s t : ℕ) (ws : List ℕ) → IsSimpleMap lists → IsPlane lists → IsOuterCycle lists s t ws → (v : ℕ) × IsRemovable lists s t ws v

-- A triangulation of which nothing is taken off: its outer cycle is the face of the base.
abbrev pub NothingTakenOff : Type 0
NothingTakenOff =
    (lists : Lists) (kept : ℕ → Bool) (s t : ℕ) → IsTriangulation lists → HasDart lists t s → ((v : ℕ) → v < length lists → kept v ≡ true) → IsPeeled lists kept s t (s ∷ follows lists s t ∷ t ∷ [])

-- v can be taken off, and then one vertex less is left
abbrev pub CanBeTakenOff : Lists → (ℕ → Bool) → ℕ → ℕ → List ℕ → ℕ → Type 0
CanBeTakenOff lists kept s t ws v =
    ((front : List ℕ) × (p : ℕ) × (mid : List ℕ) × (q : ℕ) × (back : List ℕ) × IsTakenOff lists kept s t ws v front p mid q back) × (count_below kept (length lists) ≡ count_below (kept_but kept v) (length lists) + 1)

-- A vertex without a chord can be taken off, while more than three vertices are left.
abbrev pub RemovableTakenOff : Type 0
RemovableTakenOff =
    (lists : Lists) (kept : ℕ → Bool) (s t : ℕ) (ws : List ℕ) (v : ℕ) → IsTriangulation lists → IsPeeled lists kept s t ws → 3 < count_below kept (length lists) → IsRemovable (restricted kept lists) s t ws v → CanBeTakenOff lists kept s t ws v

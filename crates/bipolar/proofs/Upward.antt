-- A plane map by the numbers of its darts, with a rank for each vertex: all edges go upwards, from the tail of the base dart to its head.
use Rattle.std.specs.Prelude.{ℕ, ◌+◌, ◌<◌, ◌≤◌, ◌≡◌, ◌≢◌}
use Rattle.classes.specs.Classes.{class_count}
use Rattle.classes.proofs.Classes.{Together}
use Rattle.classes.proofs.Orbits.{orbits_of, IsPermuting}
use Rattle.classes.proofs.Bound.{IsPairing, after}

-- two darts leave one vertex: f is the rotation
abbrev pub SameTail : ℕ → (ℕ → ℕ) → ℕ → ℕ → Type 0
SameTail k f i j = Together (orbits_of f k) i j

-- two darts are in one face: the face step is the rotation after the twin
abbrev pub InFace : ℕ → (ℕ → ℕ) → (ℕ → ℕ) → ℕ → ℕ → Type 0
InFace k f g i j = Together (orbits_of (after f g) k) i j

-- some dart from the vertex of i goes upwards
abbrev pub GoesUp : ℕ → (ℕ → ℕ) → (ℕ → ℕ) → ℕ → Type 0
GoesUp k g y i = (j : ℕ) × (j < k) × (y j ≡ y i) × (y j < y (g j))

-- some dart from the vertex of i goes downwards
abbrev pub GoesDown : ℕ → (ℕ → ℕ) → (ℕ → ℕ) → ℕ → Type 0
GoesDown k g y i = (j : ℕ) × (j < k) × (y j ≡ y i) × (y (g j) < y j)

-- The k darts of a connected map of genus zero with m edges, with the rotation f, the twin g and the rank y of the vertex that a dart leaves. The base dart goes from the least vertex to the greatest, and each other vertex has a neighbour below it and one above it.
pub record IsBipolar (k m : ℕ) (f g y : ℕ → ℕ) (st : ℕ) : Type 0 where
  pub rotates : IsPermuting f k
  pub pairs : IsPairing g k
  pub edges : k ≡ m + m
  pub plane : class_count (orbits_of f k) + class_count (orbits_of (after f g) k) ≡ m + 2
  -- ranks are those of vertices
  pub turned : (i : ℕ) → i < k → y (f i) ≡ y i
  pub vertices : (i j : ℕ) → i < k → j < k → y i ≡ y j → SameTail k f i j
  pub slanted : (i : ℕ) → i < k → y i ≢ y (g i)
  pub base : st < k
  pub least : (i : ℕ) → i < k → y st ≤ y i
  pub greatest : (i : ℕ) → i < k → y i ≤ y (g st)
  pub later : (i : ℕ) → i < k → y i < y (g st) → GoesUp k g y i
  pub earlier : (i : ℕ) → i < k → y st < y i → GoesDown k g y i

-- A number for each face: that of the base dart has 0, and the number rises over an upward dart from its left face to its right face, unless the latter is the face of the base dart.
pub record IsRising (k : ℕ) (f g y : ℕ → ℕ) (st : ℕ) (number : ℕ → ℕ) : Type 0 where
  pub faces : (i : ℕ) → i < k → number (f (g i)) ≡ number i
  pub first : number st ≡ 0
  pub rises : (i : ℕ) → i < k → y i < y (g i) → ¬ InFace k f g st (g i) → number i < number (g i)

-- The dual numbers of the faces: besides, each face but the first has one more than some face that is left of one of its darts.
pub record IsDual (k : ℕ) (f g y : ℕ → ℕ) (st : ℕ) (number : ℕ → ℕ) : Type 0 where
  pub rising : IsRising k f g y st number
  pub reached : (i : ℕ) → i < k → ¬ InFace k f g st i → (e : ℕ) × (e < k) × (y e < y (g e)) × InFace k f g i (g e) × (number i ≡ number e + 1)

-- Chords of faces: which vertices of a face may be joined, and what joining the two beside a third leaves.
use Rattle.std.specs.Prelude.{ℕ, ◌≤◌, ◌≡◌, ◌≢◌, ◌⊎◌}
use Rattle.map_lists.specs.Lists.{Lists}
use Rattle.map_theory.specs.Maps.{HasDart, IsSimpleMap, IsPlane, follows, vertex_count, component_count}
use Rattle.plane_laws.specs.Laws.{IsTriangle}
use Rattle.plane_laws.specs.Added.{IsSplitFace}
use Rattle.plane_laws.specs.WithEdge.{with_edge_after}

-- an edge may be put between u and v: they are two, and not adjacent
abbrev pub CanJoin : Lists → ℕ → ℕ → Type 0
CanJoin lists u v = (u ≢ v) × ¬ HasDart lists u v

-- Let a face go along a, b, c, x, with x other than a, and not to and fro along one edge: then a and c can be joined, or b and x can.
abbrev pub OneChord : Type 0
OneChord =
    (lists : Lists) (a b c x : ℕ) → IsSimpleMap lists → IsPlane lists → HasDart lists a b → follows lists b a ≡ c → follows lists c b ≡ x → x ≢ a → ¬ ((a ≡ c) × (b ≡ x)) → CanJoin lists a c ⊎ CanJoin lists b x

-- Let a face go along a, b, c, a, y, with y other than b: then c and y can be joined.
abbrev pub CornerChord : Type 0
CornerChord =
    (lists : Lists) (a b c y : ℕ) → IsSimpleMap lists → IsPlane lists → HasDart lists a b → follows lists b a ≡ c → follows lists c b ≡ a → follows lists a c ≡ y → y ≢ b → CanJoin lists c y

-- the face that goes from a to b and on to c has an ear at b: a and c can be joined
abbrev pub IsEar : Lists → ℕ → ℕ → Type 0
IsEar lists a b = HasDart lists a b × CanJoin lists a (follows lists b a)

-- In a connected map of genus zero with at least three vertices a face that is no triangle has an ear at one of any three darts in a row.
abbrev pub SomeEar : Type 0
SomeEar =
    (lists : Lists) (a b : ℕ) → IsSimpleMap lists → IsPlane lists → component_count lists ≡ 1 → 3 ≤ vertex_count lists → HasDart lists a b → ¬ IsTriangle lists (a, b) → IsEar lists a b ⊎ (IsEar lists b (follows lists b a) ⊎ IsEar lists (follows lists b a) (follows lists (follows lists b a) b))

-- with the edge at the ear: the ear is a triangle, and all triangles stay
pub record IsEarCut (old new : Lists) (a b c : ℕ) : Type 0 where
  pub simple : IsSimpleMap new
  pub split : IsSplitFace old new a c
  pub triangle : IsTriangle new (a, b)
  pub kept : (w z : ℕ) → HasDart old w z → IsTriangle old (w, z) → IsTriangle new (w, z)

-- An ear is cut: with p before b at a, the edge to c is put in after p, and at c after b.
abbrev pub EarCut : Type 0
EarCut =
    (lists : Lists) (p a b c : ℕ) → IsSimpleMap lists → IsPlane lists → HasDart lists a p → follows lists a p ≡ b → follows lists b a ≡ c → CanJoin lists a c → IsEarCut lists (with_edge_after lists a p c b) a b c

-- What the loops go over: darts off the frame whose face is no triangle, and edges of separating triangles.
use Rattle.std.specs.Prelude.{ℕ, ◌≡◌, ◌⊎◌}
use Rattle.map_lists.specs.Lists.{Lists}
use Rattle.map_theory.specs.Maps.{HasDart, follows}
use Rattle.plane_laws.specs.Laws.{IsTriangle}
use Rattle.rect_class.specs.RectMaps.{IsSeparating}

-- (v, u) is the dart (x, y)
abbrev pub IsDart : ℕ → ℕ → ℕ → ℕ → Type 0
IsDart v u x y = (v ≡ x) × (u ≡ y)

-- (v, u) is one of the darts (0, d), (d, p), (p, q) and (q, 0)
abbrev pub IsFrameDart : ℕ → ℕ → ℕ → ℕ → ℕ → Type 0
IsFrameDart d p q v u = (IsDart v u 0 d ⊎ IsDart v u d p) ⊎ (IsDart v u p q ⊎ IsDart v u q 0)

-- (v, u) is another dart, and its face is no triangle
pub record IsLargeDart (lists : Lists) (d p q v u : ℕ) : Type 0 where
  pub dart : HasDart lists v u
  pub off : ¬ IsFrameDart d p q v u
  pub large : ¬ IsTriangle lists (v, u)

-- a third vertex, greater than a and b, makes a separating triangle with them
pub record HasThird (lists : Lists) (a b : ℕ) : Type 0 where
  pub third : ℕ
  pub separating : IsSeparating lists a b third

-- the faces of the darts (a, b) and (b, a) go on to these two
pub record AreSides (lists : Lists) (a b left right : ℕ) : Type 0 where
  pub on_left : follows lists b a ≡ left
  pub on_right : follows lists a b ≡ right

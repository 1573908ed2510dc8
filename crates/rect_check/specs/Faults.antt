-- What may be wrong with a rectangular dual, and where.
use Rattle.std.specs.Prelude.{ℕ, ◌<◌, ◌≡◌, ◌⊎◌, ◌↔◌, length}
use Rattle.map_lists.specs.Lists.{Lists}
use Rattle.map_theory.specs.Maps.{HasDart}
use Rattle.pg_plane.specs.declared.figures.RectFigure.{RectFigure}
use Rattle.drawings.specs.Duals.{IsRect, DoMeet, ShareSide, IsLeftmost, IsTop, IsRightmost, IsBottom}

-- the rectangle of v is empty, or leaves n - 2 by n - 2
pub record HasBadRect (lists : Lists) (fig : RectFigure) (v : ℕ) : Type 0 where
  pub vertex : v < length lists
  pub bad : ¬ IsRect (length lists) fig v

-- the interiors of two rectangles meet
pub record RectsMeet (lists : Lists) (fig : RectFigure) (u v : ℕ) : Type 0 where
  pub order : u < v
  pub vertex : v < length lists
  pub meet : DoMeet fig u v

-- two share a side and their vertices are not adjacent, or the other way round
pub record HasWrongContact (lists : Lists) (fig : RectFigure) (u v : ℕ) : Type 0 where
  pub order : u < v
  pub vertex : v < length lists
  pub wrong : ¬ (ShareSide fig u v ↔ HasDart lists u v)

-- v is the first of the four that is not at its end
abbrev pub IsFirstUnframed : RectFigure → ℕ → ℕ → ℕ → ℕ → ℕ → Type 0
IsFirstUnframed fig s d p q v =
    ((¬ IsLeftmost fig s) × (v ≡ s)) ⊎ (IsLeftmost fig s × (((¬ IsTop fig d) × (v ≡ d)) ⊎ (IsTop fig d × (((¬ IsRightmost fig p) × (v ≡ p)) ⊎ (IsRightmost fig p × (¬ IsBottom fig q) × (v ≡ q))))))

-- The points of a list by their places.
use Rattle.std.proofs.Common.{◌≡◌, ◌⊎◌, ℕ, ◌<◌, pos, List, length, get_or, Contains, sym, ◌∙◌, subst, inl, inr}
use Rattle.std.proofs.lemmas.List.{get_or_default}
use Rattle.std.proofs.lemmas.List.Elements.{Contains-get_or}
use Rattle.pg_plane.specs.declared.grid_points.Point.{Point}

-- the point at a place
abbrev pub point_at : List Point → ℕ → Point
point_at points i = get_or points i (record { x = pos 0; y = pos 0 })

-- what holds at each place holds of each point
pub each_point : (P : Point → Type 0) (points : List Point) → ((i : ℕ) → i < length points → P (point_at points i)) → (p : Point) → Contains points p → P p
each_point P points h p c = subst P (sym (get_or_default points c.0 p (record { x = pos 0; y = pos 0 }) c.1) ∙ c.2) (h c.0 c.1)

-- the point at a place, or one of the list, is one of the list
pub Contains-one_of : (points : List Point) (i : ℕ) → i < length points → (old new : Point) → Contains points old → (new ≡ point_at points i) ⊎ (new ≡ old) → Contains points new
Contains-one_of points i l old new has one = elim one [ inl e ↦ subst (Contains points) (sym e) (Contains-get_or points i _ l) | inr e ↦ subst (Contains points) (sym e) has ]

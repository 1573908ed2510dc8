-- Maps restricted to some of their vertices, and triangles.
use Rattle.std.specs.Prelude.{ℕ, Bool, ◌&&◌, ◌==◌, not, ◌≡◌, ◌⊎◌}
use Rattle.map_lists.specs.Lists.{Lists}
use Rattle.map_theory.specs.Maps.{HasDart, follows}
use Rattle.plane_laws.specs.Kept.{with_kept}

-- the lists with the edges alone whose two ends are kept: no vertex is numbered anew, and one that is taken off has an empty list
abbrev pub restricted : (ℕ → Bool) → Lists → Lists
restricted kept lists = with_kept (λ v u. kept v && kept u) lists

-- the kept vertices without v
abbrev pub kept_but : (ℕ → Bool) → ℕ → ℕ → Bool
kept_but kept v u = kept u && not (u == v)

-- a face goes along the darts (a, b), (b, c) and (c, a)
pub record IsFaceOfThree (lists : Lists) (a b c : ℕ) : Type 0 where
  pub dart : HasDart lists a b
  pub second : follows lists b a ≡ c
  pub third : follows lists c b ≡ a
  pub round : follows lists a c ≡ b

-- (x, y) is one of the darts (a, b), (b, c) and (c, a)
abbrev pub IsDartOfThree : ℕ → ℕ → ℕ → ℕ → ℕ → Type 0
IsDartOfThree a b c x y = ((x ≡ a) × (y ≡ b)) ⊎ (((x ≡ b) × (y ≡ c)) ⊎ ((x ≡ c) × (y ≡ a)))

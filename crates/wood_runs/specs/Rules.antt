-- The rules that the wood of a run keeps.
use Rattle.std.specs.Prelude.{ℕ, ◌<◌, ◌≤◌, ◌≡◌, ◌⊎◌}
use Rattle.contour_runs.specs.Runs.{Step, IsRun, IsFaceOf}
use Rattle.wood_runs.specs.Parents.{End, IsEnd, MayFollow}

-- u and w follow one another counterclockwise round v, on a face that one of the first n steps makes
pub record IsCorner (steps : ℕ → Step) (n v u w : ℕ) : Type 0 where
  pub step : ℕ
  pub place : ℕ
  pub a : ℕ
  pub b : ℕ
  pub top : ℕ
  pub earlier : step < n
  pub face : IsFaceOf steps step place a b top
  pub corner : ((v ≡ a) × (u ≡ b) × (w ≡ top)) ⊎ (((v ≡ b) × (u ≡ top) × (w ≡ a)) ⊎ ((v ≡ top) × (u ≡ a) × (w ≡ b)))

-- both edges of a corner have a colour, and they follow one another as the rule has it
pub record IsOrdered (steps : ℕ → Step) (n v u w : ℕ) : Type 0 where
  pub first : End
  pub second : End
  pub first_end : IsEnd first steps n v u
  pub second_end : IsEnd second steps n v w
  pub follow : MayFollow first second

-- At each corner of each vertex that is not one of the base, the two edges have a colour and follow one another as the rule has it.
abbrev pub CornersOrdered : Type 0
CornersOrdered = (steps : ℕ → Step) (n v u w : ℕ) → IsRun steps n → 2 ≤ v → IsCorner steps n v u w → IsOrdered steps n v u w

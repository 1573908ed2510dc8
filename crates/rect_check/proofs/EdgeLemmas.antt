-- Edges that are missed.
use Rattle.std.proofs.Common.{◌≡◌, ℕ, ◌<◌, Bool, true, false, not, refl, sym}
use Rattle.std.proofs.lemmas.Bool.{true≢false}
use Rattle.map_lists.specs.Lists.{Lists}
use Rattle.map_theory.specs.Maps.{HasDart}
use Rattle.pg_plane.specs.declared.figures.RectFigure.{RectFigure}
use Rattle.drawings.specs.Duals.{ShareSide}
use Rattle.rect_check.specs.Loops.{IsMissed}

-- an edge is missed where its rectangles do not share a side
pub missed_is : (lists : Lists) (fig : RectFigure) (u v : ℕ) (r : Bool) → HasDart lists u v → u < v → ((r ≡ true → ShareSide fig u v) × (ShareSide fig u v → r ≡ true)) → (not r ≡ true → IsMissed lists fig u v) × (IsMissed lists fig u v → not r ≡ true)
missed_is lists fig u v true has less share = (λ t. absurd (true≢false (sym t)), λ m. absurd (m.missed (share.0 refl)))
missed_is lists fig u v false has less share = (λ t. record { order = less; dart = has; missed = λ s. true≢false (sym (share.1 s)) }, λ m. refl)

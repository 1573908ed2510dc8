use Rattle.std.proofs.Common.{inl, inr}
use Rattle.std.proofs.lemmas.Bool.{false≢true}
use Rattle.convex_check.proofs.Extremes.{ends_are_corners}
use Rattle.convex_check.proofs.triangle_corners.has_corners.Goals as goal

pub returns-else-has_third : goal.returns-else-has_third
returns-else-has_third c = (
  c.has_third-else-has_third.ensures.yes,
  λ found.
      elim (ends_are_corners c.args.points.now c.ends_of.result.0 c.ends_of.result.1 c.ends_of.ensures.on_first c.ends_of.ensures.on_last c.ends_of.ensures.first c.ends_of.ensures.last found) [
        | inl one ↦ absurd (false≢true (c.if-has_third.ensures.no one.0 one.1.corners one.1.left))
        | inr other ↦ c.has_third-else-has_third.ensures.no other.0 other.1.corners other.1.left
      ],
)

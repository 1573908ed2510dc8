-- Points of vertices by their ranks.
use Rattle.std.proofs.Common.{◌≡◌, ◌+◌, ◌<◌, ℕ, List, [], ◌∷◌, ◌++◌, length, get_or, take, pos, sym, ap, ◌∙◌, inl, inr, arith, length-append}
use Rattle.std.proofs.lemmas.Bool.{cases_lt}
use Rattle.std.proofs.lemmas.List.{get_or_append_left, get_or-take, length-take-le}
use Rattle.std.proofs.Math.Seq.{get_or-append_seam}
use Rattle.pg_plane.specs.declared.grid_points.Point.{Point}
use Rattle.order_drawings.specs.Points.{ArePointsAt}

-- the point of one vertex more
pub ArePointsAt-more :
    (xs ys ranks : List ℕ) (v : ℕ) (points : List Point) (p : Point) → ArePointsAt xs ys (take v ranks) points → v < length ranks
    → p ≡ record { x = pos (get_or xs (get_or ranks v 0) 0); y = pos (get_or ys (get_or ranks v 0) 0) }
    → ArePointsAt xs ys (take (v + 1) ranks) (points ++ p ∷ [])
ArePointsAt-more xs ys ranks v points p h l e = grind (arith, length-take-le, Point, pos, get_or, length-append, cases_lt, get_or_append_left, get_or-take, length, get_or-append_seam)

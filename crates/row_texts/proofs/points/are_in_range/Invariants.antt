use Rattle.std.proofs.Common.{ℕ, ◌<◌, get_or}
use Rattle.pg_plane.specs.declared.grid_points.Point.{Point}
use Rattle.pg_plane.specs.Range.{IsInRange}
use Rattle.row_texts.proofs.points.are_in_range.Given as goal

abbrev pub invariant-loop-i : goal.invariant-loop-i
invariant-loop-i l = (k : ℕ) (d : Point) → k < l.i → IsInRange (get_or l.points k d)

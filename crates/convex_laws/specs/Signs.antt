-- Along which axis a point lies from another.
use Rattle.std.specs.Prelude.{◌<ℤ◌, ◌≤ℤ◌, ◌+ℤ◌}
use Rattle.pg_plane.specs.declared.grid_points.Point.{Point}
use Rattle.convex_counts.specs.declared.face_woods.axis.Axis.{Axis}
use Rattle.convex_counts.specs.declared.face_woods.axis.Axis.TheVariants.{One, Two, Three}

-- From p to q the coordinate of an axis rises, and neither of the others does.
abbrev pub IsRisingBy : Axis → Point → Point → Type 0
IsRisingBy One p q = (p.x <ℤ q.x) × (q.y ≤ℤ p.y) × ((p.x +ℤ p.y) ≤ℤ (q.x +ℤ q.y))
IsRisingBy Two p q = (p.y <ℤ q.y) × (q.x ≤ℤ p.x) × ((p.x +ℤ p.y) ≤ℤ (q.x +ℤ q.y))
IsRisingBy Three p q = ((q.x +ℤ q.y) <ℤ (p.x +ℤ p.y)) × (q.x ≤ℤ p.x) × (q.y ≤ℤ p.y)

-- The signs of differences, of points and of counts.
use Rattle.std.proofs.Common.{ℕ, arith}
use Rattle.std.proofs.lemmas.Int.{ints}
use Rattle.contour_runs.specs.Wood.{Coordinates, point_of}
use Rattle.convex_counts.specs.declared.face_woods.axis.Axis.{Axis}
use Rattle.convex_counts.specs.declared.face_woods.axis.Axis.TheVariants.{One, Two, Three}
use Rattle.convex_counts.specs.Rising.{IsRising}
use Rattle.convex_laws.specs.Signs.{IsRisingBy}

pub IsRisingBy-counts : (at : Coordinates) (c : Axis) (x y : ℕ) → IsRising at c x y → IsRisingBy c (point_of at x) (point_of at y)
IsRisingBy-counts at One x y r = let a = r.0 in let b = r.1 in let d = r.2 in (omega (arith, ints), omega (arith, ints), omega (arith, ints))
IsRisingBy-counts at Two x y r = let a = r.0 in let b = r.1 in let d = r.2 in (omega (arith, ints), omega (arith, ints), omega (arith, ints))
IsRisingBy-counts at Three x y r = let a = r.0 in let b = r.1 in let d = r.2 in (omega (arith, ints), omega (arith, ints), omega (arith, ints))

pub IsRising-points : (at : Coordinates) (c : Axis) (x y : ℕ) → IsRisingBy c (point_of at x) (point_of at y) → IsRising at c x y
IsRising-points at One x y r = let a = r.0 in let b = r.1 in let d = r.2 in (omega (arith, ints), omega (arith, ints), omega (arith, ints))
IsRising-points at Two x y r = let a = r.0 in let b = r.1 in let d = r.2 in (omega (arith, ints), omega (arith, ints), omega (arith, ints))
IsRising-points at Three x y r = let a = r.0 in let b = r.1 in let d = r.2 in (omega (arith, ints), omega (arith, ints), omega (arith, ints))

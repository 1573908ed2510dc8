use Rattle.std.proofs.Common.{◌*ℤ◌, arith, w64, FitsSigned}
use Rattle.std.proofs.lemmas.Int.{ints, to_z-of_z}
use Rattle.pg_plane.proofs.Products.{IsWithin-product}
use Rattle.pg_plane.proofs.grid_points.product.Goals as goal

pub returns-clause-value : goal.returns-clause-value
returns-clause-value c =
    let range = IsWithin-product 2097152 2097152 c.args.u c.args.v c.requires.u c.requires.v in
    let u : FitsSigned w64 c.args.u = c.ranges.u in
    let v : FitsSigned w64 c.args.v = c.ranges.v in
    let fits : FitsSigned w64 (c.args.u *ℤ c.args.v) = omega (arith, ints) in
    simp to_z-of_z

pub returns-clause-range : goal.returns-clause-range
returns-clause-range c =
    let range = IsWithin-product 2097152 2097152 c.args.u c.args.v c.requires.u c.requires.v in
    let u : FitsSigned w64 c.args.u = c.ranges.u in
    let v : FitsSigned w64 c.args.v = c.ranges.v in
    let fits : FitsSigned w64 (c.args.u *ℤ c.args.v) = omega (arith, ints) in
    simp to_z-of_z range

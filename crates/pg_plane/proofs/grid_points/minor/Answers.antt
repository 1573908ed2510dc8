use Rattle.std.proofs.Common.{◌-ℤ◌, arith, rules, w64, FitsSigned}
use Rattle.std.proofs.lemmas.Int.{ints, to_z-of_z}
use Rattle.pg_plane.proofs.grid_points.minor.Goals as goal

pub overflow_sub-result : goal.overflow_sub-result
overflow_sub-result c =
    let p = c.product.ensures.range in
    let q = c.product-2.ensures.range in
    omega (arith, ints)

pub returns : goal.returns
returns c =
    let p = c.product.ensures.range in
    let q = c.product-2.ensures.range in
    let fp : FitsSigned w64 c.product.result = omega (arith, ints) in
    let fq : FitsSigned w64 c.product-2.result = omega (arith, ints) in
    let fpq : FitsSigned w64 (c.product.result -ℤ c.product-2.result) = omega (arith, ints) in
    let fu : FitsSigned w64 c.args.u = search rules in
    let fv : FitsSigned w64 c.args.v = search rules in
    let fs : FitsSigned w64 c.args.s = search rules in
    let ft : FitsSigned w64 c.args.t = search rules in
    let pv = simp to_z-of_z at c.product.ensures.value in
    let qv = simp to_z-of_z at c.product-2.ensures.value in
    simp to_z-of_z (cc)

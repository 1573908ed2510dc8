use Rattle.std.proofs.Common.{arith, rules, w32, w64, FitsSigned}
use Rattle.std.proofs.lemmas.Int.{ints, to_z-of_z}
use Rattle.pg_plane.proofs.grid_points.area2.Goals as goal

pub returns : goal.returns
returns c =
    let d = c.difference.ensures.range in
    let e = c.difference-2.ensures.range in
    let f = c.difference-3.ensures.range in
    let g = c.difference-4.ensures.range in
    let fd : FitsSigned w64 c.difference.result = omega (arith, ints) in
    let fe : FitsSigned w64 c.difference-2.result = omega (arith, ints) in
    let ff : FitsSigned w64 c.difference-3.result = omega (arith, ints) in
    let fg : FitsSigned w64 c.difference-4.result = omega (arith, ints) in
    let ax : FitsSigned w32 c.args.a.x = search rules in
    let ay : FitsSigned w32 c.args.a.y = search rules in
    let bx : FitsSigned w32 c.args.b.x = search rules in
    let by : FitsSigned w32 c.args.b.y = search rules in
    let cx : FitsSigned w32 c.args.c.x = search rules in
    let cy : FitsSigned w32 c.args.c.y = search rules in
    let dv = simp to_z-of_z at c.difference.ensures.value in
    let ev = simp to_z-of_z at c.difference-2.ensures.value in
    let fv = simp to_z-of_z at c.difference-3.ensures.value in
    let gv = simp to_z-of_z at c.difference-4.ensures.value in
    let mv = simp to_z-of_z at c.minor.ensures in
    let fm : FitsSigned w64 c.minor.result = search rules in
    simp to_z-of_z (cc)

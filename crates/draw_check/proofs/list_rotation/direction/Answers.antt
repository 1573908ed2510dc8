use Rattle.std.proofs.Common.{◌-ℤ◌, arith, rules, w32, FitsSigned}
use Rattle.std.proofs.lemmas.Int.{ints, to_z-of_z}
use Rattle.draw_check.proofs.list_rotation.direction.Goals as goal

pub returns-clause-vector : goal.returns-clause-vector
returns-clause-vector c =
    let ra = c.args.a.range in
    let rb = c.args.b.range in
    let ax : FitsSigned w32 c.args.a.point.x = search rules in
    let ay : FitsSigned w32 c.args.a.point.y = search rules in
    let bx : FitsSigned w32 c.args.b.point.x = search rules in
    let by_ : FitsSigned w32 c.args.b.point.y = search rules in
    let dx : FitsSigned w32 (c.args.b.point.x -ℤ c.args.a.point.x) = omega (arith, ints) in
    let dy : FitsSigned w32 (c.args.b.point.y -ℤ c.args.a.point.y) = omega (arith, ints) in
    simp to_z-of_z

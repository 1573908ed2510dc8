use Rattle.std.proofs.Common.{rules, w32, FitsSigned}
use Rattle.std.proofs.lemmas.Int.{to_z-of_z}
use Rattle.pg_plane.proofs.grid_points.is_in_box.Goals as goal

pub returns-then-is_between : goal.returns-then-is_between
returns-then-is_between c =
    let ax : FitsSigned w32 c.args.a.x = search rules in
    let ay : FitsSigned w32 c.args.a.y = search rules in
    let bx : FitsSigned w32 c.args.b.x = search rules in
    let by : FitsSigned w32 c.args.b.y = search rules in
    let px : FitsSigned w32 c.args.p.x = search rules in
    let py : FitsSigned w32 c.args.p.y = search rules in
    let x = simp to_z-of_z at c.is_between.ensures in
    let y = simp to_z-of_z at c.is_between-then-is_between.ensures in
    (λ t. (x.0 c.if-is_between.true, y.0 t), λ b. y.1 b.1)

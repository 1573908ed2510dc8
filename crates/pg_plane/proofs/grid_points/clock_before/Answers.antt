use Rattle.std.proofs.Common.{◌<ℤ◌, pos, arith, rules, w64, FitsSigned}
use Rattle.std.proofs.lemmas.Int.{ints, to_z-of_z}
use Rattle.pg_plane.proofs.Directions.{clock_same, clock_other}
use Rattle.pg_plane.proofs.grid_points.clock_before.Goals as goal

pub returns-then-d_first-e_first : goal.returns-then-d_first-e_first
returns-then-d_first-e_first c =
    let f : FitsSigned w64 c.cross2.result = search rules in
    let same = clock_same c.is_first_half-d_first.result c.is_first_half-e_first.result c.args.d c.args.e c.is_first_half-d_first.ensures c.is_first_half-e_first.ensures c.if-d_first-e_first.true in
    let value = c.cross2.ensures in
    (λ t. same.0 (omega (arith, ints)), λ b. let l = same.1 b in let m : c.cross2.result <ℤ pos 0 = omega (arith, ints) in simp to_z-of_z (grind (arith, ints)))

pub returns-else-d_first-e_first : goal.returns-else-d_first-e_first
returns-else-d_first-e_first c =
    clock_other c.is_first_half-d_first.result c.is_first_half-e_first.result c.args.d c.args.e c.is_first_half-d_first.ensures c.is_first_half-e_first.ensures c.if-d_first-e_first.false

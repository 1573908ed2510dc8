use Rattle.std.proofs.Common.{rules, arith, FitsSigned, w32, get_or, to_z-of_z}
use Rattle.pigale_c.proofs.ArrayLemmas.{points_in-put, origin}
use Rattle.pigale_c.proofs.map_arrays.put_points.Goals as goal

pub loop-k-preserved : goal.loop-k-preserved
loop-k-preserved c =
    let x_fits : FitsSigned w32 (get_or c.args.points.now c.loop-k.k origin).x = search rules in
    let y_fits : FitsSigned w32 (get_or c.args.points.now c.loop-k.k origin).y = search rules in
    simp to_z-of_z (points_in-put c.loop-k.x c.loop-k.y c.args.points.now c.loop-k.k c.loop-k-test.true (omega arith) (omega arith) c.loop-k.invariant)

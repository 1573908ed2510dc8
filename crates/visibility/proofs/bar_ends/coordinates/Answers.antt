use Rattle.std.proofs.Common.{arith, rules, w32, FitsSigned}
use Rattle.std.proofs.lemmas.Int.{to_z-of_z}
use Rattle.std.proofs.lemmas.Option.{get_or_from_slice_get}
use Rattle.visibility.proofs.EndRows.{coordinates_more}
use Rattle.visibility.proofs.bar_ends.coordinates.Goals as goal

pub loop-i-preserved : goal.loop-i-preserved
loop-i-preserved c =
    let fits : FitsSigned w32 c.coordinate.result = search rules in
    let grown = simp to_z-of_z at c.in_ok-push.ensures.ok in
    coordinates_more c.args.numbers.now c.loop-i.i c.get.result c.loop-i.made c.push.new.self c.coordinate.result (omega (arith, c.loop-i-test.true, c.len-i-end.ensures)) c.loop-i.invariant (get_or_from_slice_get c.args.numbers.now c.loop-i.i c.get.result 0 c.get.ensures) c.coordinate.ensures grown

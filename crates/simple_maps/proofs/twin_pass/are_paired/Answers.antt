use Rattle.std.proofs.Common.{◌≤◌, get_or, arith}
use Rattle.std.specs.Int.Bits.{bit_or}
use Rattle.std.proofs.lemmas.Nat.{le_or_l, le_or_r}
use borrow.Author.Count.{below_more}
use Rattle.simple_maps.proofs.twin_pass.are_paired.Goals as goal

pub loop-twin-preserved : goal.loop-twin-preserved
loop-twin-preserved c =
    let joined = c.loop-twin.joined in
    let twin = get_or c.args.twins.now c.loop-twin.twin-index 0 in
    below_more (λ k. get_or c.args.twins.now k 0 ≤ bit_or joined twin) c.loop-twin.twin-index
    (λ k l. omega (arith, c.loop-twin.invariant k l, le_or_l joined twin)) (le_or_r joined twin)

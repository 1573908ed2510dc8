use Rattle.std.proofs.Common.{◌∙◌, arith, length-set}
use Rattle.left_right_lists.proofs.SideLemmas.{dart_at, in_list, told_more}
use Rattle.left_right_lists.proofs.side_tables.put_sides.Goals as goal

pub bounds-table-place : goal.bounds-table-place
bounds-table-place c =
    let l = c.requires.placed (dart_at c.args.darts.now c.loop-x.x) (in_list c.args.darts.now c.loop-x.x c.loop-x-test.true) in
    omega (arith, l, c.dart_place-place.ensures, c.loop-x.invariant.long)

pub loop-x-preserved : goal.loop-x-preserved
loop-x-preserved c =
    let l = c.requires.placed (dart_at c.args.darts.now c.loop-x.x) (in_list c.args.darts.now c.loop-x.x c.loop-x-test.true) in
    record {
      long = length-set c.loop-x.table c.dart_place-place.result c.side_at.result ∙ c.loop-x.invariant.long;
      told = told_more c.args.darts.now c.args.numbered.now c.loop-x.table c.loop-x.x c.dart_place-place.result c.side_at.result c.requires.ordered c.loop-x-test.true c.dart_place-place.ensures (omega (arith, l, c.dart_place-place.ensures, c.loop-x.invariant.long)) c.side_at.ensures c.loop-x.invariant.told;
    }

use Rattle.std.proofs.Common.{◌<◌, [], length, slice_index, slice_index_or, arith}
use Rattle.std.proofs.lemmas.List.Elements.{Contains-get_or}
use Rattle.left_right_lists.proofs.Tabled.{joined_all}
use Rattle.left_right_lists.proofs.vertex_entries.joined_rows.Goals as goal

pub list-requires : goal.list-requires
list-requires g c =
    let l : slice_index c.args.us.now c.loop-u.u-index < length c.args.rows.now = c.requires (slice_index c.args.us.now c.loop-u.u-index) (Contains-get_or c.args.us.now c.loop-u.u-index 0 c.loop-u-test.true) in
    omega (arith, l, c.from.ensures)

pub returns : goal.returns
returns g c = joined_all (λ u. slice_index_or c.args.rows.now u []) c.args.us.now c.loop-u.u-index c.loop-u.list.items (omega (arith, c.loop-u-test.false)) c.loop-u.invariant

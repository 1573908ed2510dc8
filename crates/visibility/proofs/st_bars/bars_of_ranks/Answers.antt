use Rattle.std.proofs.Common.{ℕ, List, subst}
use Rattle.bipolar.specs.Columns.{AreColumns}
use Rattle.visibility.proofs.Drawn.{small_ranks, some_row, small_rows, small_columns, bars_are}
use Rattle.visibility.proofs.st_bars.bars_of_ranks.Goals as goal

pub coordinates-requires : goal.coordinates-requires
coordinates-requires c = record { low = small_ranks c.args.map.now c.args.map.now.known c.args.rank.now c.args.st.0 c.requires.live c.requires.order }

pub left_ends-requires-clause-some : goal.left_ends-requires-clause-some
left_ends-requires-clause-some c = some_row c.args.map.now c.args.map.now.known c.args.rank.now c.args.st.0 c.requires.live c.requires.order c.in_ok-rows.rows c.in_ok-rows.ensures

pub left_ends-requires-clause-low : goal.left_ends-requires-clause-low
left_ends-requires-clause-low c = small_rows c.args.map.now c.args.map.now.known c.args.rank.now c.args.st.0 c.requires.live c.requires.order c.in_ok-rows.rows c.in_ok-rows.ensures

pub right_ends-requires-clause-some : goal.right_ends-requires-clause-some
right_ends-requires-clause-some c = some_row c.args.map.now c.args.map.now.known c.args.rank.now c.args.st.0 c.requires.live c.requires.order c.in_ok-rows.rows c.in_ok-rows.ensures

pub right_ends-requires-clause-low : goal.right_ends-requires-clause-low
right_ends-requires-clause-low c = small_rows c.args.map.now c.args.map.now.known c.args.rank.now c.args.st.0 c.requires.live c.requires.order c.in_ok-rows.rows c.in_ok-rows.ensures

pub coordinates-requires-2 : goal.coordinates-requires-2
coordinates-requires-2 c = record { low = small_columns c.args.map.now c.args.map.now.known c.args.rank.now c.args.st.0 c.requires.live c.requires.order c.in_ok-rows.rows c.in_ok-rows.ensures c.in_ok-columns.columns (subst (λ (ls : List (List ℕ)). AreColumns ls c.in_ok-rows.rows c.in_ok-columns.columns) c.requires.lists c.in_ok-columns.ensures) }

pub returns : goal.returns
returns c =
    bars_are c.args.map.now c.args.map.now.known c.args.rank.now c.args.st.0 c.requires.live c.requires.order c.in_ok-rows.rows c.in_ok-rows.ensures c.in_ok-columns.columns
    (subst (λ (ls : List (List ℕ)). AreColumns ls c.in_ok-rows.rows c.in_ok-columns.columns) c.requires.lists c.in_ok-columns.ensures)
    _ c.in_ok-y.ensures c.in_ok-column.ensures c.in_ok-x1.ensures c.in_ok-x2.ensures

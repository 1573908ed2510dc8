use Rattle.std.proofs.Common.{get_or, refl}
use Rattle.schnyder_grid.proofs.ArcLemmas.{AreArcs-more}
use Rattle.schnyder_grid.proofs.order_arcs.put_row.Goals as goal

pub loop-r-preserved : goal.loop-r-preserved
loop-r-preserved c =
    let list = c.args.list.now in
    let k = c.loop-r.r-index in
    AreArcs-more c.args.wood.now c.args.e list c.loop-r.row.items c.put_arc.new.row.items k (get_or list k 0) c.loop-r-test.true refl c.loop-r.invariant c.in_ok-put_arc.ensures

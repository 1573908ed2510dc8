use Rattle.std.proofs.Common.{◌<◌, length, get_or, sym, arith}
use Rattle.std.proofs.lemmas.List.{get_or_default}
use Rattle.std.proofs.lemmas.List.Edits.{map_over_more}
use Rattle.bipolar.proofs.dual_orders.numbered_faces.lead_to_faces.Goals as goal

pub loop-i-preserved : goal.loop-i-preserved
loop-i-preserved c =
    let i = c.loop-i.i in
    let arcs = c.loop-i.arcs in
    let l : i < length c.args.arcs.now = omega (arith, c.loop-i-test.true) in
    let l' : i < length arcs = omega (arith, l, c.loop-i.auto.arcs) in
    map_over_more (λ d. get_or c.args.of.now d 0) c.args.arcs.now arcs i (get_or arcs i 0) l c.loop-i.invariant (sym (get_or_default arcs i (get_or arcs i 0) 0 l'))

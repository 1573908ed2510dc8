use Rattle.std.proofs.Common.{◌<◌, slice_index, sym, subst}
use Rattle.left_right_sides.specs.Views.{rooted_by}
use Rattle.left_right_sides.proofs.Searching.{placed_so}
use Rattle.left_right_sides.proofs.vertex_forks.VertexForks.place.Goals as goal

pub returns-clause-placed : goal.returns-clause-placed
returns-clause-placed c = λ edge number root k P lists t s st next l held items.
    let r = rooted_by edge number c.args.self.now.parents.now c.args.self.now.depths.now c.args.self.now.darts.now c.args.self.now.heights.now in
    let low = slice_index c.args.lows.now in
    let ties = c.args.blocks.now.ties.items in
    let all = c.in_ok-found.ensures.found edge number root k P lists t s st next held items in
    placed_so r root k c.args.v low P ties t st next c.find_edges.new.blocks c.gather-placed.new.self c.in_ok-found.found.items c.deref.result.now c.deref-2.result.now c.from.result c.set_low.new.lows c.gather-placed.result c.from.ensures c.deref.ensures.value c.deref-2.ensures.value all c.gather-placed.ensures.same c.gather-placed.ensures.gathered c.set_low.ensures.others (λ d rest e. c.set_low.ensures.here d rest (subst (λ n. c.args.v < n) (sym l) next.0) e)

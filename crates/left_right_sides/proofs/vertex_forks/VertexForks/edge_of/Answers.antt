use Rattle.std.proofs.Common.{◌≡◌, ◌+◌, ◌-◌, length, slice_index, arith}
use Rattle.left_right_sides.specs.Views.{rooted_by}
use Rattle.left_right_sides.proofs.Searching.{no_such_stack, no_child_stack, other_step, edge_step, child_step, part_still, child_told}
use Rattle.left_right_sides.proofs.vertex_forks.VertexForks.edge_of.Goals as goal

pub returns-then-p-self-clause-found : goal.returns-then-p-self-clause-found
returns-then-p-self-clause-found c = λ edge number root k P ties ds left t s next once f.
    let r = rooted_by edge number c.args.self.now.parents.now c.args.self.now.depths.now c.args.self.now.darts.now c.args.self.now.heights.now in
    edge_step r root k c.args.v (slice_index c.args.lows.now) P ties t s next c.args.p left once c.args.blocks.now ds f c.upward_edge.result c.if-p-self.true c.upward_edge.ensures

pub returns-then-u-self-clause-found : goal.returns-then-u-self-clause-found
returns-then-u-self-clause-found c = λ edge number root k P ties ds left t s next once f.
    let r = rooted_by edge number c.args.self.now.parents.now c.args.self.now.depths.now c.args.self.now.darts.now c.args.self.now.heights.now in
    other_step r root k c.args.v (slice_index c.args.lows.now) P ties t s next c.args.p left once c.args.blocks.now ds f (no_such_stack r c.args.v c.args.p (omega (arith, c.if-p-self.false, c.if-u-self.true)))

pub returns-then-not-is_child-clause-found : goal.returns-then-not-is_child-clause-found
returns-then-not-is_child-clause-found c = λ edge number root k P ties ds left t s next once f.
    let r = rooted_by edge number c.args.self.now.parents.now c.args.self.now.depths.now c.args.self.now.darts.now c.args.self.now.heights.now in
    other_step r root k c.args.v (slice_index c.args.lows.now) P ties t s next c.args.p left once c.args.blocks.now ds f (no_child_stack r c.args.v c.args.p (c.args.p - length c.args.self.now.darts.now) c.is_child.result (omega (arith, c.if-p-self.false)) c.is_child.ensures c.if-not-is_child.true)

pub returns-clause-found : goal.returns-clause-found
returns-clause-found c = λ edge number root k P ties ds left t s next once f.
    let r = rooted_by edge number c.args.self.now.parents.now c.args.self.now.depths.now c.args.self.now.darts.now c.args.self.now.heights.now in
    let u = c.args.p - length c.args.self.now.darts.now in
    let is : c.args.p ≡ length c.args.self.now.darts.now + u = omega (arith, c.if-p-self.false) in
    let child = child_told r c.args.v u c.is_child.result c.if-u-self.false c.is_child.ensures c.if-not-is_child.false in
    let low = c.entry.result in
    let part = part_still r root k c.args.v (slice_index c.args.lows.now) P ties t s next c.args.p left once c.args.blocks.now ds f u low is child c.entry.ensures in
    child_step r root k c.args.v (slice_index c.args.lows.now) P ties t s next c.args.p left once c.args.blocks.now ds f c.child_edge.new.blocks u low c.in_ok-found.found is child (c.in_ok-found.ensures.found edge number f.0 f.1.0 part)

use Rattle.std.proofs.Common.{◌≡◌, false, length, slice_index, slice_index_or, ◌∙◌, subst}
use Rattle.left_right_blocks.proofs.Stated.{begun}
use Rattle.left_right_sides.specs.Views.{rooted_by, MatchPlaced}
use Rattle.left_right_sides.proofs.Sided.{begins, sides_met}
use Rattle.left_right_sides.proofs.vertex_forks.VertexForks.sides.Goals as goal

pub returns-then-not-placed : goal.returns-then-not-placed
returns-then-not-placed c = λ edge number root t numbered whole.
    let r = rooted_by edge number c.args.self.now.parents.now c.args.self.now.depths.now c.args.self.now.darts.now c.args.self.now.heights.now in
    let low = slice_index c.deref_mut.result.now in
    let given = c.in_ok-items.ensures.shared edge number in
    let b = begins r root (length c.args.self.now.parents.now) low c.in_ok-blocks.blocks t c.in_ok-blocks.ensures.held in
    let long : length c.deref_mut.result.now ≡ length c.args.self.now.parents.now = c.deref_mut.ensures.len ∙ c.in_ok-resize.ensures.len in
    subst (MatchPlaced r (length c.args.order.now) c.place_all.new.lows c.place_all.new.blocks) c.if-not-placed.true
    (c.in_ok-placed.ensures.placed edge number root (begun (length c.args.self.now.darts.now)) given.0 t numbered whole long b.0 b.1 given.1.0 given.1.1)

pub returns : goal.returns
returns c = λ edge number root t numbered whole.
    let r = rooted_by edge number c.args.self.now.parents.now c.args.self.now.depths.now c.args.self.now.darts.now c.args.self.now.heights.now in
    let low = slice_index c.deref_mut.result.now in
    let given = c.in_ok-items.ensures.shared edge number in
    let b = begins r root (length c.args.self.now.parents.now) low c.in_ok-blocks.blocks t c.in_ok-blocks.ensures.held in
    let long : length c.deref_mut.result.now ≡ length c.args.self.now.parents.now = c.deref_mut.ensures.len ∙ c.in_ok-resize.ensures.len in
    let f =
    subst (MatchPlaced r (length c.args.order.now) c.place_all.new.lows c.place_all.new.blocks) c.if-not-placed.false
    (c.in_ok-placed.ensures.placed edge number root (begun (length c.args.self.now.darts.now)) given.0 t numbered whole long b.0 b.1 given.1.0 given.1.1) in
    sides_met r root (length c.args.order.now) (slice_index c.place_all.new.lows) f.0 c.place_all.new.blocks.ties.items (λ x. slice_index_or c.in_ok-sides.sides.items x false) t whole f.1.1 (c.in_ok-sides.ensures f.1.0.lists f.1.0.tied)

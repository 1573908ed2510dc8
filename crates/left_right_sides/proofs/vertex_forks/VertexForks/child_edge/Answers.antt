use Rattle.std.proofs.Common.{◌+◌, length, slice_index, ltb, refl, ap, ◌∙◌}
use Rattle.left_right_sides.specs.Views.{rooted_by}
use Rattle.left_right_sides.proofs.Children.{child_state, child_bare, child_some}
use Rattle.left_right_sides.proofs.vertex_forks.VertexForks.child_edge.Goals as goal

pub returns-in_default-clause-found : goal.returns-in_default-clause-found
returns-in_default-clause-found c = λ edge number P s q.
    let r = rooted_by edge number c.args.self.now.parents.now c.args.self.now.depths.now c.args.self.now.darts.now c.args.self.now.heights.now in
    let m = length c.args.self.now.darts.now in
    let stack = m + c.args.u in
    let depth = slice_index c.args.self.now.depths.now c.args.v in
    let height = slice_index c.args.self.now.heights.now in
    let t = child_state height c.args.blocks.now c.trim.new.self P s depth c.args.low stack c.entry.result stack (c.entry.ensures ∙ ap (slice_index c.args.self.now.depths.now) c.from.ensures) refl c.in_ok-trim.ensures.edges c.in_ok-trim.ensures.trimmed q.part in
    (t.0, (t.1.0, (t.1.1, child_bare r c.args.u depth c.args.low stack stack c.args.blocks.now c.trim.new.self P t.0 q t.1.0 t.1.1 refl c.in_default.ensures)))

pub returns-clause-found : goal.returns-clause-found
returns-clause-found c = λ edge number P s q.
    let r = rooted_by edge number c.args.self.now.parents.now c.args.self.now.depths.now c.args.self.now.darts.now c.args.self.now.heights.now in
    let m = length c.args.self.now.darts.now in
    let stack = m + c.args.u in
    let depth = slice_index c.args.self.now.depths.now c.args.v in
    let height = slice_index c.args.self.now.heights.now in
    let t = child_state height c.args.blocks.now c.trim.new.self P s depth c.args.low stack c.entry.result stack (c.entry.ensures ∙ ap (slice_index c.args.self.now.depths.now) c.from.ensures) refl c.in_ok-trim.ensures.edges c.in_ok-trim.ensures.trimmed q.part in
    (t.0, (t.1.0, (t.1.1, child_some r c.args.u depth c.args.low stack stack c.args.blocks.now c.trim.new.self P t.0 q t.1.0 t.1.1 refl c.in-Some.deepest (ltb c.args.low c.in-Some.deepest) refl c.in-Some.ensures)))

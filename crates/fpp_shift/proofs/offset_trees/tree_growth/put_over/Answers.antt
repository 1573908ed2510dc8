use Rattle.std.proofs.Common.{refl, subst, arith, rules}
use Rattle.std.proofs.lemmas.Int.{ints}
use Rattle.fpp_shift.specs.declared.offset_trees.tree_nodes.Node.{Node}
use Rattle.fpp_shift.specs.Writes.{SetsNode}
use Rattle.fpp_shift.proofs.NextLemmas.{row, row-is, top-called, p-inside, q-inside, v-inside, before-row, before-inside, first-of}
use Rattle.fpp_shift.proofs.PutLemmas.{covering, grown-after}
use Rattle.fpp_shift.proofs.offset_trees.tree_growth.put_over.Goals as goal

pub walk-apart-requires : goal.walk-apart-requires
walk-apart-requires g c =
    let next = c.requires.next.3 in
    (row _ _ _ _ _ _ _ next, _, row-is _ _ _ _ _ _ _ next)

pub height_of-y_p-requires : goal.height_of-y_p-requires
height_of-y_p-requires g c = p-inside _ _ _ _ _ _ _ c.requires.next.3

pub height_of-y_q-requires : goal.height_of-y_q-requires
height_of-y_q-requires g c = q-inside _ _ _ _ _ _ _ c.requires.next.3

pub top-x-requires : goal.top-x-requires
top-x-requires g c =
    let next = c.requires.next.3 in
    (_, _, _, _, _, top-called _ _ _ _ _ _ _ next c.walk-apart.result.0 c.height_of-y_p.result c.height_of-y_q.result (c.walk-apart.ensures.width _ _ (row-is _ _ _ _ _ _ _ next)) c.height_of-y_p.ensures.height c.height_of-y_q.ensures.height (search rules) (search rules))

pub cover-first-requires-clause-p : goal.cover-first-requires-clause-p
cover-first-requires-clause-p g c = p-inside _ _ _ _ _ _ _ c.requires.next.3

pub cover-first-requires-clause-before : goal.cover-first-requires-clause-before
cover-first-requires-clause-before g c = before-inside _ _ _ _ _ _ _ c.requires.next.3 _ c.walk-apart.ensures.before

pub cover-first-requires-clause-first : goal.cover-first-requires-clause-first
cover-first-requires-clause-first g c = λ _. first-of _ _ _ _ _ _ _ c.requires.next.3

pub cover-first-requires-clause-x : goal.cover-first-requires-clause-x
cover-first-requires-clause-x g c =
    let next = c.requires.next.3 in
    let is = top-called _ _ _ _ _ _ _ next c.walk-apart.result.0 c.height_of-y_p.result c.height_of-y_q.result (c.walk-apart.ensures.width _ _ (row-is _ _ _ _ _ _ _ next)) c.height_of-y_p.ensures.height c.height_of-y_q.ensures.height (search rules) (search rules) in
    let told = (c.top-x.ensures _ _ _ _ _ is).0 in
    let across = is.across in
    let small = is.small in
    record { least = omega (arith, ints, told, across, small); most = omega (arith, ints, told, across, small) }

pub set_right-requires : goal.set_right-requires
set_right-requires g c = let l = p-inside _ _ _ _ _ _ _ c.requires.next.3 in omega (arith, l, c.cover-first.ensures.count)

pub set_x-requires : goal.set_x-requires
set_x-requires g c = let l = q-inside _ _ _ _ _ _ _ c.requires.next.3 in omega (arith, l, c.cover-first.ensures.count, c.set_right.ensures.set.count)

pub set_node-requires : goal.set_node-requires
set_node-requires g c = let l = v-inside _ _ _ _ _ _ _ c.requires.next.3 in omega (arith, l, c.cover-first.ensures.count, c.set_right.ensures.set.count, c.set_x.ensures.set.count)

pub returns-clause-grown : goal.returns-clause-grown
returns-clause-grown g c = λ at run n next.
    let is = top-called at run n _ _ _ _ next c.walk-apart.result.0 c.height_of-y_p.result c.height_of-y_q.result (c.walk-apart.ensures.width _ _ (row-is at run n _ _ _ _ next)) c.height_of-y_p.ensures.height c.height_of-y_q.ensures.height (search rules) (search rules) in
    let told = c.top-x.ensures _ _ _ _ _ is in
    let x = told.0 in
    let across = is.across in
    let small = is.small in
    let set = subst (λ (node : Node). SetsNode c.set_x.new.tree c.set_node.new.tree c.args.v.0 node) c.node_with.ensures c.set_node.ensures.set in
    let one = covering at run n _ _ _ _ next _ _ _ _ (before-row at run n _ _ _ _ next _ c.walk-apart.ensures.before) c.cover-first.ensures.covers in
    grown-after at run n _ _ _ _ next _ _ _ _ _ _ _ _ one c.set_right.ensures.set c.set_x.ensures.set set refl refl (omega (arith, ints, x, across, small)) (omega (arith, ints, told.1, is.high, small)) (omega (arith, ints, x, across, small)) (omega (arith, ints, x, told.2, across, small))

pub returns-clause-steps : goal.returns-clause-steps
returns-clause-steps g c = λ at run n next.
    let walked = c.walk-apart.ensures.steps _ _ (row-is at run n _ _ _ _ next) in
    omega (arith, walked, c.height_of-y_p.ensures.steps, c.height_of-y_q.ensures.steps, c.cover-first.ensures.steps, c.set_right.ensures.steps, c.set_x.ensures.steps, c.set_node.ensures.steps)

use Rattle.std.proofs.Common.{length, get_or, ap, ◌∙◌, arith}
use Rattle.std.proofs.lemmas.List.{get_or_default}
use Rattle.st_orders.proofs.TableLemmas.{IsNextAt, next_at, IsPlacingIn-next}
use Rattle.st_orders.proofs.place_ranges.Ranges.place_next.Goals as goal
use Rattle.st_orders.proofs.place_ranges.Ranges.place_next.Goals.{After-index-arg-2-1}

-- what is read of the next vertex
read : (c : After-index-arg-2-1) → IsNextAt c.args.search.now.lists.now c.args.search.now.forest.now.order.items c.args.search.now.forest.now.number.items c.args.search.now.forest.now.last.items c.args.search.now.forest.now.parent.items c.args.search.now.low.now c.requires.whole c.args.self.now.from.items c.args.self.now.to.items c.args.self.now.recent.items c.args.next c.requires.placed c.requires.two c.requires.few c.index-vertex.result.now c.index-above.result.now c.index-far.result.now c.index-vertex.ensures c.index-above.ensures c.index-far.ensures
read c =
    let f = c.args.search.now.forest.now in
    let s = c.args.self.now in
    let r = c.requires in
    next_at c.args.search.now.lists.now f.order.items f.number.items f.last.items f.parent.items c.args.search.now.low.now r.whole s.from.items s.to.items s.recent.items c.args.next r.placed r.two r.few _ _ _ c.index-vertex.ensures c.index-above.ensures c.index-far.ensures

pub index-requires : goal.index-requires
index-requires c =
    let r = c.requires in
    let i = read c in
    omega (arith, i.far_in, r.placed.tables.recents)

pub index-requires-2 : goal.index-requires-2
index-requires-2 c =
    let r = c.requires in
    let i = read ((goal.at.index-requires-2 c).After-index-arg-2-1) in
    omega (arith, i.v_in, r.whole.lasts)

pub overflow_sub-size : goal.overflow_sub-size
overflow_sub-size c =
    let f = c.args.search.now.forest.now in
    let r = c.requires in
    let i = read ((goal.at.overflow_sub-size c).After-index-arg-2-1) in
    omega (arith, c.index-2.ensures ∙ get_or_default f.last.items c.index-vertex.result.now c.index-2.result.now 0 (omega (arith, i.v_in, r.whole.lasts)), i.ends)

pub take_places-requires-clause-vertex_in : goal.take_places-requires-clause-vertex_in
take_places-requires-clause-vertex_in c =
    let r = c.requires in
    let i = read ((goal.at.take_places-requires-clause-vertex_in c).After-index-arg-2-1) in
    omega (arith, i.v_in, r.placed.tables.froms, ap length c.deref_mut.ensures.value)

pub take_places-requires-clause-parent_in : goal.take_places-requires-clause-parent_in
take_places-requires-clause-parent_in c =
    let r = c.requires in
    let i = read ((goal.at.take_places-requires-clause-parent_in c).After-index-arg-2-1) in
    omega (arith, i.p_in, r.placed.tables.froms, ap length c.deref_mut.ensures.value)

pub invariant_of-share : goal.invariant_of-share
invariant_of-share c =
    let i = read ((goal.at.invariant_of-share c).After-index-arg-2-1) in
    record { other = i.other }

pub take_places-requires-clause-room : goal.take_places-requires-clause-room
take_places-requires-clause-room c =
    let f = c.args.search.now.forest.now in
    let r = c.requires in
    let i = read ((goal.at.take_places-requires-clause-room c).After-index-arg-2-1) in
    omega (arith, c.index-2.ensures ∙ get_or_default f.last.items c.index-vertex.result.now c.index-2.result.now 0 (omega (arith, i.v_in, r.whole.lasts)), ap (λ l. get_or l c.index-above.result.now 0) c.deref_mut.ensures.value, ap (λ l. get_or l c.index-above.result.now 0) c.deref_mut-2.ensures.value, i.room, i.ends)

pub index_mut-requires : goal.index_mut-requires
index_mut-requires c =
    let r = c.requires in
    let i = read ((goal.at.index_mut-requires c).After-index-arg-2-1) in
    omega (arith, i.p_in, r.placed.tables.recents)

pub returns : goal.returns
returns c =
    let f = c.args.search.now.forest.now in
    let s = c.args.self.now in
    let r = c.requires in
    let t = c.take_places in
    IsPlacingIn-next c.args.search.now.lists.now f.order.items f.number.items f.last.items f.parent.items c.args.search.now.low.now r.whole s.from.items s.to.items s.recent.items c.args.next r.placed r.two r.few _ _ _ c.index-vertex.ensures c.index-above.ensures c.index-far.ensures _ c.index.ensures _ c.index-2.ensures
    t.new.from t.new.to _ _ s.from.len s.to.len (omega arith) (omega arith) (omega arith) (omega arith) (rw (c.deref_mut.ensures.value, c.deref_mut-2.ensures.value) at t.ensures)

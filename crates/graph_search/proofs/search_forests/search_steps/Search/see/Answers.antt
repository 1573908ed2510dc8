use Rattle.std.proofs.Common.{arith}
use Rattle.graph_search.proofs.LowsSoFar.{AreLowsSoFar-seen}
use Rattle.graph_search.proofs.TableLemmas.{IsSearching-room, IsSearching-seen, work_in-seen}
use Rattle.graph_search.proofs.search_forests.search_steps.Search.see.Goals as goal

pub index_mut-requires : goal.index_mut-requires
index_mut-requires c =
    let s = c.args.self.now in
    omega (arith, s.searching.orders, IsSearching-room s.lists.now s.order.items s.number.items s.last.items s.parent.items s.cursor.items s.count s.current s.searching c.args.v c.requires.vertex c.requires.unseen)

pub overflow_add-self : goal.overflow_add-self
overflow_add-self c =
    let s = c.args.self.now in
    omega (arith, s.few, IsSearching-room s.lists.now s.order.items s.number.items s.last.items s.parent.items s.cursor.items s.count s.current s.searching c.args.v c.requires.vertex c.requires.unseen)

pub invariant_of-self-clause-searching : goal.invariant_of-self-clause-searching
invariant_of-self-clause-searching c =
    let s = c.args.self.now in
    IsSearching-seen s.lists.now s.order.items s.number.items s.last.items s.parent.items s.cursor.items s.count s.current s.searching c.args.v c.requires.vertex c.requires.unseen c.requires.dart

pub returns-clause-less : goal.returns-clause-less
returns-clause-less c =
    let s = c.args.self.now in
    work_in-seen s.lists.now s.order.items s.number.items s.last.items s.parent.items s.cursor.items s.count s.current s.searching c.args.v c.requires.vertex c.requires.unseen c.requires.dart

pub invariant_of-self-clause-lows : goal.invariant_of-self-clause-lows
invariant_of-self-clause-lows c =
    let s = c.args.self.now in
    AreLowsSoFar-seen s.lists.now s.order.items s.number.items s.last.items s.parent.items s.cursor.items s.low.items s.count s.current s.searching s.lows c.args.v c.requires.vertex c.requires.unseen

use Rattle.graph_search.proofs.ForestLemmas.{IsAdjacency-simple}
use Rattle.st_orders.proofs.WholeLemmas.{IsWholeSearch-biconnected}
use Rattle.st_orders.proofs.FinishLemmas.{ArePlaces-placed}
use Rattle.st_orders.proofs.RankLemmas.{IsStOrder-places}
use Rattle.st_orders.proofs.orders.fill_places.Goals as goal

pub place_all-requires-clause-whole : goal.place_all-requires-clause-whole
place_all-requires-clause-whole c =
    let r = c.requires in
    let f = c.args.forest.now in
    (IsWholeSearch-biconnected c.args.lists.now r.simple r.connected r.uncut f.order.items f.number.items f.last.items f.parent.items c.args.low.now r.forest r.lows c.args.s c.args.t r.dart r.first r.second).0

pub returns-clause-places : goal.returns-clause-places
returns-clause-places c =
    let r = c.requires in
    let f = c.args.forest.now in
    let low = c.args.low.now in
    let made = c.place_all.new.self in
    let whole = IsWholeSearch-biconnected c.args.lists.now r.simple r.connected r.uncut f.order.items f.number.items f.last.items f.parent.items low r.forest r.lows c.args.s c.args.t r.dart r.first r.second in
    ArePlaces-placed c.args.lists.now (IsAdjacency-simple c.args.lists.now r.simple) f.order.items f.number.items f.last.items f.parent.items low made.from.items made.to.items made.recent.items whole.0 c.place_all.ensures c.args.s c.args.t whole.1 whole.2 r.dart

pub returns-clause-order : goal.returns-clause-order
returns-clause-order c = IsStOrder-places c.args.lists.now c.args.s c.args.t _ (returns-clause-places c)

use Rattle.grid_figures.proofs.CompletionLemmas.{listed_by}
use Rattle.grid_figures.proofs.drawing_orders.completed_records.drawing_order.Goals as goal

pub returns-in-Ok-clause-order : goal.returns-in-Ok-clause-order
returns-in-Ok-clause-order c =
    let h = c.in-Ok.ensures.order in
    record {
      simple = h.simple;
      triangulation = h.triangulation;
      listed = rw c.some_if.ensures (listed_by c.in-Ok.made c.ordered_map.new.self.lists c.args.lists.now c.in-Ok.map.lists c.in-Ok.ensures.lists);
      extended = h.extended;
      to = h.to;
      base = h.base;
      canonical = h.canonical;
      rank = c.ordered_map.new.self.peeler.order.ranked;
    }

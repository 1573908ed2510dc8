use Rattle.drawing_rows.proofs.orders.order_of.Goals as goal

pub returns-clause-order : goal.returns-clause-order
returns-clause-order c = let h = c.in_ok-found.ensures.order in ((0, h.to), h.canonical)

pub returns-clause-based : goal.returns-clause-based
returns-clause-based c = let h = c.in_ok-found.ensures.order in ((0, h.to), h.base.dart, h.canonical)

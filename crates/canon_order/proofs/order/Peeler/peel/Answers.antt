use Rattle.canon_order.proofs.order.Peeler.peel.Goals as goal

pub of-requires-clause-distinct : goal.of-requires-clause-distinct
of-requires-clause-distinct c = c.in_ok-at.ensures.built.once

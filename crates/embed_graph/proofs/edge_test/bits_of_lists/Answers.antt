use Rattle.std.proofs.Common.{ap, replicate, ◌∙◌}
use Rattle.canon_order.proofs.Filled.{filled}
use Rattle.embed_graph.proofs.edge_test.bits_of_lists.Goals as goal

pub set_lists-requires-clause-empty : goal.set_lists-requires-clause-empty
set_lists-requires-clause-empty c =
    c.deref_mut.ensures.value ∙ (c.in_ok-resize.ensures.items ∙ filled 63 _ _ _ c.clear.ensures.items c.clear.ensures.len ∙ ap (λ k. replicate k 63) c.body_length.ensures)

use Rattle.std.proofs.Common.{ℕ, sym, subst}
use Rattle.map_lists.specs.Lists.{Lists}
use Rattle.graph_search.specs.Cuts.{IsCutVertex}
use Rattle.st_orders.proofs.orders.st_order.Goals as goal

pub list_order-requires-clause-uncut : goal.list_order-requires-clause-uncut
list_order-requires-clause-uncut c = subst (λ (ls : Lists). (v : ℕ) → IsCutVertex ls v → ⊥) (sym c.in_ok-lists.ensures) c.requires.uncut

use Rattle.std.proofs.Common.{ℕ, List, Contains, subst, sym}
use Rattle.canon_order.proofs.order.Peeler.order_lists.Goals as goal

pub list-requires : goal.list-requires
list-requires c = c.requires.triangulation.simple.in_range c.args.t c.args.s c.requires.base

pub entry_behind-third-requires-clause-some : goal.entry_behind-third-requires-clause-some
entry_behind-third-requires-clause-some c = subst (λ (us : List ℕ). Contains us c.args.t) (sym c.list.ensures) (c.requires.triangulation.simple.both_ways c.args.t c.args.s c.requires.base).1

use Rattle.std.proofs.Common.{ℕ, List, sym, ◌∙◌, subst}
use Rattle.st_orders.specs.StOrders.{IsStOrder}
use Rattle.st_orders.proofs.RankLemmas.{IsStOrder-places}
use Rattle.st_orders.proofs.orders.st_ranks.Goals as goal

pub returns : goal.returns
returns c =
    subst (λ (xs : List ℕ). (at : List ℕ) × IsStOrder c.args.lists.now c.args.s c.args.t at xs) (sym (c.in_ok-rank.ensures ∙ c.deref.ensures.value))
    (IsStOrder-places c.args.lists.now c.args.s c.args.t c.fill_places.new.ranges.from.items c.in_ok-fill_places.ensures.places)

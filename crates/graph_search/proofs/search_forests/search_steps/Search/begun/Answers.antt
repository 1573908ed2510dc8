use Rattle.std.proofs.Common.{ℕ, length, refl, sym, subst}
use Rattle.graph_search.specs.UnderWay.{IsSearching}
use Rattle.graph_search.proofs.LowsSoFar.{AreLowsSoFar-none}
use Rattle.graph_search.proofs.TableLemmas.{IsSearching-filled}
use Rattle.graph_search.proofs.search_forests.search_steps.Search.begun.Goals as goal

pub invariant_of-result : goal.invariant_of-result
invariant_of-result c =
    let lists = c.args.lists.now in
    let t = c.args.tables in
    let f = t.forest in
    let r = c.requires.cleared in
    record {
      few = c.len.ensures.few;
      in_range = c.requires.in_range;
      searching = subst (λ (x : ℕ). IsSearching lists f.order.items f.number.items f.last.items f.parent.items t.cursor.items 0 x) (sym c.len.ensures.is)
          (IsSearching-filled lists (length lists) f.order.items f.number.items f.last.items f.parent.items t.cursor.items refl r.orders r.unseen r.open_all r.parents r.unread);
      lows = AreLowsSoFar-none lists (length lists) f.number.items f.last.items f.parent.items t.cursor.items t.low.items refl r.open_all r.unread r.unlowered;
    }

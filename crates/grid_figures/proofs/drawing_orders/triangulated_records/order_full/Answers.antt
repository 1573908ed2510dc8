use Rattle.std.proofs.Common.{ℕ, ◌<◌, List, length, get_or, sym, subst}
use Rattle.map_theory.specs.Maps.{HasDart}
use Rattle.grid_figures.proofs.CompletionLemmas.{neighbour_in_completed, full_completion}
use Rattle.grid_figures.proofs.drawing_orders.triangulated_records.order_full.Goals as goal

pub bounds-list-0 : goal.bounds-list-0
bounds-list-0 c = subst (λ (us : List ℕ). 0 < length us) (sym c.list.ensures) (neighbour_in_completed c.args.input.now.lists.now c.requires)

pub order_lists-requires-clause-base : goal.order_lists-requires-clause-base
order_lists-requires-clause-base c =
    subst (λ (us : List ℕ). HasDart c.args.input.now.lists.now 0 (get_or us 0 0)) (sym c.list.ensures) (full_completion c.args.input.now.lists.now c.requires).base.dart

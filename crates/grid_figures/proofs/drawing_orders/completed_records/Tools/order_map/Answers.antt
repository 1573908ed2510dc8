-- The lists of the map are those given.
use Rattle.std.proofs.Common.{ap, sym, subst, ◌∙◌, refl}
use Rattle.map_lists.specs.Lists.{Lists}
use Rattle.map_theory.specs.Maps.{IsSimpleMap}
use Rattle.plane_laws.specs.MapEditsCompleted.{IsExtended}
use Rattle.grid_figures.specs.Orders.{IsBaseTo, lists_by}
use Rattle.grid_figures.proofs.CompletionLemmas.{base_of_choice}
use Rattle.grid_figures.proofs.drawing_orders.completed_records.Tools.order_map.Goals as goal

pub complete_map-requires-clause-plane : goal.complete_map-requires-clause-plane
complete_map-requires-clause-plane c = rw c.requires.lists c.requires.plane

pub complete_map-requires-clause-some : goal.complete_map-requires-clause-some
complete_map-requires-clause-some c = rw c.requires.lists c.requires.some

pub complete_map-requires-clause-parts : goal.complete_map-requires-clause-parts
complete_map-requires-clause-parts c = rw c.requires.lists c.requires.parts

pub order_map-requires-clause-lists : goal.order_map-requires-clause-lists
order_map-requires-clause-lists c =
    c.made_or-own.ensures ∙ ap (lists_by c.in_ok-made.made c.complete_map.new.self.lists) (sym c.requires.lists) ∙ c.in_ok-made.ensures.lists

pub order_map-requires-clause-live : goal.order_map-requires-clause-live
order_map-requires-clause-live c =
    let tri = c.complete_map.new.map in
    let base =
    base_of_choice c.args.map.now tri c.first_dart-first.result c.base_dart-base.result tri.known.is_dart c.first_dart-first.ensures.dart c.in_ok-made.ensures.ids c.base_dart-base.ensures.given c.base_dart-base.ensures.least c.first_dart-first.ensures.not_isolated in
    rw base.dart refl

pub returns-clause-order : goal.returns-clause-order
returns-clause-order c =
    let is = c.requires.lists in
    let made = c.in_ok-made.ensures in
    let tri = c.complete_map.new.map in
    let base =
    base_of_choice c.args.map.now tri c.first_dart-first.result c.base_dart-base.result tri.known.is_dart c.first_dart-first.ensures.dart made.ids c.base_dart-base.ensures.given c.base_dart-base.ensures.least c.first_dart-first.ensures.not_isolated in
    record {
      simple = subst IsSimpleMap is c.args.map.now.known.simple;
      triangulation = made.triangulation;
      extended = subst (λ (ls : Lists). IsExtended ls tri.lists) is made.extended;
      to = base.to;
      base = subst (λ (ls : Lists). IsBaseTo ls tri.lists base.to) is base.base_to;
      canonical = c.in_ok-order_map.ensures.order 0 base.to base.dart;
    }

pub returns-clause-lists : goal.returns-clause-lists
returns-clause-lists c = ap (lists_by c.in_ok-made.made c.complete_map.new.self.lists) (sym c.requires.lists) ∙ c.in_ok-made.ensures.lists

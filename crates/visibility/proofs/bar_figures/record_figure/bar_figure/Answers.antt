use Rattle.std.proofs.Common.{◌≡◌, ◌<◌, ℕ, List, length, get_or, subst, sym}
use Rattle.map_lists.specs.Lists.{Lists}
use Rattle.map_theory.specs.Maps.{HasDart}
use Rattle.st_orders.specs.StOrders.{IsStOrder}
use Rattle.conn_parts.specs.BiconnectedMaps.{IsBiconnectedMap}
use Rattle.visibility.specs.Figures.{IsBarFigure}
use Rattle.visibility.proofs.FirstDart.{some_first, first_has, IsStOf-first, IsBarFigure-of}
use Rattle.visibility.proofs.bar_figures.record_figure.bar_figure.Goals as goal

pub first_dart-st-requires : goal.first_dart-st-requires
first_dart-st-requires c = record { biconnected = subst (IsBiconnectedMap 3) (sym c.in_ok-found.ensures.lists) c.in_ok-found.ensures.served }

pub bounds-list-0 : goal.bounds-list-0
bounds-list-0 c = subst (λ (us : List ℕ). 0 < length us) (sym c.list.ensures) (some_first c.args.lists.now c.in_ok-found.ensures.served)

pub st_ranks-requires-clause-dart : goal.st_ranks-requires-clause-dart
st_ranks-requires-clause-dart c = subst (λ (us : List ℕ). HasDart c.args.lists.now 0 (get_or us 0 0)) (sym c.list.ensures) (first_has c.args.lists.now c.in_ok-found.ensures.served)

pub st_ranks-requires-clause-first : goal.st_ranks-requires-clause-first
st_ranks-requires-clause-first c = c.in_ok-found.ensures.search.begins.first (some_first c.args.lists.now c.in_ok-found.ensures.served)

pub st_ranks-requires-clause-second : goal.st_ranks-requires-clause-second
st_ranks-requires-clause-second c =
    subst (λ (us : List ℕ). get_or c.in_ok-found.found.forest.number.items (get_or us 0 0) 0 ≡ 1) (sym c.list.ensures) (c.in_ok-found.ensures.search.begins.second (some_first c.args.lists.now c.in_ok-found.ensures.served))

pub st_ranks-requires-clause-lows : goal.st_ranks-requires-clause-lows
st_ranks-requires-clause-lows c = rw c.deref.ensures.value c.in_ok-found.ensures.search.lows

pub bars_of_ranks-requires-clause-order : goal.bars_of_ranks-requires-clause-order
bars_of_ranks-requires-clause-order c =
    IsStOf-first c.in_ok-found.found.map c.first_dart-st.result.0 c.args.lists.now c.in_ok-rank.rank c.in_ok-found.ensures.lists c.in_ok-found.ensures.served c.first_dart-st.ensures.first
    (subst (λ (us : List ℕ). (at : List ℕ) × IsStOrder c.args.lists.now 0 (get_or us 0 0) at c.in_ok-rank.rank) c.list.ensures c.in_ok-rank.ensures)

pub returns-clause-figure : goal.returns-clause-figure
returns-clause-figure c =
    let map = c.in_ok-found.found.map in
    let st = c.first_dart-st.result.0 in
    let of = IsStOf-first map st c.args.lists.now c.in_ok-rank.rank c.in_ok-found.ensures.lists c.in_ok-found.ensures.served c.first_dart-st.ensures.first
    (subst (λ (us : List ℕ). (at : List ℕ) × IsStOrder c.args.lists.now 0 (get_or us 0 0) at c.in_ok-rank.rank) c.list.ensures c.in_ok-rank.ensures) in
    subst (λ (ls : Lists). IsBarFigure ls c.in_ok-figure.figure) c.in_ok-found.ensures.lists
    (IsBarFigure-of map st c.in_ok-figure.figure c.first_dart-st.ensures.first (λ s t e. let o = of.order s t e in (o.0, c.in_ok-rank.rank, o.1, c.in_ok-figure.ensures)))

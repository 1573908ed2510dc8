-- The search begins with vertex 0 and the first of its list.
use Rattle.std.proofs.Common.{◌≡◌, ◌<◌, ℕ, List, length, get_or, subst, sym}
use Rattle.map_theory.specs.Maps.{HasDart}
use Rattle.visibility.proofs.FirstDart.{some_first, first_has}
use Rattle.pigale_c.proofs.st_numbers.ranked.Goals as goal

pub bounds-list-0 : goal.bounds-list-0
bounds-list-0 c = subst (λ (us : List ℕ). 0 < length us) (sym c.list.ensures) (some_first c.in_ok-lists.lists c.in_ok-found.ensures.served)

pub st_ranks-requires-clause-dart : goal.st_ranks-requires-clause-dart
st_ranks-requires-clause-dart c = subst (λ (us : List ℕ). HasDart c.in_ok-lists.lists 0 (get_or us 0 0)) (sym c.list.ensures) (first_has c.in_ok-lists.lists c.in_ok-found.ensures.served)

pub st_ranks-requires-clause-first : goal.st_ranks-requires-clause-first
st_ranks-requires-clause-first c = c.in_ok-found.ensures.search.begins.first (some_first c.in_ok-lists.lists c.in_ok-found.ensures.served)

pub st_ranks-requires-clause-second : goal.st_ranks-requires-clause-second
st_ranks-requires-clause-second c =
    subst (λ (us : List ℕ). get_or c.in_ok-found.found.forest.number.items (get_or us 0 0) 0 ≡ 1) (sym c.list.ensures) (c.in_ok-found.ensures.search.begins.second (some_first c.in_ok-lists.lists c.in_ok-found.ensures.served))

pub st_ranks-requires-clause-lows : goal.st_ranks-requires-clause-lows
st_ranks-requires-clause-lows c = rw c.deref.ensures.value c.in_ok-found.ensures.search.lows

use Rattle.std.proofs.Common.{◌≡◌, ℕ, get_or, ◌∙◌, subst, arith}
use Rattle.std.proofs.lemmas.List.{get_or_default}
use Rattle.map_theory.specs.Maps.{list_of}
use Rattle.graph_search.specs.UnderWay.{IsLeastFrom}
use Rattle.graph_search.proofs.LowsSoFar.{AreLowsSoFar-read}
use Rattle.graph_search.proofs.TableLemmas.{IsSearching-read}
use Rattle.graph_search.proofs.search_forests.search_steps.Search.go_on.Goals as goal

pub invariant_of-self-clause-lows : goal.invariant_of-self-clause-lows
invariant_of-self-clause-lows c =
    let s = c.args.self.now in
    let place = c.unseen_place-place.result.0 in
    let least = c.unseen_place-place.result.1 in
    let list = list_of s.lists.now s.current in
    let told = rw c.requires.list at c.unseen_place-place.ensures.least in
    let from : c.index.result.now ≡ get_or s.cursor.items s.current 0 = c.index.ensures ∙ get_or_default s.cursor.items s.current c.index.result.now 0 (omega (arith, s.searching.cursors, c.requires.vertex)) in
    let start : c.index-2.result.now ≡ get_or s.low.items s.current 0 = c.index-2.ensures ∙ get_or_default s.low.items s.current c.index-2.result.now 0 (omega (arith, s.lows.lows, c.requires.vertex)) in
    AreLowsSoFar-read s.lists.now s.order.items s.number.items s.last.items s.parent.items s.cursor.items s.low.items s.count s.current s.searching s.lows place least c.requires.vertex
    (subst (λ (x : ℕ). IsLeastFrom list s.number.items (get_or s.cursor.items s.current 0) place x least) start
    (subst (λ (x : ℕ). IsLeastFrom list s.number.items x place c.index-2.result.now least) from told))

pub invariant_of-self-clause-searching : goal.invariant_of-self-clause-searching
invariant_of-self-clause-searching c =
    let s = c.args.self.now in
    let place = c.unseen_place-place.result.0 in
    let told = c.unseen_place-place.ensures in
    let seen = rw c.requires.list at told.seen in
    let from : c.index.result.now ≡ get_or s.cursor.items s.current 0 = c.index.ensures ∙ get_or_default s.cursor.items s.current c.index.result.now 0 (omega (arith, s.searching.cursors, c.requires.vertex)) in
    IsSearching-read s.lists.now s.order.items s.number.items s.last.items s.parent.items s.cursor.items s.count s.current s.searching place c.requires.vertex (rw c.requires.list at told.within) (λ i a b. seen i (omega (arith, a, from)) b)

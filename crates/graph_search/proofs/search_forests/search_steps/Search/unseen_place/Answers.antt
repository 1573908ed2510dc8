use Rattle.std.proofs.Common.{◌≡◌, ◌<◌, ℕ, List, length, get_or, Contains, sym, ap, ◌∙◌, subst, inl, inr, arith}
use Rattle.std.proofs.lemmas.Bool.{cases_eq, cases_lt, false≢true}
use Rattle.std.proofs.lemmas.List.{get_or_default}
use Rattle.std.proofs.lemmas.List.Elements.{Contains-get_or}
use Rattle.graph_search.proofs.LowsSoFar.{IsLeastFrom-more}
use Rattle.graph_search.proofs.search_forests.search_steps.Search.unseen_place.Goals as goal

pub is_unseen-requires : goal.is_unseen-requires
is_unseen-requires c =
    let s = c.args.self.now in
    let list = c.args.list.now in
    let u = get_or list c.loop-i.i 0 in
    s.in_range s.current u (c.requires.vertex, subst (λ (us : List ℕ). Contains us u) c.requires.list (Contains-get_or list c.loop-i.i 0 (omega (arith, c.loop-i-test.true))))

pub index-requires : goal.index-requires
index-requires c =
    let s = c.args.self.now in
    let list = c.args.list.now in
    let u = get_or list c.loop-i.i 0 in
    let within = s.in_range s.current u (c.requires.vertex, subst (λ (us : List ℕ). Contains us u) c.requires.list (Contains-get_or list c.loop-i.i 0 (omega (arith, c.loop-i-test.true)))) in
    omega (arith, within, s.searching.numbers, s.number.ok.0)

pub loop-i-preserved : goal.loop-i-preserved
loop-i-preserved c =
    let s = c.args.self.now in
    let list = c.args.list.now in
    let i = c.loop-i.i in
    let u = get_or list i 0 in
    let in_list : i < length list = omega (arith, c.loop-i-test.true) in
    let within = s.in_range s.current u (c.requires.vertex, subst (λ (us : List ℕ). Contains us u) c.requires.list (Contains-get_or list i 0 in_list)) in
    let read : c.index.result.now ≡ get_or s.number.items u 0 = c.index.ensures ∙ get_or_default s.number.items u c.index.result.now 0 (omega (arith, within, s.searching.numbers)) in
    let seen_now : get_or s.number.items u 0 < length s.lists.now = elim (cases_lt (get_or s.number.items u 0) (length s.lists.now)) [ inl l ↦ l | inr m ↦ absurd (false≢true (sym c.if-is_unseen.false ∙ c.is_unseen.ensures.1 m)) ] in
    record {
      seen = λ k a b. elim (cases_eq k i) [
        | inl e ↦ omega (arith, ap (λ x. get_or s.number.items (get_or list x 0) 0) e, seen_now)
        | inr ne ↦ c.loop-i.invariant.seen k a (omega arith)
      ];
      least = IsLeastFrom-more list s.number.items c.args.from i c.args.start c.loop-i.least c.lesser-least.result in_list (omega (arith, c.lesser-least.ensures, read)) c.loop-i.invariant.least;
    }

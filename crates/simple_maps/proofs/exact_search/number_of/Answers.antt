use Rattle.std.proofs.Common.{◌≡◌, ℕ, List, length, Contains, ap, sym, ◌∙◌, subst, arith}
use Rattle.map_theory.specs.Maps.{list_of, place_of}
use Rattle.map_theory.proofs.DartCounts.{few_darts-simple}
use Rattle.map_theory.proofs.DartLemmas.{place_of-is, not-Contains-from, darts_before_end}
use Rattle.simple_maps.proofs.TableLemmas.{end-within, end-of}
use Rattle.simple_maps.proofs.exact_search.number_of.Goals as goal

pub bounds-ends-v : goal.bounds-ends-v
bounds-ends-v c = end-within c.args.lists.now c.ends.result.now c.args.v c.ends.ensures c.requires.dart.0

pub overflow_sub-start : goal.overflow_sub-start
overflow_sub-start c =
    omega (arith, end-of c.args.lists.now c.ends.result.now c.args.v c.ends.ensures c.requires.dart.0, ap (λ (us : List ℕ). length us) c.list-list.ensures)

pub overflow_add-result : goal.overflow_add-result
overflow_add-result c =
    let lists = c.args.lists.now in
    omega (arith, end-of lists c.ends.result.now c.args.v c.ends.ensures c.requires.dart.0, ap (λ (us : List ℕ). length us) c.list-list.ensures, darts_before_end lists c.args.v, few_darts-simple lists c.facts.ensures c.requires.simple)

pub overflow_cast-result : goal.overflow_cast-result
overflow_cast-result c =
    let lists = c.args.lists.now in
    omega (arith, end-of lists c.ends.result.now c.args.v c.ends.ensures c.requires.dart.0, ap (λ (us : List ℕ). length us) c.list-list.ensures, darts_before_end lists c.args.v, few_darts-simple lists c.facts.ensures c.requires.simple)

pub returns-then-w-u : goal.returns-then-w-u
returns-then-w-u c =
    let lists = c.args.lists.now in
    let list = c.list-list.result.now in
    let place : place_of c.args.u (list_of lists c.args.v) ≡ c.loop-k.k = ap (place_of c.args.u) (sym c.list-list.ensures) ∙ place_of-is c.args.u list c.loop-k.k c.loop-k-test.true c.if-w-u.true c.loop-k.invariant in
    omega (arith, end-of lists c.ends.result.now c.args.v c.ends.ensures c.requires.dart.0, ap (λ (us : List ℕ). length us) c.list-list.ensures, place)

pub unreachable-requires : goal.unreachable-requires
unreachable-requires c =
    subst (λ us. ¬ Contains us c.args.u) c.list-list.ensures (not-Contains-from c.args.u c.list-list.result.now (λ i l. c.loop-k.invariant i (omega (arith, l, c.loop-k-test.false)))) c.requires.dart.1

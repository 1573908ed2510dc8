use Rattle.std.proofs.Common.{◌≡◌, subst, inl, inr, arith}
use Rattle.std.proofs.lemmas.Bool.{cases_lt}
use Rattle.map_theory.specs.Maps.{list_of}
use Rattle.graph_search.specs.Flags.{HasSeparatedChild}
use Rattle.graph_search.proofs.FlagLemmas.{least_separating, none_cut}
use Rattle.graph_search.proofs.list_cuts.least_cut_vertex.searched_cut_vertex.Goals as goal

pub returns-then-has_separated : goal.returns-then-has_separated
returns-then-has_separated c =
    let lists = c.args.lists.now in
    let f = c.args.forest.now in
    least_separating lists c.requires.adjacency f.order.items f.number.items f.last.items f.parent.items c.args.low.now c.requires.forest c.requires.lows c.loop-v.v (omega (arith, c.loop-v-test.true, c.len-v-end.ensures.is)) (rw (c.deref.ensures.value, c.deref-2.ensures.value) at c.if-has_separated.ensures) c.loop-v.invariant

pub loop-v-preserved : goal.loop-v-preserved
loop-v-preserved c = λ u l p. elim (cases_lt u c.loop-v.v) [
  | inl less ↦ c.loop-v.invariant u less p
  | inr most ↦
      let f = c.args.forest.now in
      let e : u ≡ c.loop-v.v = omega (arith, most, l) in
      let none : ¬ HasSeparatedChild f.number.items f.parent.items c.args.low.now c.loop-v.v (list_of c.args.lists.now c.loop-v.v) = rw (c.deref.ensures.value, c.deref-2.ensures.value) at c.if-has_separated.ensures in
      none (subst (λ z. HasSeparatedChild f.number.items f.parent.items c.args.low.now z (list_of c.args.lists.now z)) e p)
]

pub returns : goal.returns
returns c =
    let f = c.args.forest.now in
    none_cut c.args.lists.now c.requires.adjacency f.order.items f.number.items f.last.items f.parent.items c.args.low.now c.requires.forest c.requires.lows (λ v l. c.loop-v.invariant v (omega (arith, l, c.loop-v-test.false, c.loop-v.auto.v-end, c.len-v-end.ensures.is)))

use Rattle.std.proofs.Common.{◌≡◌, ◌≢◌, AllPairs, ℕ, List, sym, subst, ap, ◌∙◌, arith}
use Rattle.map_theory.specs.Maps.{list_of}
use Rattle.embed_graph.specs.Marks.{AreBytes, Adds, Marks}
use Rattle.embed_graph.proofs.MarkLemmas.{AreBytes-none, Marks-none, Marks-more, Marks-unset}
use Rattle.embed_graph.proofs.edge_test.set_lists.Goals as goal

pub loop-v-init : goal.loop-v-init
loop-v-init c =
    subst (λ (body : List ℕ). AreBytes c.args.n body × Marks c.args.lists.now 0 body) (sym c.requires.empty) (AreBytes-none c.args.n, Marks-none c.args.lists.now c.args.n)

pub set_list-requires-clause-bytes : goal.set_list-requires-clause-bytes
set_list-requires-clause-bytes c = c.loop-v.invariant.0

pub set_list-requires-clause-once : goal.set_list-requires-clause-once
set_list-requires-clause-once c =
    let v = c.loop-v.v in
    subst (AllPairs ◌≢◌) (sym (c.list.ensures ∙ ap (λ k. list_of c.args.lists.now k) c.from.ensures)) (c.requires.simple.no_repeat v (omega arith))

pub set_list-requires-clause-unset : goal.set_list-requires-clause-unset
set_list-requires-clause-unset c = Marks-unset c.args.lists.now c.loop-v.v c.loop-v.body c.loop-v.invariant.1

pub loop-v-preserved : goal.loop-v-preserved
loop-v-preserved c =
    let v = c.loop-v.v in (
      c.set_list.ensures.bytes,
      Marks-more c.args.lists.now v c.loop-v.body c.set_list.new.body (omega arith) c.loop-v.invariant.1 (subst (λ (xs : List ℕ). Adds v xs c.loop-v.body c.set_list.new.body) (c.list.ensures ∙ ap (λ k. list_of c.args.lists.now k) c.from.ensures) c.set_list.ensures.adds),
    )

pub returns : goal.returns
returns c =
    let end : c.loop-v.v ≡ c.args.n = omega (arith, c.loop-v-test.false, c.loop-v.auto.v-end) in
    subst (λ (k : ℕ). Marks c.args.lists.now k c.loop-v.body) end c.loop-v.invariant.1

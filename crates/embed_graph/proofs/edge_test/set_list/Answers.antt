use Rattle.std.proofs.Common.{ℕ, List, take, get_or, sym, subst, arith}
use Rattle.std.proofs.lemmas.List.{take_more, take_all}
use Rattle.embed_graph.specs.Marks.{Adds}
use Rattle.embed_graph.proofs.MarkLemmas.{Adds-nil, Adds-more, Adds-unset}
use Rattle.embed_graph.proofs.edge_test.set_list.Goals as goal

pub loop-u-init : goal.loop-u-init
loop-u-init c = (c.requires.bytes, Adds-nil c.args.v c.args.body.now)

pub set_pair-requires-clause-bytes : goal.set_pair-requires-clause-bytes
set_pair-requires-clause-bytes c = c.loop-u.invariant.0

pub set_pair-requires-clause-unset : goal.set_pair-requires-clause-unset
set_pair-requires-clause-unset c =
    Adds-unset c.args.v c.args.list.now c.loop-u.u-index c.args.body.now c.loop-u.body c.requires.once c.loop-u-test.true c.loop-u.invariant.1 c.requires.unset

pub loop-u-preserved : goal.loop-u-preserved
loop-u-preserved c =
    let list = c.args.list.now in
    let i = c.loop-u.u-index in
    let u = get_or list i 0 in (
      c.set_pair.ensures.bytes,
      subst (λ (xs : List ℕ). Adds c.args.v xs c.args.body.now c.set_pair.new.body) (sym (take_more list i 0 c.loop-u-test.true)) (Adds-more c.args.v (take i list) u c.args.body.now c.loop-u.body c.set_pair.new.body c.loop-u.invariant.1 c.set_pair.ensures.adds),
    )

pub returns-clause-bytes : goal.returns-clause-bytes
returns-clause-bytes c = c.loop-u.invariant.0

pub returns-clause-adds : goal.returns-clause-adds
returns-clause-adds c =
    subst (λ (xs : List ℕ). Adds c.args.v xs c.args.body.now c.loop-u.body) (take_all c.loop-u.u-index c.args.list.now (omega arith)) c.loop-u.invariant.1

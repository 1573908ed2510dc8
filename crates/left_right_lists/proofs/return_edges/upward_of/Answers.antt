use Rattle.std.proofs.Common.{◌≡◌, subst, arith}
use Rattle.left_right_lists.proofs.Collected.{AreRisingTo, more_if, rising_more, all_rising_more, AreRising, ordered_if, places_below}
use Rattle.left_right_lists.proofs.SideLemmas.{upward_is}
use Rattle.left_right_lists.proofs.return_edges.upward_of.Goals as goal

pub loop-u-preserved : goal.loop-u-preserved
loop-u-preserved c =
    let few = c.in_ok-tree.ensures.few in
    let l = c.loop-u-test.true in
    record {
      rising =
          rising_more c.args.graph.now c.in_ok-tree.tree.parents.items c.in_ok-tree.tree.depths.items c.loop-v.darts.items c.loop-u.darts.items c.push_if.new.list.items c.loop-v.v c.loop-u.u c.loop-u.invariant.rising
          (more_if c.loop-u.darts.items c.push_if.new.list.items _ c.is_rising-rises.result _ c.in_ok-push_if.ensures c.is_rising-rises.ensures);
      ordered =
          ordered_if c.loop-u.darts.items c.push_if.new.list.items _ c.is_rising-rises.result c.in_ok-push_if.ensures
          (places_below c.args.graph.now c.in_ok-tree.tree.parents.items c.in_ok-tree.tree.depths.items c.loop-v.darts.items c.loop-u.darts.items c.loop-v.v c.loop-u.u (omega arith) (omega (arith, l, c.n-u-end.ensures.count)) c.loop-v.invariant.rising c.loop-u.invariant.rising) c.loop-u.invariant.ordered;
    }

pub loop-v-preserved : goal.loop-v-preserved
loop-v-preserved c =
    let e : c.loop-u.u ≡ c.args.graph.now.n = omega (arith, c.loop-u.auto.u-end, c.loop-u-test.false, c.n-u-end.ensures.count) in
    record {
      rising =
          all_rising_more c.args.graph.now c.in_ok-tree.tree.parents.items c.in_ok-tree.tree.depths.items c.loop-v.darts.items c.loop-u.darts.items c.loop-v.v c.loop-v.invariant.rising
          (subst (AreRisingTo c.args.graph.now c.in_ok-tree.tree.parents.items c.in_ok-tree.tree.depths.items c.loop-v.darts.items c.loop-u.darts.items c.loop-v.v) e c.loop-u.invariant.rising);
      ordered = c.loop-u.invariant.ordered;
    }

pub returns : goal.returns
returns c =
    let e : c.loop-v.v ≡ c.args.graph.now.n = omega (arith, c.loop-v.auto.v-end, c.loop-v-test.false, c.n-v-end.ensures.count) in
    record {
      tree = c.in_ok-tree.ensures;
      darts = upward_is _ _ _ _ _ _ c.in_ok-tree.ensures c.loop-v.darts.items (subst (λ k. AreRising c.args.graph.now c.in_ok-tree.tree.parents.items c.in_ok-tree.tree.depths.items k c.loop-v.darts.items) e c.loop-v.invariant.rising);
      ordered = c.loop-v.invariant.ordered;
    }

use Rattle.std.proofs.Common.{◌≡◌, false, subst, arith}
use Rattle.left_right_lists.specs.Blocks.{AreValues}
use Rattle.left_right_lists.specs.Placing.{is_item_at}
use Rattle.left_right_lists.proofs.Tabled.{values_more}
use Rattle.left_right_lists.proofs.Filled.{order_by}
use Rattle.left_right_lists.proofs.child_edges.TreeVertex.order.Goals as goal

pub loop-u-preserved : goal.loop-u-preserved
loop-u-preserved c = values_more (is_item_at c.args.self.now.rooted.graph.now c.args.self.now.rooted.tree.now c.args.self.now.v) false c.loop-u.free.items _ c.loop-u.u _ c.in_ok-push.ensures.items c.is_item.ensures c.loop-u.invariant

pub returns : goal.returns
returns c =
    let e : c.loop-u.u ≡ c.args.self.now.rooted.graph.now.n = omega (arith, c.loop-u.auto.u-end, c.loop-u-test.false, c.n-n.ensures.count) in
    record {
      marks = c.loop-u.free.items;
      rows = c.args.returned.now;
      tables = record {
        marked = subst (AreValues (is_item_at c.args.self.now.rooted.graph.now c.args.self.now.rooted.tree.now c.args.self.now.v) false c.loop-u.free.items) e c.loop-u.invariant;
        filled = c.requires.returned;
      };
      order = order_by c.args.sides.now c.args.returned.now c.in_ok-us.us.items c.deref.ensures.value c.deref_mut.ensures.value c.in_ok-us.ensures;
    }

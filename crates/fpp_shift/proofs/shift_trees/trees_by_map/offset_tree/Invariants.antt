use Rattle.std.proofs.Common.{◌≡◌, ◌≤◌, length}
use Rattle.canon_order.specs.Orders.{vertices_of}
use Rattle.fpp_shift.proofs.TreeLemmas.{IsTreeTo, AreUsesTo}
use Rattle.fpp_shift.proofs.shift_trees.trees_by_map.offset_tree.Given as goal

abbrev pub invariant-loop-k : goal.invariant-loop-k
invariant-loop-k g l = record {
  grown : IsTreeTo l.tri.lists (vertices_of l.order) l.tree l.k;
  count : length l.tree ≡ length l.fn.tree;
  uses : AreUsesTo l.tri.lists (vertices_of l.order) l.fn.steps l.steps l.k;
  never_falls : l.fn.steps ≤ l.steps;
}

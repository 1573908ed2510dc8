use Rattle.std.proofs.Common.{◌≡◌, ◌+◌, length}
use Rattle.rect_dual.specs.EdgeLabelsTables.{AreFirsts, AreLefts}
use Rattle.rect_dual.proofs.labels.horizontal_edges.fill_tables.Given as goal

abbrev pub invariant-loop-k : goal.invariant-loop-k
invariant-loop-k l = record {
  first_size : length l.first ≡ length l.rows + 3;
  left_size : length l.left ≡ length l.rows + 3;
  firsts : AreFirsts l.rows l.k l.first;
  lefts : AreLefts l.rows l.places l.k l.left;
}

use Rattle.std.proofs.Common.{◌≡◌, length}
use Rattle.rect_dual.specs.EdgeLabelsTables.{end_by}
use Rattle.rect_dual.specs.Labellings.{AreLabelsOf}
use Rattle.rect_dual.proofs.labels.labelled_darts.Ranked.dart_labels.Given as goal

abbrev pub invariant-loop-d : goal.invariant-loop-d
invariant-loop-d l = record {
  count : length l.labels.items ≡ l.d;
  labels_are : AreLabelsOf l.self.map.now l.self.frame.now.left.0 l.self.frame.now.top.0 l.self.frame.now.right.0 l.self.frame.now.bottom.0 (end_by l.self.tables.now.first.items l.self.tables.now.left.items l.self.ranks.now) l.d l.labels.items;
}

use Rattle.std.proofs.Common.{◌∷◌, [], List, length, ap, arith, length-append}
use Rattle.rect_dual.specs.declared.labels.label_types.Label.{Label}
use Rattle.rect_dual.specs.EdgeLabelsTables.{end_by}
use Rattle.rect_dual.proofs.DartLemmas.{AreLabelsOf-more}
use Rattle.rect_dual.proofs.labels.labelled_darts.Ranked.dart_labels.Goals as goal

pub loop-d-preserved : goal.loop-d-preserved
loop-d-preserved c =
    let h = c.loop-d.invariant in
    let f = c.args.self.now.frame.now in
    let tables = c.args.self.now.tables.now in
    let e = c.in_ok-push.ensures.items in
    record {
      count = omega (arith, ap (λ (us : List Label). length us) e, length-append c.loop-d.labels.items (c.dart_label.result ∷ []), h.count);
      labels_are = AreLabelsOf-more c.args.self.now.map.now f.left.0 f.top.0 f.right.0 f.bottom.0 (end_by tables.first.items tables.left.items c.args.self.now.ranks.now) c.loop-d.d c.loop-d.labels.items c.push.new.self.items c.dart_label.result h.count h.labels_are e c.dart_label.ensures;
    }

use Rattle.std.proofs.Common.{sym, ap₂, ◌∙◌, subst₂, arith, rules}
use Rattle.std.proofs.lemmas.Bool.{true≢false}
use Rattle.std.proofs.lemmas.Option.{get_or_from_slice_get}
use Rattle.vertex_rounds.specs.Rounds.{dart_of}
use Rattle.vertex_rounds.proofs.DartIds.{dart_of-live, has_dart}
use Rattle.half_edges.specs.Map.{IsLive, dart_at}
use Rattle.rect_dual.specs.declared.labels.label_types.Label.TheVariants.{Frame}
use Rattle.rect_dual.specs.EdgeLabelsTables.{end_at, end_by}
use Rattle.rect_dual.specs.Labellings.{label_of, IsLabelOf}
use Rattle.rect_dual.proofs.DartLemmas.{tail_is, head_is, IsLabelOf-frame, IsLabelOf-inner}
use Rattle.rect_dual.proofs.labels.labelled_darts.Ranked.dart_label.Goals as goal

pub get-requires : goal.get-requires
get-requires c =
    let map = c.args.self.now.map.now in
    let d = c.args.d.0 in
    let live : IsLive map d = search rules in
    let x = dart_of map d in
    let same = tail_is (dart_at map d) x.0 x.1 c.tail-u.result.0 (dart_of-live map d live) c.tail-u.ensures in
    omega (arith, same, (has_dart map c.args.self.now.map.now.known d live).0, c.args.self.now.count)

pub get-requires-2 : goal.get-requires-2
get-requires-2 c =
    let map = c.args.self.now.map.now in
    let d = c.args.d.0 in
    let live : IsLive map d = search rules in
    let x = dart_of map d in
    let same = head_is (dart_at map d) x.0 x.1 c.head-v.result.0 (dart_of-live map d live) c.head-v.ensures in
    omega (arith, same, c.args.self.now.map.now.known.simple.in_range x.0 x.1 (has_dart map c.args.self.now.map.now.known d live), c.args.self.now.count)

pub returns-then-is_frame_edge : goal.returns-then-is_frame_edge
returns-then-is_frame_edge c = λ u v at.
    let s = c.args.self.now in
    let f = s.frame.now in
    let map = s.map.now in
    let end = end_by s.tables.now.first.items s.tables.now.left.items s.ranks.now in
    subst₂ (λ a b. IsLabelOf f.left.0 f.top.0 f.right.0 f.bottom.0 end a b Frame) (tail_is (dart_at map c.args.d.0) u v _ at c.tail-u.ensures) (head_is (dart_at map c.args.d.0) u v _ at c.head-v.ensures)
    (IsLabelOf-frame map f.left.0 f.top.0 f.right.0 f.bottom.0 end c.tail-u.result.0 c.head-v.result.0 (c.is_frame_edge.ensures.0 c.if-is_frame_edge.true))

pub returns : goal.returns
returns c = λ u v at.
    let s = c.args.self.now in
    let f = s.frame.now in
    let map = s.map.now in
    let first = s.tables.now.first.items in
    let left = s.tables.now.left.items in
    let end = end_by first left s.ranks.now in
    let label = c.inner_label.result in
    subst₂ (λ a b. IsLabelOf f.left.0 f.top.0 f.right.0 f.bottom.0 end a b label) (tail_is (dart_at map c.args.d.0) u v _ at c.tail-u.ensures) (head_is (dart_at map c.args.d.0) u v _ at c.head-v.ensures)
    (IsLabelOf-inner map f.left.0 f.top.0 f.right.0 f.bottom.0 end c.tail-u.result.0 c.head-v.result.0 label
    (λ g. true≢false (sym (c.is_frame_edge.ensures.1 g) ∙ c.if-is_frame_edge.false))
    (c.inner_label.ensures ∙ ap₂ (λ i j. label_of (end_at first left i j)) (sym (get_or_from_slice_get s.ranks.now c.tail-u.result.0 c.get.result 0 c.get.ensures)) (sym (get_or_from_slice_get s.ranks.now c.head-v.result.0 c.get-2.result 0 c.get-2.ensures))))

use Rattle.std.proofs.Common.{ℕ, ◌∙◌, ap, rules, w32, FitsSigned}
use Rattle.std.specs.Option.{option_map}
use Rattle.std.proofs.lemmas.Int.{to_z-of_z}
use Rattle.map_theory.specs.Maps.{Dart, follows}
use Rattle.half_edges.specs.Map.{next_dart}
use Rattle.vertex_rounds.specs.Rounds.{dart_of}
use Rattle.vertex_rounds.proofs.DartIds.{dart_of-live, dart_of-is, tail_is, head_is, next_head}
use Rattle.drawings.specs.Bars.{column_between}
use Rattle.bar_check.proofs.TurnLemmas.{break_is}
use Rattle.bar_check.proofs.drawing.BarDrawing.is_break.Goals as goal

pub returns : goal.returns
returns c =
    let map = c.args.self.now.map.now in
    let fig = c.args.self.now.fig.now in
    let d = c.args.d.0 in
    let v = (dart_of map d).0 in
    let u = (dart_of map d).1 in
    let next = next_head map c.args.self.now.map.now.known d c.next-next.result.0 c.head-2.result.0 c.requires.live c.next-next.ensures c.head-2.ensures in
    let tail = tail_is map d c.tail.result.0 c.requires.live c.tail.ensures in
    let head = head_is map d c.head.result.0 c.requires.live c.head.ensures in
    let behind = dart_of-is map c.next-next.result.0 (v, follows map.lists v u) (c.next-next.ensures ∙ ap (option_map (next_dart map.lists)) (dart_of-live map d c.requires.live)) in
    let x = c.column_at-x.ensures ∙ (ap (λ (s : ℕ). column_between map.lists fig s u) tail ∙ ap (λ (t : ℕ). column_between map.lists fig c.tail.result.0 t) head) in
    let z = c.column_at-z.ensures ∙ (ap (λ (y : Dart). column_between map.lists fig y.0 y.1) behind ∙ (ap (λ (s : ℕ). column_between map.lists fig s (follows map.lists v u)) tail ∙ ap (λ (t : ℕ). column_between map.lists fig c.tail.result.0 t) next.0)) in
    let f : FitsSigned w32 c.column_at-x.result = search rules in
    let g : FitsSigned w32 c.column_at-z.result = search rules in
    let is = simp to_z-of_z at c.is_earlier.ensures in
    break_is map.lists fig v u c.tail.result.0 c.head.result.0 c.head-2.result.0 tail head next.0 c.is_earlier.result (is map.lists x z)

use Rattle.std.proofs.Common.{◌≡◌, Some, option_map, unwrap_or, ℕ, sym, ap, ◌∙◌}
use Rattle.map_theory.specs.Maps.{Dart, follows, face_step}
use Rattle.half_edges.specs.Map.{Map, dart_at, next_dart}
use Rattle.rect_orders.proofs.Closed.{turn_d, turn_p, turn_t}
use Rattle.rect_orders.proofs.rect_order.outer_frame.frame_of.Goals as goal

first_of : (map : Map) (e r v u : ℕ) → option_map (λ (z : Dart). z.0) (dart_at map e) ≡ Some r → dart_at map e ≡ Some (v, u) → r ≡ v
first_of map e r v u is at = ap (λ o. unwrap_or o 0) (sym is ∙ ap (option_map (λ (z : Dart). z.0)) at)

second_of : (map : Map) (e r v u : ℕ) → option_map (λ (z : Dart). z.1) (dart_at map e) ≡ Some r → dart_at map e ≡ Some (v, u) → r ≡ u
second_of map e r v u is at = ap (λ o. unwrap_or o 0) (sym is ∙ ap (option_map (λ (z : Dart). z.1)) at)

pub returns : goal.returns
returns c = λ s d p t at h.
    let map = c.args.map.now in
    let lists = map.lists in
    let at1 : dart_at map c.face_step-along.result.0 ≡ Some (d, p) = c.face_step-along.ensures ∙ (ap (option_map (face_step lists)) at ∙ ap (λ z. Some (d, z)) (turn_d lists s d p t h)) in
    let at2 : dart_at map c.face_step-behind.result.0 ≡ Some (p, t) = c.face_step-behind.ensures ∙ (ap (option_map (face_step lists)) at1 ∙ ap (λ z. Some (p, z)) (turn_p lists s d p t h)) in
    let at3 : dart_at map c.face_step-round.result.0 ≡ Some (t, s) = c.face_step-round.ensures ∙ (ap (option_map (face_step lists)) at2 ∙ ap (λ z. Some (t, z)) (turn_t lists s d p t h)) in
    let at4 : dart_at map c.next.result.0 ≡ Some (t, follows lists t s) = c.next.ensures ∙ ap (option_map (next_dart lists)) at3 in
    record {
      left_is = first_of map c.args.base.0 c.tail.result.0 s d c.tail.ensures at;
      top_is = second_of map c.args.base.0 c.head.result.0 s d c.head.ensures at;
      right_is = second_of map c.face_step-along.result.0 c.head-2.result.0 d p c.head-2.ensures at1;
      bottom_is = second_of map c.face_step-behind.result.0 c.head-3.result.0 p t c.head-3.ensures at2;
      inner_is = second_of map c.next.result.0 c.head-4.result.0 t (follows lists t s) c.head-4.ensures at4;
    }

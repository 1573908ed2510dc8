-- The walk of the outer face, where that is a quadrangle.
use Rattle.std.proofs.Common.{◌≡◌, ℕ, Some, sym, ap, subst, ◌∙◌, arith}
use Rattle.std.specs.Option.{option_map}
use Rattle.map_lists.specs.Lists.{Lists}
use Rattle.map_theory.specs.Maps.{Dart, follows, face_step}
use Rattle.half_edges.specs.Map.{Map, dart_at, first_dart}
use Rattle.drawings.specs.Duals.{HasFrame, top_vertex, right_vertex, bottom_vertex}
use Rattle.drawings.specs.Frames.{AreFour, IsRoundOfFour}

-- a dart after the face step
stepped : (map : Map) (lists : Lists) (d e x y : ℕ) → dart_at map e ≡ option_map (face_step lists) (dart_at map d) → dart_at map d ≡ Some (x, y) → dart_at map e ≡ Some (y, follows lists y x)
stepped map lists d e x y step is = step ∙ ap (option_map (face_step lists)) is

-- the head that a call answers
headed : (map : Map) (d x y r : ℕ) → option_map (λ (e : Dart). e.1) (dart_at map d) ≡ Some r → dart_at map d ≡ Some (x, y) → r ≡ y
headed map d x y r head is = let t : Some y ≡ Some r = sym (ap (option_map (λ (e : Dart). e.1)) is) ∙ head in cc

abbrev HeadOf : Map → ℕ → ℕ → Type 0
HeadOf map d r = option_map (λ (e : Dart). e.1) (dart_at map d) ≡ Some r

abbrev Follows : Map → ℕ → ℕ → Type 0
Follows map d e = dart_at map e ≡ option_map (face_step map.lists) (dart_at map d)

four_of : (lists : Lists) → HasFrame lists → AreFour (top_vertex lists) (right_vertex lists) (bottom_vertex lists)
four_of lists h = record {
  first = h.distinct 0 1 0 (omega arith) (omega arith);
  second = h.distinct 0 2 0 (omega arith) (omega arith);
  third = h.distinct 0 3 0 (omega arith) (omega arith);
  next = h.distinct 1 2 0 (omega arith) (omega arith);
  across = h.distinct 1 3 0 (omega arith) (omega arith);
  last = h.distinct 2 3 0 (omega arith) (omega arith);
}

-- the heads of four steps are round a quadrangle
pub IsRoundOfFour-frame : (map : Map) (first second third fourth fifth d p q s e : ℕ) → dart_at map first ≡ Some (first_dart map.lists 0) → Follows map first second → Follows map second third → Follows map third fourth → Follows map fourth fifth
    → HeadOf map first d → HeadOf map second p → HeadOf map third q → HeadOf map fourth s → HeadOf map fifth e → HasFrame map.lists → IsRoundOfFour d p q s e
IsRoundOfFour-frame map first second third fourth fifth d p q s e begins to_second to_third to_fourth to_fifth hd hp hq hs he h =
    let lists = map.lists in
    let top = top_vertex lists in
    let right = right_vertex lists in
    let bottom = bottom_vertex lists in
    let back = follows lists bottom right in
    let a : dart_at map first ≡ Some (0, top) = begins in
    let b : dart_at map second ≡ Some (top, right) = stepped map lists first second 0 top to_second a in
    let c : dart_at map third ≡ Some (right, bottom) = stepped map lists second third top right to_third b in
    let f : dart_at map fourth ≡ Some (bottom, back) = stepped map lists third fourth right bottom to_fourth c in
    let g : dart_at map fifth ≡ Some (back, follows lists back bottom) = stepped map lists fourth fifth bottom back to_fifth f in
    let ed = headed map first 0 top d hd a in
    let ep = headed map second top right p hp b in
    let eq = headed map third right bottom q hq c in
    let es = headed map fourth bottom back s hs f in
    let ee = headed map fifth back (follows lists back bottom) e he g in
    record {
      back = es ∙ h.fourth;
      again = ee ∙ (ap (λ x. follows lists x bottom) h.fourth ∙ (h.again ∙ sym ed));
      four = subst (λ x. AreFour x p q) (sym ed) (subst (λ x. AreFour top x q) (sym ep) (subst (λ x. AreFour top right x) (sym eq) (four_of lists h)));
    }

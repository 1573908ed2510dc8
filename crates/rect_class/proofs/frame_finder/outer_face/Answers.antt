use Rattle.std.proofs.Common.{ℕ, List, length, get_or, sym, ap, subst, arith}
use Rattle.map_theory.specs.Maps.{HasDart}
use Rattle.map_theory.proofs.DartLemmas.{HasDart-at}
use Rattle.rect_class.proofs.Counted.{frame_of_turns}
use Rattle.rect_class.proofs.frame_finder.outer_face.Goals as goal

pub returns-then-bottom-top : goal.returns-then-bottom-top
returns-then-bottom-top c =
    let lists = c.args.lists.now in
    let top = get_or c.list-first.result.now 0 0 in
    let dart : HasDart lists 0 top = subst (λ (us : List ℕ). HasDart lists 0 (get_or us 0 0)) (sym c.list-first.ensures) (HasDart-at lists 0 0 0 c.requires.some (omega (arith, c.if-first-eq0.false, ap length c.list-first.ensures))) in
    frame_of_turns lists c.requires.simple top c.next_on_face-right.result.0 c.next_on_face-bottom.result.0 c.next_on_face-s.result.0 c.next_on_face-e.result.0 (ap (λ (us : List ℕ). get_or us 0 0) c.list-first.ensures) dart
    c.next_on_face-right.ensures.next c.next_on_face-right.ensures.dart c.next_on_face-bottom.ensures.next c.next_on_face-bottom.ensures.dart c.next_on_face-s.ensures.next c.next_on_face-s.ensures.dart c.next_on_face-e.ensures.next
    (record { back = c.if-s-eq0.true; again = c.if-e-top.true; across = c.if-right-ne0.true; apart = c.if-bottom-top.true })

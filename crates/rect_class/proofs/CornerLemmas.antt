-- Neighbours of two adjacent vertices that stand next to the one in the list of the other: where all edges are so, and all faces off the frame are triangles, none separates.
use Rattle.std.proofs.Common.{◌≡◌, ◌≢◌, ◌⊎◌, ◌+◌, ℕ, List, ◌<◌, ◌≤◌, length, get_or, sym, ap, ◌∙◌, subst, inl, inr, ⊎_elim, arith}
use Rattle.std.specs.List.{AllPairs}
use Rattle.std.proofs.lemmas.Bool.{cases_lt}
use Rattle.std.proofs.lemmas.Bool.Decides.{nat_tests}
use Rattle.std.proofs.lemmas.List.Elements.{All-contains, All-from_get_or}
use Rattle.map_lists.specs.Lists.{Lists}
use Rattle.map_theory.specs.Maps.{IsSimpleMap, HasDart, list_of, follows, entry_after}
use Rattle.map_theory.proofs.DartLemmas.{place_after, entry_after-place, place_of-get_or}
use Rattle.plane_peeling.specs.Restricted.{IsFaceOfThree}
use Rattle.plane_peeling.proofs.OuterCycles.{IsFaceOfThree-turned, IsFaceOfThree-triangle}
use Rattle.drawings.specs.Duals.{HasFrame, top_vertex, right_vertex, bottom_vertex}
use Rattle.drawings.specs.Frames.{IsFrame}
use Rattle.rect_class.specs.RectMaps.{IsOuter, HasTriangles, NoneSeparating}
use Rattle.rect_class.specs.Loops.{IsFrameDart}
use Rattle.rect_class.specs.Corners.{IsSide, IsClosedOver, AreClosed, ComesBefore, HasDiagonal}
use Rattle.rect_class.proofs.FrameDarts.{IsOuter-frame}

-- the entry after the one at a place
pub entry_after-at : (us : List ℕ) (k : ℕ) → AllPairs ◌≢◌ us → k < length us → entry_after (get_or us k 0) us ≡ get_or us (place_after (length us) k) 0
entry_after-at us k distinct l =
    let p = place_of-get_or us k 0 distinct l in
    entry_after-place (get_or us k 0) us 0 (omega (arith, p, l)) ∙ ap (λ n. get_or us (place_after (length us) n) 0) p

pub place_after-next : (n k : ℕ) → k + 1 < n → place_after n k ≡ k + 1
place_after-next n k l = grind (arith, nat_tests)

pub place_after-end : (n k : ℕ) → n ≤ k + 1 → place_after n k ≡ 0
place_after-end n k l = grind (arith, nat_tests)

-- common neighbours that are the entries at both sides of a third one
pub IsClosedOver-sides : (lists : Lists) (marks : List ℕ) (v u last next : ℕ) → ((j : ℕ) → j < length (list_of lists v) → get_or marks (get_or (list_of lists v) j 0) 0 ≡ v + 1)
    → entry_after last (list_of lists v) ≡ u → next ≡ entry_after u (list_of lists v) → ((j : ℕ) → j < length (list_of lists u) → IsSide marks (v + 1) last next (get_or (list_of lists u) j 0)) → IsClosedOver lists v u
IsClosedOver-sides lists marks v u last next stamped before after sides w (lv, at_v) (lu, at_u) =
    let us = list_of lists v in
    let ws = list_of lists u in
    let stamp = All-contains (λ x. get_or marks x 0 ≡ v + 1) us w (All-from_get_or (λ x. get_or marks x 0 ≡ v + 1) us 0 stamped) at_v in
    let side = All-contains (IsSide marks (v + 1) last next) ws w (All-from_get_or (IsSide marks (v + 1) last next) ws 0 sides) at_u stamp in
    ⊎_elim (λ e. inr (ap (λ x. entry_after x us) e ∙ before)) (λ e. inl (sym (e ∙ after))) side

-- of two vertices one comes before the other
ComesBefore-one : (degrees : List ℕ) (u v : ℕ) → u ≢ v → ComesBefore degrees u v ⊎ ComesBefore degrees v u
ComesBefore-one degrees u v n = grind (arith, get_or, cases_lt)

-- each edge is closed at one end, where each vertex is over those that come before it
pub AreClosed-before : (lists : Lists) (degrees : List ℕ) → IsSimpleMap lists
    → ((v : ℕ) → v < length lists → (k : ℕ) → k < length (list_of lists v) → ComesBefore degrees (get_or (list_of lists v) k 0) v → IsClosedOver lists v (get_or (list_of lists v) k 0)) → AreClosed lists
AreClosed-before lists degrees simple each v u d =
    let over : (v u : ℕ) → HasDart lists v u → ComesBefore degrees u v → IsClosedOver lists v u =
    λ v u h. All-contains (λ x. ComesBefore degrees x v → IsClosedOver lists v x) (list_of lists v) u (All-from_get_or (λ x. ComesBefore degrees x v → IsClosedOver lists v x) (list_of lists v) 0 (each v h.0)) h.1 in
    ⊎_elim (λ b. inl (over v u d b)) (λ b. inr (over u v (simple.both_ways v u d) b)) (ComesBefore-one degrees u v (simple.no_loop v u d))

-- no edge joins two of a frame across it, by the numbers of the frame
pub uncrossed_frame : (lists : Lists) (d p q : ℕ) → IsFrame lists d p q → ¬ HasDiagonal lists 0 d p q → ¬ HasDiagonal lists 0 (top_vertex lists) (right_vertex lists) (bottom_vertex lists)
uncrossed_frame lists d p q frame none =
    subst (λ x. ¬ HasDiagonal lists 0 x (right_vertex lists) (bottom_vertex lists)) frame.top
    (subst (λ x. ¬ HasDiagonal lists 0 d x (bottom_vertex lists)) frame.right (subst (λ x. ¬ HasDiagonal lists 0 d p x) frame.bottom none))

module _ (lists : Lists) (simple : IsSimpleMap lists) (frame : HasFrame lists) (faces : HasTriangles lists) (uncrossed : ¬ HasDiagonal lists 0 (top_vertex lists) (right_vertex lists) (bottom_vertex lists)) where
  -- a dart of the frame leads to a vertex that is not joined to the next but one
  framed_apart : (u v : ℕ) → IsFrameDart (top_vertex lists) (right_vertex lists) (bottom_vertex lists) u v → ¬ HasDart lists u (follows lists v u)
  framed_apart u v (inl (inl (eu, ev))) d = uncrossed (inl (subst (λ x. HasDart lists x (right_vertex lists)) eu (subst (HasDart lists u) (ap (λ x. follows lists x u) ev ∙ ap (follows lists (top_vertex lists)) eu) d)).1)
  framed_apart u v (inl (inr (eu, ev))) d =
      uncrossed (inr (subst (λ x. HasDart lists x (bottom_vertex lists)) eu (subst (HasDart lists u) (ap (λ x. follows lists x u) ev ∙ ap (follows lists (right_vertex lists)) eu) d)).1)
  framed_apart u v (inr (inl (eu, ev))) d =
      uncrossed (inl (simple.both_ways (right_vertex lists) 0 (subst (λ x. HasDart lists x 0) eu (subst (HasDart lists u) (ap (λ x. follows lists x u) ev ∙ ap (follows lists (bottom_vertex lists)) eu ∙ frame.fourth) d))).1)
  framed_apart u v (inr (inr (eu, ev))) d =
      uncrossed (inr (simple.both_ways (bottom_vertex lists) (top_vertex lists) (subst (λ x. HasDart lists x (top_vertex lists)) eu (subst (HasDart lists u) (ap (λ x. follows lists x u) ev ∙ ap (follows lists 0) eu ∙ frame.again) d))).1)

  -- a third edge over two that follow each other at a vertex ends a face
  corner : (v u w : ℕ) → HasDart lists v u → HasDart lists u w → follows lists v u ≡ w → IsFaceOfThree lists u v w
  corner v u w vu uw e =
      let uv = simple.both_ways v u vu in
      let inner : ¬ IsOuter lists u v = λ o. framed_apart u v ((IsOuter-frame lists simple frame u v uv).0 o) (subst (HasDart lists u) (sym e) uw) in
      subst (IsFaceOfThree lists u v) e (IsFaceOfThree-triangle lists u v uv (faces u v uv inner))

  -- so none separates where each edge is closed at one end
  pub NoneSeparating-closed : AreClosed lists → NoneSeparating lists
  NoneSeparating-closed closed a b c s =
      elim (closed a b s.low) [
        | inl over ↦ elim (over c s.across s.high) [
          | inl e ↦ s.no_face (inr (corner a b c s.low s.high e))
          | inr e ↦ s.no_face (inl (IsFaceOfThree-turned lists c a b simple (corner a c b s.across (simple.both_ways b c s.high) e)))
        ]
        | inr over ↦ elim (over c s.high s.across) [
          | inl e ↦ s.no_face (inl (corner b a c (simple.both_ways a b s.low) s.across e))
          | inr e ↦ s.no_face (inr (IsFaceOfThree-turned lists c b a simple (corner b c a s.high (simple.both_ways a c s.across) e)))
        ]
      ]

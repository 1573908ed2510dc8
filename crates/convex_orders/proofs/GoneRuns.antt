-- The edges along the contour whose faces a removal takes off are those from its first place to its end.
use Rattle.std.proofs.Common.{◌≡◌, ℕ, suc, ◌+◌, ◌-◌, ◌<◌, ◌≤◌, Bool, true, false, List, length, sym, ap, ap₂, ◌∙◌, inl, inr, arith}
use Rattle.std.proofs.lemmas.Bool.{cases_Bool, cases_eq}
use Rattle.map_lists.specs.Lists.{Lists}
use Rattle.map_theory.specs.Maps.{IsSimpleMap}
use Rattle.convex_peeling.specs.Contours.{face_of, IsContour}
use Rattle.convex_peeling.specs.Removals.{Removal, IsTakenOff}
use Rattle.convex_peeling.proofs.Removed.{gone_within, first_lt, stays_dead, gone_from}
use Rattle.convex_orders.specs.FaceNumbers.{entry}
use Rattle.convex_orders.specs.Contours.{number_at, AreInner}
use Rattle.convex_orders.specs.Shown.{is_set, AreMarks, IsListOf}
use Rattle.convex_orders.specs.Splits.{IsGoneRun}

module _ (lists own : Lists) (alive : ℕ → Bool) (w : ℕ → ℕ) (r : ℕ) (o : Removal) (simple : IsSimpleMap lists) (contour : IsContour lists alive w r) (off : IsTakenOff lists alive w r o) (next : IsContour lists o.alive o.contour o.places) where
  -- an edge that stays has its face
  stays_low : (i : ℕ) → suc i ≤ o.first → o.alive (face_of lists (w (suc i)) (w i)) ≡ true
  stays_low i l =
      let lt = first_lt lists alive w r o off in
      let inside = off.within in
      ap o.alive (ap₂ (face_of lists) (sym (off.before (suc i) l)) (sym (off.before i (omega arith)))) ∙ (next.edge i (omega arith)).inside

  stays_high : (i : ℕ) → o.first + o.vertices + 1 ≤ i → i < r → o.alive (face_of lists (w (suc i)) (w i)) ≡ true
  stays_high i l m =
      let q : ℕ = i - (o.first + o.vertices + 1) in
      let z : o.first + o.vertices + 1 + q ≡ i = omega arith in
      let z' : o.first + o.vertices + 1 + suc q ≡ suc i = omega arith in
      let y : o.last + suc q ≡ suc (o.last + q) = omega arith in
      let two : w (suc i) ≡ o.contour (suc (o.last + q)) = sym (ap o.contour (sym y) ∙ (off.behind (suc q) ∙ ap w z')) in
      ap o.alive (ap₂ (face_of lists) two (sym (off.behind q ∙ ap w z))) ∙ (next.edge (o.last + q) (omega arith)).inside

  -- and one that goes has not
  goes : (i : ℕ) → o.first ≤ i → i < o.first + o.vertices + 1 → o.alive (face_of lists (w (suc i)) (w i)) ≡ false
  goes i l m = elim (cases_Bool (o.alive (face_of lists (w (suc i)) (w i)))) [
    | inr f ↦ f
    | inl t ↦
        let some = off.some_vertex in
        let edge = contour.edge i (omega arith) in
        let found = next.only (w i) (w (suc i)) (record { dart = edge.dart; outside = stays_dead lists alive w r o off (face_of lists (w i) (w (suc i))) edge.outside; inside = t }) in
        let p_in = found.1 in
        elim (cases_eq i o.first) [
          | inr ne ↦
              let q : ℕ = i - suc o.first in
              let z : i ≡ suc (o.first + q) = omega arith in
              absurd (gone_from lists alive w r o off contour q found.0 (omega arith) p_in (found.2 ∙ ap w z))
          | inl e ↦
              let z : suc i ≡ suc (o.first + 0) = omega arith in
              elim (cases_eq found.0 o.places) [
                | inr ne ↦ absurd (gone_from lists alive w r o off contour 0 (suc found.0) some (omega arith) (found.3 ∙ ap w z))
                | inl last ↦ absurd (gone_from lists alive w r o off contour 0 0 some (omega arith) (sym next.round ∙ (ap (λ k. o.contour (suc k)) (sym last) ∙ (found.3 ∙ ap w z))))
              ]
        ]
  ]

  pub gone_run : (marks : List Bool) (ws inner : List ℕ) → AreMarks lists own marks o.alive → IsListOf ws w r → AreInner lists own ws inner → IsGoneRun (number_at inner ws) marks (length ws) o.first (o.first + o.vertices + 1)
  gone_run marks ws inner are list numbers =
      let gone = gone_within lists alive w r o off in
      record {
        order = omega arith;
        within = omega arith;
        gone = λ i l m. mark i (omega arith) ∙ goes i l m;
        low = λ i e. mark i (omega arith) ∙ stays_low i (omega arith);
        high = λ l. mark (o.first + o.vertices + 1) (omega arith) ∙ stays_high (o.first + o.vertices + 1) (omega arith) (omega arith);
      }
    where
      mark : (i : ℕ) → i < r → is_set marks (number_at inner ws i) ≡ o.alive (face_of lists (w (suc i)) (w i))
      mark i l =
          let at : number_at inner ws i ≡ entry lists own (w (suc i)) (w i) = numbers.numbers i (omega arith) ∙ ap₂ (entry lists own) (list.each (suc i) l) (list.each i (omega arith)) in
          ap (is_set marks) at ∙ are (w (suc i)) (w i) (simple.both_ways (w i) (w (suc i)) (contour.edge i (omega arith)).dart)

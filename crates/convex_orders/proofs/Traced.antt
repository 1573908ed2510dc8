-- The contour as it is gone along: one place more, and that it comes to the end.
use Rattle.std.proofs.Common.{◌≡◌, ◌≢◌, ℕ, suc, ◌<◌, ◌≤◌, Bool, true, List, [], ◌∷◌, ◌++◌, length, slice_index, get_or, refl, sym, ap, ◌∙◌, subst, inl, inr, arith}
use Rattle.std.proofs.lemmas.Bool.{cases_eq}
use Rattle.std.proofs.lemmas.List.{length-append, get_or_append_left, get_or_push}
use Rattle.classes.proofs.Counting.{count_below_into, count_below_all}
use Rattle.map_lists.specs.Lists.{Lists}
use Rattle.map_theory.specs.Maps.{IsSimpleMap}
use Rattle.convex_peeling.specs.Contours.{IsContour}
use Rattle.convex_orders.specs.FaceNumbers.{AreFaceNumbers}
use Rattle.convex_orders.specs.Shown.{IsListOf, IsTrace, IsRimIn}
use Rattle.convex_orders.proofs.Rows.{rim_from, rim_to}

-- a contour has at most as many places as there are vertices
pub contour_short : (lists : Lists) (alive : ℕ → Bool) (w : ℕ → ℕ) (r : ℕ) → IsContour lists alive w r → suc r ≤ length lists
contour_short lists alive w r c =
    let a = count_below_into w (λ t. true) (λ t. true) (suc r) (length lists) (λ i l p. ((c.edge i (omega arith)).dart.0, refl)) (λ i j l m p q e. c.distinct i j (omega arith) (omega arith) e) in
    omega (arith, a, count_below_all (suc r), count_below_all (length lists))

module _ (lists own other : Lists) (count : ℕ) (marks : List Bool) (simple : IsSimpleMap lists) (n : AreFaceNumbers lists own other count) (items : List ℕ) (end : ℕ) (alive : ℕ → Bool) (w : ℕ → ℕ) (r a b : ℕ) (t : IsTrace lists own marks items end alive w r a b) where
  -- the last vertex so far
  pub traced_last : (k : ℕ) → suc k ≡ length items → slice_index items k ≡ w a
  traced_last k e = let long = t.from.long in let z : k ≡ a = omega arith in t.from.each k (omega arith) ∙ ap w z

  pub traced_rim : (x : ℕ) → w a ≡ x → IsRimIn lists own other marks x (w (suc a))
  traced_rim x e =
      let order = t.order in
      let within = t.within in
      subst (λ z. IsRimIn lists own other marks z (w (suc a))) e (rim_to lists own other count simple n marks alive t.marks_are (w a) (w (suc a)) (t.contour.edge a (omega arith)))

  module _ (x y : ℕ) (at : w a ≡ x) (rim : IsRimIn lists own other marks x y) where
    pub next_is : w (suc a) ≡ y
    next_is =
        let order = t.order in
        let within = t.within in
        let found = t.contour.only x y (rim_from lists own other count simple n marks alive t.marks_are x y rim) in
        let place : found.0 ≡ a = t.contour.distinct found.0 a found.1 (omega arith) (found.2 ∙ sym at) in
        ap (λ i. w (suc i)) (sym place) ∙ found.3

    pub traced_from : (items' : List ℕ) → items' ≡ items ++ y ∷ [] → IsListOf items' w (suc a)
    traced_from items' e =
        let long = t.from.long in
        record {
          long = ap length e ∙ (length-append items (y ∷ []) ∙ omega arith);
          each = λ i l. elim (cases_eq i (suc a)) [
            | inl z ↦ ap (λ (u : List ℕ). get_or u i 0) e ∙ (get_or_push items y 0 i (omega arith) ∙ (sym next_is ∙ ap w (sym z)))
            | inr ne ↦ ap (λ (u : List ℕ). get_or u i 0) e ∙ (get_or_append_left items (y ∷ []) 0 i (omega arith) ∙ t.from.each i (omega arith))
          ];
        }

    -- where it is not the end, the way goes on
    pub traced_more : (items' : List ℕ) → items' ≡ items ++ y ∷ [] → y ≢ end → IsTrace lists own marks items' end alive w r (suc a) b
    traced_more items' e ne =
        let order = t.order in
        let not_end : suc a ≢ b = λ z. ne (sym next_is ∙ (ap w z ∙ t.to)) in
        record { contour = t.contour; marks_are = t.marks_are; from = traced_from items' e; order = omega arith; within = t.within; to = t.to }

    -- where it is the end, all is gone along
    pub traced_stop : y ≡ end → suc a ≡ b
    traced_stop same =
        let order = t.order in
        let within = t.within in
        t.contour.distinct (suc a) b (omega arith) within (next_is ∙ (same ∙ sym t.to))

    pub traced_end : (items' : List ℕ) → items' ≡ items ++ y ∷ [] → y ≡ end → IsListOf items' w b
    traced_end items' e same = subst (IsListOf items' w) (traced_stop same) (traced_from items' e)

    -- the vertex was not met before
    pub traced_apart : (first i : ℕ) → first ≤ i → i < a → w i ≢ x
    traced_apart first i l m e =
        let order = t.order in
        let within = t.within in
        let same = t.contour.distinct i a (omega arith) (omega arith) (e ∙ sym at) in
        omega arith

  -- there is an end
  pub traced_short : a < length lists
  traced_short =
      let order = t.order in
      let within = t.within in
      let short = contour_short lists alive w r t.contour in
      omega arith

-- The figure of ranks and rows over lists alone is drawn by the dual numbers, and so valid.
use Rattle.std.proofs.Common.{◌≡◌, ℕ, ◌+◌, ◌/◌, ◌^◌, ◌<◌, ◌≤◌, List, length, get_or, eqb, ℤ, pos, sym, ap, ◌∙◌, subst, inl, inr, arith}
use Rattle.std.proofs.lemmas.Int.{ints}
use Rattle.std.proofs.lemmas.Bool.{cases_eq, cases_lt, lt-ltb, le-ltb}
use Rattle.std.proofs.lemmas.List.{length-map}
use Rattle.std.proofs.lemmas.List.Elements.{Contains-get_or}
use Rattle.classes.specs.Classes.{label, class_count}
use Rattle.classes.proofs.Counting.{count_below-le}
use Rattle.classes.proofs.Orbits.{orbits_of, length-orbits_of}
use Rattle.classes.proofs.Bound.{after}
use Rattle.map_lists.specs.Lists.{Lists}
use Rattle.map_theory.specs.Maps.{IsSimpleMap, IsPlane, HasDart, list_of, place_of, dart_count, face_count, face_classes, component_count}
use Rattle.map_theory.proofs.DartLemmas.{place_of-lt-length, place_of-get_or}
use Rattle.map_theory.proofs.DartCounts.{few_darts-simple}
use Rattle.map_theory.proofs.DartPermutations.{rotation, twin}
use Rattle.plane_laws.proofs.EdgeBound.{none_isolated}
use Rattle.pg_plane.specs.declared.figures.BarFigure.{BarFigure}
use Rattle.drawings.specs.Bars.{column_between}
use Rattle.graph_search.specs.Arcs.{arcs_of}
use Rattle.st_orders.specs.StOrders.{IsStOrder}
use Rattle.bipolar.specs.Drawn.{Reaches, IsDrawnBy}
use Rattle.bipolar.specs.Laws.{IsStMap}
use Rattle.bipolar.proofs.Bipolar.{faces_are}
use Rattle.bipolar.proofs.Bars.{column-numbered, dual_numbers_are_bars}
use Rattle.bipolar.specs.Columns.{AreColumns, in_row}
use Rattle.bipolar.specs.Numbered.{GiveDuals}
use Rattle.visibility.specs.Ends.{IsLeastOf, IsGreatestOf, AreEnds}
use Rattle.visibility.specs.Figures.{IsBarFigure, IsStDrawing}

-- numbers as whole numbers; `map` is a map here
abbrev pub list_pos : List ℕ → List ℤ
list_pos xs = Rattle.std.specs.Prelude.map pos xs

-- a connected map with enough faces has genus zero
pub IsPlane-counted : (lists : Lists) (faces : ℕ) → IsSimpleMap lists → 3 ≤ length lists → component_count lists ≡ 1 → faces ≡ class_count (face_classes lists) → length lists + faces ≡ dart_count lists / 2 + 2 → IsPlane lists
unfolding face_count
IsPlane-counted lists faces simple many one is counted =
    let none = none_isolated lists simple (omega (arith, one)) many in
    omega (arith, one, is, counted, none)

-- each vertex has an edge
pub some_edge : (lists : Lists) (rank at : List ℕ) (s t : ℕ) → HasDart lists s t → IsStOrder lists s t at rank → (v : ℕ) → v < length lists → (u : ℕ) × HasDart lists v u
some_edge lists rank at s t dart order v l = elim (cases_eq v s) [
  | inl e ↦ (t, subst (λ z. HasDart lists z t) (sym e) dart)
  | inr ne ↦ (let u = order.earlier v l ne in (u.0, u.1))
]

pub some_entry : (lists : Lists) (rank at : List ℕ) (s t : ℕ) → HasDart lists s t → IsStOrder lists s t at rank → (v : ℕ) → v < length lists → 0 < length (list_of lists v)
some_entry lists rank at s t dart order v l =
    let u = some_edge lists rank at s t dart order v l in
    omega (arith, place_of-lt-length u.0 (list_of lists v) u.1.1)

module _ (lists : Lists) (few : length lists < 4096) (rank at : List ℕ) (s t : ℕ) (m : IsStMap lists s t at rank) where
  -- there are few faces, and small ranks
  pub few_faces : face_count lists < 2 ^ 31
  few_faces =
      let k = dart_count lists in
      let faces = orbits_of (after (rotation lists) (twin lists)) k in
      let most = count_below-le (λ i. eqb (label faces i) i) (length faces) in
      omega (arith, faces_are m, most, length-orbits_of (after (rotation lists) (twin lists)) k, few_darts-simple lists few m.simple)

  module _ (rows : List (List ℕ)) (g : GiveDuals lists rank s t rows) where
    pub small_rows : (v i : ℕ) → get_or (arcs_of rows v) i 0 < 2 ^ 31
    small_rows v i = omega (arith, g.low v i, few_faces)

    module _ (columns : List ℕ) (c : AreColumns lists rows columns) where
      module _ (fig : BarFigure) (fy : fig.y ≡ list_pos rank) (fc : fig.column ≡ list_pos columns) (f1 : AreEnds rows IsLeastOf fig.x1) (f2 : AreEnds rows IsGreatestOf fig.x2) where
        -- the column of an edge is the number in a row
        col : (v u : ℕ) → HasDart lists v u → column_between lists fig v u ≡ pos (in_row lists rows v u)
        col v u has =
            let back = m.simple.both_ways v u has in
            column-numbered lists fig columns fc v u ∙ ap pos (elim (cases_lt v u) [
              | inl less ↦ rw (lt-ltb v u less) (c.each v u (less, has) ∙ g.both u v back)
              | inr most ↦
                  let more : u < v = elim (cases_eq u v) [ inl e ↦ absurd (m.simple.no_loop v u has e) | inr ne ↦ omega (arith, most, ne) ] in
                  rw (le-ltb v u most) (c.each u v (more, back))
            ])

        reaches : (v : ℕ) → v < length lists → Reaches lists fig v
        reaches v l =
            let us = list_of lists v in
            let row = arcs_of rows v in
            let lr : v < length rows = omega (arith, l, g.sizes.count) in
            let size = g.sizes.sizes v l in
            let a = f1.each v lr in
            let b = f2.each v lr in
            let place : (u : ℕ) → HasDart lists v u → place_of u us < length row = λ u has. omega (arith, place_of-lt-length u us has.1, size) in
            let entry : (i : ℕ) → i < length row → HasDart lists v (get_or us i 0) = λ i li. (l, Contains-get_or us i 0 (omega (arith, li, size))) in
            let here : (i : ℕ) → i < length row → in_row lists rows v (get_or us i 0) ≡ get_or row i 0 = λ i li. ap (λ k. get_or row k 0) (place_of-get_or us i 0 (m.simple.no_repeat v l) (omega (arith, li, size))) in
            record {
              from_most = λ u has. let most = a.1.most (place_of u us) (place u has) in rw (a.2, col v u has) (omega (arith, ints));
              from_one = let i = a.1.one in (get_or us i.0 0, entry i.0 i.1, a.2 ∙ (ap pos (sym (here i.0 i.1 ∙ i.2)) ∙ sym (col v (get_or us i.0 0) (entry i.0 i.1))));
              to_least = λ u has. let most = b.1.least (place_of u us) (place u has) in rw (b.2, col v u has) (omega (arith, ints));
              to_one = let i = b.1.one in (get_or us i.0 0, entry i.0 i.1, b.2 ∙ (ap pos (sym (here i.0 i.1 ∙ i.2)) ∙ sym (col v (get_or us i.0 0) (entry i.0 i.1))));
            }

        drawn : IsDrawnBy lists rank columns fig
        drawn = record { y = fy; column = fc; x1 = f1.count ∙ g.sizes.count; x2 = f2.count ∙ g.sizes.count; reaches = reaches }

        pub figure_is : s ≡ 0 → get_or (list_of lists 0) 0 0 ≡ t → IsBarFigure lists fig
        figure_is first next = record {
          bars = record { y = ap (λ (l : List ℤ). length l) fy ∙ (length-map rank pos ∙ m.order.ranks); x1 = f1.count ∙ g.sizes.count; x2 = f2.count ∙ g.sizes.count };
          valid = dual_numbers_are_bars lists s t at rank columns fig m (g.duals columns c) drawn;
          placed = subst (λ (z : ℕ). IsStDrawing lists z (get_or (list_of lists 0) 0 0) fig) first (subst (λ (z : ℕ). IsStDrawing lists s z fig) (sym next)
              record { at = at; rank = rank; columns = columns; order = m.order; numbers = g.duals columns c; drawn = drawn });
        }

-- The figure of ranks and rows is drawn by the dual numbers, and so valid.
use Rattle.std.proofs.Common.{◌≡◌, ℕ, ◌^◌, ◌<◌, List, length, get_or, eqb, ℤ, pos, Some, sym, ap, ◌∙◌, subst, inl, inr, arith}
use Rattle.std.proofs.lemmas.Int.{ints}
use Rattle.std.proofs.lemmas.Bool.{cases_eq, cases_lt, lt-ltb, le-ltb}
use Rattle.std.proofs.lemmas.List.{length-map, get_or_past}
use Rattle.std.proofs.lemmas.List.Elements.{Contains-get_or}
use Rattle.classes.specs.Classes.{label}
use Rattle.classes.proofs.Counting.{count_below-le}
use Rattle.classes.proofs.Orbits.{orbits_of, length-orbits_of}
use Rattle.classes.proofs.Bound.{after}
use Rattle.map_theory.specs.Maps.{HasDart, list_of, place_of, dart_count, face_count}
use Rattle.map_theory.proofs.DartLemmas.{place_of-lt-length, place_of-get_or}
use Rattle.map_theory.proofs.DartPermutations.{rotation, twin, two_m}
use Rattle.pg_plane.specs.declared.figures.BarFigure.{BarFigure}
use Rattle.half_edges.specs.Map.{Map, IsHalfMap, IsLive, dart_at}
use Rattle.euler_faces.proofs.NumberLemmas.{some_of}
use Rattle.drawings.specs.Bars.{column_between}
use Rattle.graph_search.specs.Arcs.{arcs_of}
use Rattle.bipolar.specs.Drawn.{Reaches, IsDrawnBy}
use Rattle.bipolar.specs.Laws.{IsStMap}
use Rattle.bipolar.proofs.Bipolar.{faces_are}
use Rattle.bipolar.proofs.Bars.{column-numbered, dual_numbers_are_bars}
use Rattle.bipolar.specs.Columns.{AreColumns, in_row}
use Rattle.bipolar.specs.Numbered.{IsStOf, GiveDualNumbers}
use Rattle.visibility.specs.Ends.{IsLeastOf, IsGreatestOf, AreEnds}
use Rattle.visibility.specs.Bars.{AreBarsOf}

-- numbers as whole numbers; `map` is a map here
abbrev list_pos : List ℕ → List ℤ
list_pos xs = Rattle.std.specs.Prelude.map pos xs

-- what a live id stands for
some_dart : (map : Map) → IsHalfMap map → (st : ℕ) → IsLive map st → (s : ℕ) × (t : ℕ) × (dart_at map st ≡ Some (s, t))
some_dart map h st live = let x = some_of (dart_at map st) live in (x.0.0, x.0.1, x.1)

module _ (map : Map) (h : IsHalfMap map) (rank : List ℕ) (st : ℕ) (live : IsLive map st) (w : IsStOf map rank st) where
  st_map : (s t : ℕ) (e : dart_at map st ≡ Some (s, t)) → IsStMap map.lists s t (w.order s t e).0 rank
  st_map s t e = record { simple = h.simple; plane = w.plane; connected = w.connected; dart = h.is_dart st s t e; order = (w.order s t e).1 }

  -- there are few faces, and small ranks
  pub few_faces : face_count map.lists < 2 ^ 31
  few_faces =
      let x = some_dart map h st live in
      let k = dart_count map.lists in
      let faces = orbits_of (after (rotation map.lists) (twin map.lists)) k in
      let most = count_below-le (λ i. eqb (label faces i) i) (length faces) in
      omega (arith, faces_are (st_map x.0 x.1 x.2), most, length-orbits_of (after (rotation map.lists) (twin map.lists)) k, two_m map.lists h.simple, h.few_edges)

  pub small_ranks : (i : ℕ) → get_or rank i 0 < 2 ^ 31
  small_ranks i =
      let x = some_dart map h st live in
      let order = (w.order x.0 x.1 x.2).1 in
      elim (cases_lt i (length rank)) [ inl l ↦ omega (arith, order.places i 0 l, h.few_vertices) | inr past ↦ omega (arith, get_or_past rank i 0 past) ]

  -- each vertex has an edge
  some_edge : (v : ℕ) → v < length map.lists → (u : ℕ) × HasDart map.lists v u
  some_edge v l =
      let x = some_dart map h st live in
      let order = (w.order x.0 x.1 x.2).1 in
      elim (cases_eq v x.0) [
        | inl e ↦ (x.1, subst (λ z. HasDart map.lists z x.1) (sym e) (h.is_dart st x.0 x.1 x.2))
        | inr ne ↦ (let u = order.earlier v l ne in (u.0, u.1))
      ]

  module _ (rows : List (List ℕ)) (g : GiveDualNumbers map rank st rows) where
    pub some_row : (v : ℕ) → v < length rows → 0 < length (arcs_of rows v)
    some_row v l =
        let lv : v < length map.lists = omega (arith, l, g.sizes.count) in
        let u = some_edge v lv in
        omega (arith, g.sizes.sizes v lv, place_of-lt-length u.0 (list_of map.lists v) u.1.1)

    pub small_rows : (v i : ℕ) → get_or (arcs_of rows v) i 0 < 2 ^ 31
    small_rows v i = omega (arith, g.low v i, few_faces)

    module _ (columns : List ℕ) (c : AreColumns map.lists rows columns) where
      pub small_columns : (i : ℕ) → get_or columns i 0 < 2 ^ 31
      small_columns i = omega (arith, c.most (face_count map.lists) (λ v j. omega (arith, g.low v j)) i, few_faces)

      module _ (fig : BarFigure) (fy : fig.y ≡ list_pos rank) (fc : fig.column ≡ list_pos columns) (f1 : AreEnds rows IsLeastOf fig.x1) (f2 : AreEnds rows IsGreatestOf fig.x2) where
        -- the column of an edge is the number in a row
        col : (v u : ℕ) → HasDart map.lists v u → column_between map.lists fig v u ≡ pos (in_row map.lists rows v u)
        col v u has =
            let back = h.simple.both_ways v u has in
            column-numbered map.lists fig columns fc v u ∙ ap pos (elim (cases_lt v u) [
              | inl less ↦ rw (lt-ltb v u less) (c.each v u (less, has) ∙ g.both u v back)
              | inr most ↦
                  let more : u < v = elim (cases_eq u v) [ inl e ↦ absurd (h.simple.no_loop v u has e) | inr ne ↦ omega (arith, most, ne) ] in
                  rw (le-ltb v u most) (c.each u v (more, back))
            ])

        reaches : (v : ℕ) → v < length map.lists → Reaches map.lists fig v
        reaches v l =
            let us = list_of map.lists v in
            let row = arcs_of rows v in
            let lr : v < length rows = omega (arith, l, g.sizes.count) in
            let size = g.sizes.sizes v l in
            let a = f1.each v lr in
            let b = f2.each v lr in
            let place : (u : ℕ) → HasDart map.lists v u → place_of u us < length row = λ u has. omega (arith, place_of-lt-length u us has.1, size) in
            let entry : (i : ℕ) → i < length row → HasDart map.lists v (get_or us i 0) = λ i li. (l, Contains-get_or us i 0 (omega (arith, li, size))) in
            let here : (i : ℕ) → i < length row → in_row map.lists rows v (get_or us i 0) ≡ get_or row i 0 = λ i li. ap (λ k. get_or row k 0) (place_of-get_or us i 0 (h.simple.no_repeat v l) (omega (arith, li, size))) in
            record {
              from_most = λ u has. let most = a.1.most (place_of u us) (place u has) in rw (a.2, col v u has) (omega (arith, ints));
              from_one = let i = a.1.one in (get_or us i.0 0, entry i.0 i.1, a.2 ∙ (ap pos (sym (here i.0 i.1 ∙ i.2)) ∙ sym (col v (get_or us i.0 0) (entry i.0 i.1))));
              to_least = λ u has. let most = b.1.least (place_of u us) (place u has) in rw (b.2, col v u has) (omega (arith, ints));
              to_one = let i = b.1.one in (get_or us i.0 0, entry i.0 i.1, b.2 ∙ (ap pos (sym (here i.0 i.1 ∙ i.2)) ∙ sym (col v (get_or us i.0 0) (entry i.0 i.1))));
            }

        drawn : IsDrawnBy map.lists rank columns fig
        drawn = record { y = fy; column = fc; x1 = f1.count ∙ g.sizes.count; x2 = f2.count ∙ g.sizes.count; reaches = reaches }

        pub bars_are : AreBarsOf map rank st fig
        bars_are =
            let x = some_dart map h st live in
            let order = (w.order x.0 x.1 x.2).1 in
            record {
              bars = record { y = ap (λ (l : List ℤ). length l) fy ∙ (length-map rank pos ∙ order.ranks); x1 = f1.count ∙ g.sizes.count; x2 = f2.count ∙ g.sizes.count };
              drawn = λ s t e. (columns, g.duals columns c s t e, drawn);
              valid = dual_numbers_are_bars map.lists x.0 x.1 (w.order x.0 x.1 x.2).0 rank columns fig (st_map x.0 x.1 x.2) (g.duals columns c x.0 x.1 x.2) drawn;
            }

-- The rows of the longest paths give the dual numbers.
use Rattle.std.proofs.Common.{ap, sym, ◌≡◌, ℕ, ◌<◌, ◌≤◌, List, [], length, get_or, Contains, Some, ◌∙◌, subst, inl, inr, arith}
use Rattle.std.proofs.lemmas.Bool.{cases_lt, cases_eq, lt-ltb, le-ltb}
use Rattle.std.proofs.lemmas.List.{get_or_past}
use Rattle.map_theory.specs.Maps.{Dart, HasDart, list_of, place_of}
use Rattle.map_theory.proofs.DartLemmas.{place_of-lt-length, get_or-place_of}
use Rattle.half_edges.specs.Map.{Map, IsHalfMap, IsLive, dart_at}
use Rattle.euler_faces.specs.FaceWalks.{AreFaces, walk_at}
use Rattle.euler_faces.proofs.SideMarks.{some_dart}
use Rattle.graph_search.specs.Arcs.{arcs_of, IsAcyclic, AreLongest}
use Rattle.bipolar.specs.Laws.{IsStMap}
use Rattle.bipolar.proofs.Bipolar.{one_vertex}
use Rattle.bipolar.proofs.Numberings.{one_numbering}
use Rattle.bipolar.specs.FaceArcs.{InWalk, AreFaceArcs, IsLeftNumber, AreNumberRows}
use Rattle.bipolar.specs.Columns.{in_row}
use Rattle.bipolar.specs.Numbered.{IsStOf, GiveDualNumbers}
use Rattle.bipolar.proofs.Agree.{walk_dart, acyclic, numbers_agree}

module _ (map : Map) (h : IsHalfMap map) (rank : List ℕ) (st : ℕ) (live : IsLive map st) (w : IsStOf map rank st) where
  st_map : (s t : ℕ) (e : dart_at map st ≡ Some (s, t)) → IsStMap map.lists s t (w.order s t e).0 rank
  st_map s t e = record { simple = h.simple; plane = w.plane; connected = w.connected; dart = h.is_dart st s t e; order = (w.order s t e).1 }

  module _ (walks : List (List ℕ)) (faces : AreFaces map walks) (arcs : List (List ℕ)) (a : AreFaceArcs map walks rank arcs) (o : ℕ) (lo : o < length walks) (stands : Contains (walk_at walks o) st) where
    pub acyclic_arcs : IsAcyclic arcs o
    acyclic_arcs =
        let x = some_dart (dart_at map st) live in
        let number = (one_numbering (st_map x.0 x.1 x.2)).some in
        acyclic map h walks faces rank x.0 x.1 number.0 number.1 arcs a o (lo, (st, stands, x.2))

    module _ (numbers : List ℕ) (longest : AreLongest arcs o numbers) (rows : List (List ℕ)) (r : AreNumberRows map walks rank numbers rows) where
      in_row_is : (number : Dart → ℕ) → ((f u v : ℕ) → InWalk map walks f u v → get_or numbers f 0 ≡ number (u, v)) → (v u : ℕ) → HasDart map.lists v u → IsLeftNumber map walks rank numbers v u (in_row map.lists rows v u)
      in_row_is number agree v u has =
          let us = list_of map.lists v in
          let place = place_of-lt-length u us has.1 in
          subst (λ z. IsLeftNumber map walks rank numbers v z (in_row map.lists rows v u)) (get_or-place_of u us 0 place)
          ((r.each v has.0).entries (place_of u us) (omega (arith, place, r.sizes v has.0)))

      pub give : GiveDualNumbers map rank st rows
      give = record {
        sizes = record { count = r.count; sizes = r.sizes };
        both = λ u v has.
            let x = some_dart (dart_at map st) live in
            let m = st_map x.0 x.1 x.2 in
            let number = (one_numbering m).some in
            let agree = numbers_agree map h walks faces rank x.0 x.1 number.0 number.1 arcs a o (lo, (st, stands, x.2)) numbers longest in
            let back = h.simple.both_ways u v has in
            elim (cases_lt (get_or rank u 0) (get_or rank v 0)) [
              | inl up ↦
                  let one = (in_row_is number.0 agree u v has).up up in
                  let two = (in_row_is number.0 agree v u back).down (omega (arith, up)) in
                  one.2 ∙ (agree one.0 u v one.1 ∙ sym (two.2 ∙ agree two.0 u v two.1))
              | inr most ↦
                  let up : get_or rank v 0 < get_or rank u 0 = elim (cases_eq (get_or rank v 0) (get_or rank u 0)) [
                    | inl e ↦ absurd (h.simple.no_loop u v has (one_vertex m v u back.0 has.0 e))
                    | inr ne ↦ omega (arith, most, ne)
                  ] in
                  let one = (in_row_is number.0 agree u v has).down most in
                  let two = (in_row_is number.0 agree v u back).up up in
                  one.2 ∙ (agree one.0 v u one.1 ∙ sym (two.2 ∙ agree two.0 v u two.1))
            ];
        low = λ v i.
            let x = some_dart (dart_at map st) live in
            let m = st_map x.0 x.1 x.2 in
            let number = (one_numbering m).some in
            let below = (one_numbering m).below number.0 number.1 in
            let agree = numbers_agree map h walks faces rank x.0 x.1 number.0 number.1 arcs a o (lo, (st, stands, x.2)) numbers longest in
            let some = below (x.0, x.1) m.dart in
            elim (cases_lt v (length rows)) [
              | inr past ↦ omega (arith, some, ap (λ (us : List ℕ). get_or us i 0) (get_or_past rows v [] past))
              | inl lv ↦ elim (cases_lt i (length (arcs_of rows v))) [
                | inr past ↦ omega (arith, some, get_or_past (arcs_of rows v) i 0 past)
                | inl li ↦
                    let u = get_or (list_of map.lists v) i 0 in
                    let lv' : v < length map.lists = omega (arith, lv, r.count) in
                    let is = (r.each v lv').entries i li in
                    elim (cases_lt (get_or rank v 0) (get_or rank u 0)) [
                      | inl up ↦ (let f = is.up up in omega (arith, f.2, agree f.0 v u f.1, below (v, u) (walk_dart map h walks faces f.0 v u f.1)))
                      | inr down ↦ (let f = is.down down in omega (arith, f.2, agree f.0 u v f.1, below (u, v) (walk_dart map h walks faces f.0 u v f.1)))
                    ]
              ]
            ];
        duals = λ columns c s t e.
            let number = (one_numbering (st_map s t e)).some in
            let agree = numbers_agree map h walks faces rank s t number.0 number.1 arcs a o (lo, (st, stands, e)) numbers longest in (
              number.0,
              number.1,
              record {
                count = c.count;
                left = λ u v up.
                    let has = up.0 in
                    let back = h.simple.both_ways u v has in
                    elim (cases_lt u v) [
                      | inl less ↦
                          let f = (in_row_is number.0 agree v u back).down (omega (arith, up.1)) in
                          rw (lt-ltb u v less) (c.each u v (less, has) ∙ (f.2 ∙ agree f.0 u v f.1))
                      | inr most ↦
                          let more : v < u = by_loop u v has most in
                          let f = (in_row_is number.0 agree u v has).up up.1 in
                          rw (le-ltb u v most) (c.each v u (more, back) ∙ (f.2 ∙ agree f.0 u v f.1))
                    ];
              },
            );
      }
        where
          by_loop : (u v : ℕ) → HasDart map.lists u v → v ≤ u → v < u
          by_loop u v has l = elim (cases_lt v u) [ inl less ↦ less | inr more ↦ (let e : v ≡ u = omega (arith, l, more) in absurd (h.simple.no_loop u v has e)) ]

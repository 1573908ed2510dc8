-- What a removal does to the two stacks and the counts: what is taken out, gone along and put in.
use Rattle.std.proofs.Common.{◌≡◌, ◌≢◌, ℕ, suc, ◌+◌, ◌-◌, ◌<◌, ◌≤◌, Bool, eqb, List, [], ◌∷◌, ◌++◌, length, slice_index, refl, sym, ap, ap₂, ◌∙◌, subst, inl, inr, arith}
use Rattle.std.specs.Prelude.{reverse, slice_range}
use Rattle.std.proofs.lemmas.Bool.{cases_lt}
use Rattle.std.proofs.lemmas.List.{get_or_append_left, get_or-append_right}
use Rattle.classes.proofs.Counting.{count_below_same}
use Rattle.map_lists.specs.Lists.{Lists}
use Rattle.map_theory.specs.Maps.{HasDart, IsSimpleMap}
use Rattle.map_theory.proofs.DartCounts.{sum_below-le, sum_below-same}
use Rattle.convex_peeling.specs.Contours.{IsContour}
use Rattle.convex_peeling.specs.Removals.{Removal, IsTakenOff}
use Rattle.convex_peeling.proofs.Removed.{gone_within, first_lt}
use Rattle.convex_orders.specs.FaceNumbers.{entry, AreFaceNumbers}
use Rattle.convex_peeling.proofs.PolyhedralLemmas.{three_connected_is_polyhedral}
use Rattle.convex_laws.specs.declared.convex_rows.rows.ConvexRows.{ConvexRows}
use Rattle.convex_laws.specs.Removed.{IsRowMore}
use Rattle.convex_orders.specs.declared.contour_counts.ContourCounts.{ContourCounts}
use Rattle.convex_orders.specs.declared.contour_tracing.ContourFaces.{ContourFaces}
use Rattle.convex_orders.specs.declared.count_direction.Way.TheVariants.{Comes, Goes}
use Rattle.convex_orders.specs.Contours.{contour_of, AreEdges, AreInner, inner_number, number_at}
use Rattle.convex_orders.specs.Counts.{met_at, met_below, met_between, edges_between, AreCounts}
use Rattle.convex_orders.specs.Moved.{CanMoveAll, AreMoved}
use Rattle.convex_orders.specs.Noted.{AreNoted}
use Rattle.convex_orders.proofs.Moves.{length-contour}
use Rattle.convex_orders.proofs.CountLemmas.{IsSpliced, counts_spliced, met_spliced, edges_spliced, edges_le}
use Rattle.convex_orders.specs.Shown.{IsBased, IsListOf, IsOffAt, IsTrace, SomeTrace}
use Rattle.convex_orders.specs.Cuts.{edge_number, AreCutPlaces, IsCutRow, IsPutIn, IsTakenOut}
use Rattle.convex_orders.proofs.Once.{number_once}
use Rattle.convex_orders.proofs.Traced.{contour_short}
use Rattle.convex_orders.proofs.CutLemmas.{cuts_same}
use Rattle.convex_orders.proofs.RowLemmas.{us_back, us_in, cut_places, row_of}

module _ (lists own other : Lists) (count s d : ℕ) (based : IsBased lists s d) (n : AreFaceNumbers lists own other count) (marks : List Bool) (ws : List ℕ) (first end : ℕ) (alive : ℕ → Bool) (w : ℕ → ℕ) (r : ℕ) (o : Removal) (at : IsOffAt lists own marks s d ws first end alive w r o) where
  abbrev simple : IsSimpleMap lists
  simple = based.three.simple

  abbrev off : IsTakenOff lists alive w r o
  off = at.off_by.off

  abbrev next : IsContour lists o.alive o.contour o.places
  next = at.off_by.next.contour

  pub ws_long : length ws ≡ suc r
  ws_long = at.off_by.list.long

  pub order : first < end
  order = let a = at.first_is in let b = at.end_is in omega arith

  pub within : end < length ws
  within = let b = at.end_is in let gone = gone_within lists alive w r o off in let long = ws_long in omega arith

  module _ (left right : List ℕ) (x : ℕ) (old mid : ConvexRows) (out : IsTakenOut ws left right x first end old mid) where
    -- what is left before the place goes on to the vertex at the end
    pub trace_from : IsTrace lists own marks left x o.alive o.contour o.places first o.last
    trace_from =
        let long = ws_long in
        let lt = first_lt lists alive w r o off in
        let z : o.last + 0 ≡ o.last = omega arith in
        let z' : o.first + o.vertices + 1 + 0 ≡ end = omega arith in
        record {
          contour = next;
          marks_are = at.off_by.next.marks_are;
          from = record {
            long = out.left_long;
            each = λ i l. out.left_each i l ∙ (at.off_by.list.each i (omega arith) ∙ sym (off.before i (omega arith)));
          };
          order = omega arith;
          within = off.within;
          to = ap o.contour (sym z) ∙ (off.behind 0 ∙ (ap w z' ∙ (sym (at.off_by.list.each end (omega arith)) ∙ sym out.end_is)));
        }

    pub some_trace : SomeTrace lists own marks left x
    some_trace = record { alive = o.alive; w = o.contour; r = o.places; a = first; b = o.last; trace = trace_from }

    -- what is gone along from there on
    module _ (us : List ℕ) (traced : (alive : ℕ → Bool) (w : ℕ → ℕ) (r a b : ℕ) → IsTrace lists own marks left x alive w r a b → IsListOf us w b) (rims rims' : ContourFaces) (traces : (alive : ℕ → Bool) (w : ℕ → ℕ) (r a b : ℕ) → IsTrace lists own marks left x alive w r a b → AreNoted lists own w a b rims rims') (are : AreInner lists own ws rims.inner.items) where
      list : IsListOf us o.contour o.last
      list = traced o.alive o.contour o.places first o.last trace_from

      put_in : (i : ℕ) → i < length us → slice_index us i < length lists
      put_in = us_in lists own other count simple n marks s d ws us alive w r o at.off_by list

      put_back : AreEdges lists us
      put_back = us_back lists own other count simple n marks s d ws us alive w r o at.off_by list

      us_long : length us ≡ suc o.last
      us_long = list.long

      -- the new contour
      pub new_list : IsListOf (contour_of us right) o.contour o.places
      new_list =
          let f = at.first_is in
          let e = at.end_is in
          let long = ws_long in
          let right_long = out.right_long in
          let width = off.width in
          let inside = off.within in
          let gone = gone_within lists alive w r o off in
          let long' = us_long in
          record {
            long = length-contour us right ∙ omega arith;
            each = λ i l. elim (cases_lt i (length us)) [
              | inl low ↦ get_or_append_left us (reverse right) 0 i low ∙ list.each i (omega arith)
              | inr high ↦
                  let q : ℕ = i - length us in
                  let z : suc end + q ≡ o.first + o.vertices + 1 + suc q = omega arith in
                  let y : o.last + suc q ≡ i = omega arith in
                  get_or-append_right us (reverse right) (length us) i 0 refl high
                  ∙ (out.right_each q (omega arith) ∙ (ap (λ k. slice_index ws k) z ∙ (at.off_by.list.each (o.first + o.vertices + 1 + suc q) (omega arith) ∙ (sym (off.behind (suc q)) ∙ ap o.contour y))))
            ];
          }

      spliced : IsSpliced ws (contour_of us right) first end o.last
      spliced =
          let f = at.first_is in
          let e = at.end_is in
          let long = ws_long in
          let long' = new_list.long in
          let width = off.width in
          let inside = off.within in
          let gone = gone_within lists alive w r o off in
          let lt = first_lt lists alive w r o off in
          record {
            order = order;
            order_new = omega arith;
            within = within;
            width = omega arith;
            before = λ i l. new_list.each i (omega arith) ∙ (off.before i (omega arith) ∙ sym (at.off_by.list.each i (omega arith)));
            behind = λ q l.
                let z : o.first + o.vertices + 1 + q ≡ end + q = omega arith in
                new_list.each (o.last + q) (omega arith) ∙ (off.behind q ∙ (ap w z ∙ sym (at.off_by.list.each (end + q) (omega arith))));
          }

      -- the parts of the list before the place are those of the contour
      us_at : (i : ℕ) → i < length us → slice_index (contour_of us right) i ≡ slice_index us i
      us_at i l = get_or_append_left us (reverse right) 0 i l

      new_short : length (contour_of us right) < 4096 → (f : ℕ) → met_below own (contour_of us right) (length (contour_of us right)) f < 4096
      new_short few f =
          let polyhedral = three_connected_is_polyhedral lists based.three based.plane in
          let long = new_list.long in
          let le = sum_below-le (λ i. met_at own f (slice_index (contour_of us right) i)) (length (contour_of us right)) (λ k l. subst (λ v. met_at own f v ≤ 1) (sym (new_list.each k (omega arith))) (number_once lists own other count simple polyhedral n (o.contour k) (next.edge k (omega arith)).dart.0 f)) in
          omega arith

      last_is : length us - 1 ≡ o.last
      last_is = let long = us_long in omega arith

      met_same : (f : ℕ) → met_between own us first (length us - 1) f ≡ met_between own (contour_of us right) first o.last f
      met_same f =
          let long = us_long in
          ap (λ m. met_between own us first m f) last_is
          ∙ sum_below-same (λ k. met_at own f (slice_index us (suc first + k))) (λ k. met_at own f (slice_index (contour_of us right) (suc first + k))) (o.last - suc first) (λ k l. ap (λ v. met_at own f v) (sym (us_at (suc first + k) (omega arith))))

      edges_same : (f : ℕ) → edges_between lists own us first (length us - 1) f ≡ edges_between lists own (contour_of us right) first o.last f
      edges_same f =
          let long = us_long in
          ap (λ m. edges_between lists own us first m f) last_is
          ∙ count_below_same (λ k. eqb (inner_number lists own us (first + k)) f) (λ k. eqb (inner_number lists own (contour_of us right) (first + k)) f) (o.last - first) (λ k l. ap₂ (λ a b. eqb (entry lists own a b) f) (sym (us_at (suc (first + k)) (omega arith))) (sym (us_at (first + k) (omega arith))))

      pub put_order : suc first < length us
      put_order =
          let f = at.first_is in
          let lt = first_lt lists alive w r o off in
          let long = us_long in
          omega arith

      pub us_short : length us ≤ length lists
      us_short =
          let short = contour_short lists o.alive o.contour o.places next in
          let inside = off.within in
          let long = us_long in
          omega arith

      new_short_all : length (contour_of us right) ≤ length lists
      new_short_all = let long = new_list.long in let short = contour_short lists o.alive o.contour o.places next in omega arith

      noted : AreNoted lists own o.contour first o.last rims rims'
      noted = traces o.alive o.contour o.places first o.last trace_from

      -- at other places the table is as before
      stays : (i : ℕ) → i ≤ o.places → ((j : ℕ) → first ≤ j → j < o.last → j ≢ i) → slice_index rims'.inner.items (o.contour i) ≡ slice_index rims.inner.items (o.contour i)
      stays i l apart =
          let inside = off.within in
          noted.inner.elsewhere (o.contour i) (λ j m n e. apart j m n (next.distinct j i (omega arith) l e))

      old_number : (k : ℕ) → k < r → slice_index rims.inner.items (w k) ≡ entry lists own (w (suc k)) (w k)
      old_number k l =
          let long = ws_long in
          let list = at.off_by.list in
          ap (slice_index rims.inner.items) (sym (list.each k (omega arith))) ∙ (are.numbers k (omega arith) ∙ ap₂ (entry lists own) (list.each (suc k) l) (list.each k (omega arith)))

      -- the numbers along the new contour
      number : (i : ℕ) → i < o.places → slice_index rims'.inner.items (o.contour i) ≡ entry lists own (o.contour (suc i)) (o.contour i)
      number i l =
          let f = at.first_is in
          let lt = first_lt lists alive w r o off in
          let gone = gone_within lists alive w r o off in
          let inside = off.within in
          let width = off.width in
          elim (cases_lt i first) [
            | inl low ↦
                let here = off.before i (omega arith) in
                let there = off.before (suc i) (omega arith) in
                stays i (omega arith) (λ j m n e. omega arith)
                ∙ (ap (slice_index rims.inner.items) here ∙ (old_number i (omega arith) ∙ sym (ap₂ (entry lists own) there here)))
            | inr most ↦ elim (cases_lt i o.last) [
              | inl between ↦ noted.inner.here i most between
              | inr high ↦
                  let q : ℕ = i - o.last in
                  let k : ℕ = o.first + o.vertices + 1 + q in
                  let z : o.last + q ≡ i = omega arith in
                  let z' : o.last + suc q ≡ suc i = omega arith in
                  let y : o.first + o.vertices + 1 + suc q ≡ suc k = omega arith in
                  let here : o.contour i ≡ w k = ap o.contour (sym z) ∙ off.behind q in
                  let there : o.contour (suc i) ≡ w (suc k) = ap o.contour (sym z') ∙ (off.behind (suc q) ∙ ap w y) in
                  stays i (omega arith) (λ j m n e. omega arith)
                  ∙ (ap (slice_index rims.inner.items) here ∙ (old_number k (omega arith) ∙ sym (ap₂ (entry lists own) there here)))
            ]
          ]

      pub us_inner : AreInner lists own us rims'.inner.items
      us_inner =
          let long = us_long in
          let inside = off.within in
          record {
            long = noted.inner.long ∙ are.long;
            vertices = put_in;
            edges = put_back;
            numbers = λ i l. ap (slice_index rims'.inner.items) (list.each i (omega arith)) ∙ (number i (omega arith) ∙ sym (ap₂ (entry lists own) (list.each (suc i) (omega arith)) (list.each i (omega arith))));
          }

      pub new_inner : AreInner lists own (contour_of us right) rims'.inner.items
      new_inner =
          let long = new_list.long in
          record {
            long = noted.inner.long ∙ are.long;
            vertices = λ i l. subst (λ v. v < length lists) (sym (new_list.each i (omega arith))) (next.edge i (omega arith)).dart.0;
            edges = λ i l.
                let back = simple.both_ways (o.contour i) (o.contour (suc i)) (next.edge i (omega arith)).dart in
                subst (λ v. HasDart lists v (slice_index (contour_of us right) i)) (sym (new_list.each (suc i) (omega arith))) (subst (HasDart lists (o.contour (suc i))) (sym (new_list.each i (omega arith))) back);
            numbers = λ i l. ap (slice_index rims'.inner.items) (new_list.each i (omega arith)) ∙ (number i (omega arith) ∙ sym (ap₂ (entry lists own) (new_list.each (suc i) (omega arith)) (new_list.each i (omega arith))));
          }

      -- the numbers on the other side are those of the faces that are taken off
      new_cuts : AreCutPlaces (number_at rims'.outer.items us) first (length us - 1) o.faces o.cut
      new_cuts =
          let long = us_long in
          let inside = off.within in
          let places = subst (λ f. AreCutPlaces (edge_number lists own us) f (length us - 1) o.faces o.cut) at.first_is (subst (λ l. AreCutPlaces (edge_number lists own us) o.first l o.faces o.cut) (sym last_is) (cut_places lists own other count simple n marks s d ws us alive w r o at.off_by list)) in
          cuts_same (edge_number lists own us) first (length us - 1) o.faces o.cut places (number_at rims'.outer.items us)
          (λ p l m. ap (slice_index rims'.outer.items) (list.each p (omega arith)) ∙ (noted.outer.here p l (omega arith) ∙ sym (ap₂ (entry lists own) (list.each p (omega arith)) (list.each (suc p) (omega arith)))))

      module _ (few : length lists < 4096) (was now : ContourCounts) (counts : AreCounts lists own count ws was.places.items was.edges.items) (less : AreMoved lists own count Goes ws first end was now) where
        pub can_come : CanMoveAll lists own count Comes us first (length us - 1) now
        can_come = record {
          places = λ f l.
              let short = new_short_all in
              omega (arith, counts.places_are f l, less.places f l, met_same f, met_spliced lists own ws (contour_of us right) first end o.last spliced f, new_short (omega arith) f);
          edges = λ f l.
              let short = new_short_all in
              let long = ws_long in
              let long' = new_list.long in
              let most = edges_le lists own (contour_of us right) o.places f in
              omega (arith, counts.edges_are f r l (sym long), less.edges f l, edges_same f, edges_spliced lists own ws (contour_of us right) first end o.last spliced f r o.places (sym long) (sym long'), most);
        }

        pub new_counts : (new : ContourCounts) → AreMoved lists own count Comes us first (length us - 1) now new → AreCounts lists own count (contour_of us right) new.places.items new.edges.items
        new_counts new more =
            counts_spliced lists own ws (contour_of us right) first end o.last spliced count was now new counts less
            (record {
              size = more.size;
              places = λ f l. more.places f l ∙ ap (λ z. slice_index now.places.items f + z) (met_same f);
              edges = λ f l. more.edges f l ∙ ap (λ z. slice_index now.edges.items f + z) (edges_same f);
            })

      -- the row of the removal
      pub row_more : (new : ConvexRows) → ((faces : ℕ) (cut : ℕ → ℕ) → AreCutPlaces (number_at rims'.outer.items us) first (length us - 1) faces cut → IsPutIn us first (length us - 1) faces cut mid new) → IsRowMore lists w o old new
      row_more new put =
          let p = put o.faces o.cut new_cuts in
          let f = at.first_is in
          let e = at.end_is in
          let news_long = out.news_long in
          let z : length us - 1 + 1 ≡ o.last + 1 = let long = us_long in omega arith in
          record {
            row = slice_range us first (length us - 1 + 1);
            cuts = p.cuts;
            news = out.news;
            is = row_of lists own other count simple n marks s d ws us alive w r o at.off_by list (slice_range us first (length us - 1 + 1)) p.cuts out.news (subst (λ k. IsCutRow p.cuts k o.faces o.cut) (sym f) p.cut_row)
                (ap₂ (slice_range us) (sym f) z) (omega arith) (λ i l. out.news_each i l ∙ (let y : suc first + i ≡ suc o.first + i = omega arith in ap (λ k. slice_index ws k) y));
            rows_are = p.rows_are ∙ ap (λ (y : List (List ℕ)). y ++ slice_range us first (length us - 1 + 1) ∷ []) out.rows_are;
            cuts_are = p.cuts_are ∙ ap (λ (y : List (List ℕ)). y ++ p.cuts ∷ []) out.cuts_are;
            news_are = p.news_are ∙ out.news_are;
          }

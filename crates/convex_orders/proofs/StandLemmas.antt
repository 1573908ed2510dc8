-- How the removals begin, go on and end.
use Rattle.std.proofs.Common.{◌≡◌, ◌≢◌, ◌↔◌, ℕ, zero, suc, ◌+◌, ◌-◌, ◌<◌, ◌≤◌, Bool, true, false, List, [], ◌∷◌, length, slice_index, set, Contains, sym, ap, ap₂, ◌∙◌, subst, inl, inr, arith}
use Rattle.std.specs.Prelude.{slice_range}
use Rattle.std.proofs.lemmas.Bool.{cases_Bool, cases_eq}
use Rattle.std.proofs.lemmas.List.{get_or-set_same, get_or-set_other}
use Rattle.simple_maps.proofs.FlatLemmas.{get_or-slice_range, length-slice_range}
use Rattle.classes.proofs.Counting.{count_below-le}
use Rattle.map_lists.specs.Lists.{Lists}
use Rattle.map_theory.specs.Maps.{list_of, HasDart, IsSimpleMap, dart_count}
use Rattle.convex_peeling.specs.Polyhedral.{IsPolyhedral}
use Rattle.convex_peeling.proofs.PolyhedralLemmas.{three_connected_is_polyhedral}
use Rattle.convex_peeling.proofs.Neighbours.{three_neighbours}
use Rattle.convex_peeling.specs.Contours.{face_of, IsContour, IsBegun, IsFirst}
use Rattle.convex_peeling.specs.Removals.{Removal, IsTakenOff}
use Rattle.convex_peeling.specs.FacePeelingLaws.{HasThree}
use Rattle.convex_peeling.proofs.ChainsOff.{count-without}
use Rattle.convex_peeling.proofs.Firsts.{first_taken_off_law}
use Rattle.convex_peeling.proofs.TakenOff.{base_living}
use Rattle.convex_peeling.proofs.Removed.{begins_as_before, ends_as_before, goes_on_begun, gone_within, first_lt}
use Rattle.convex_laws.specs.declared.convex_rows.rows.ConvexRows.{ConvexRows}
use Rattle.convex_laws.proofs.Last.{last_goes}
use Rattle.convex_laws.specs.Removed.{IsRowMore, HasRows, AreRowsOfRun}
use Rattle.convex_laws.proofs.Ends.{IsEnded-more, IsEnded-first}
use Rattle.convex_laws.proofs.Ended.{IsEnded-base}
use Rattle.convex_laws.proofs.Grown.{IsShore-contour}
use Rattle.convex_orders.specs.FaceNumbers.{entry, AreFaceNumbers}
use Rattle.convex_orders.specs.Shown.{is_set, IsBased, IsShown, IsListOf, IsTrace, IsOffBy, IsOffAt, SomeOff, GoesOff, IsChoice}
use Rattle.convex_orders.specs.Standing.{Stands, HasOther, AllInner, IsLastRow}
use Rattle.map_theory.proofs.DartCounts.{sum_below-le}
use Rattle.convex_orders.specs.Contours.{AreEdges, AreInner}
use Rattle.convex_orders.specs.Noted.{IsNoted}
use Rattle.convex_orders.specs.Counts.{met_at, met_below}
use Rattle.convex_orders.proofs.ContourCountsRows.{entry-lt}
use Rattle.convex_orders.proofs.Once.{number_once}
use Rattle.convex_orders.proofs.Taken.{marks_after_vertex}
use Rattle.convex_orders.proofs.Traced.{contour_short}

module _ (lists : Lists) (s d : ℕ) (based : IsBased lists s d) where
  abbrev pub simple : IsSimpleMap lists
  simple = based.three.simple

  pub polyhedral : IsPolyhedral lists
  polyhedral = three_connected_is_polyhedral lists based.three based.plane

  pub has_three : HasThree lists
  has_three v l = three_neighbours lists v based.three l

  pub base_back : HasDart lists d s
  base_back = simple.both_ways s d based.base

  module _ (own : Lists) (marks : List Bool) (ws : List ℕ) (rows : ConvexRows) (bound : ℕ) (st : Stands lists own marks s d ws rows bound) where
    pub choice : HasOther lists own s d ws → IsChoice lists own marks s d ws st.alive st.w st.r
    choice o =
        let z : suc o.0 ≡ o.0 + 1 = omega arith in
        record {
          shown = st.shown;
          begun = st.begun;
          list = st.list;
          other = (o.0, omega arith, λ e. o.2 (ap₂ (entry lists own) (ap (λ k. slice_index ws k) (sym z) ∙ st.list.each (suc o.0) (omega arith)) (st.list.each o.0 (omega arith)) ∙ e));
        }

    module _ (new : List Bool) (go : GoesOff lists own new st.alive st.w st.r) where
      pub off_by : IsOffBy lists own new s d ws st.alive st.w st.r go.o
      off_by = record {
        contour = st.shown.contour;
        list = st.list;
        off = go.off;
        next = record {
          contour = go.contour;
          marks_are = go.marks_are;
          first = begins_as_before lists st.alive st.w st.r go.o go.off ∙ st.shown.first;
          last = ends_as_before lists st.alive st.w st.r go.o go.off ∙ st.shown.last;
        };
      }

      -- one removal more
      pub stands_more : (less : ℕ) → bound ≡ suc less → (us : List ℕ) (rows' : ConvexRows) → IsListOf us go.o.contour go.o.places → IsRowMore lists st.w go.o rows rows' → Stands lists own new s d us rows' less
      stands_more less e us rows' list more =
          let fewer = go.off.fewer in
          let some = go.off.some_face in
          let old = st.fewer in
          record {
            alive = go.o.alive;
            w = go.o.contour;
            r = go.o.places;
            m = suc st.m;
            shown = off_by.next;
            begun = goes_on_begun lists st.alive st.w st.r go.o go.off st.begun;
            labels = λ f t. st.labels f (go.off.still f t);
            list = list;
            ended = IsEnded-more lists s d st.alive st.w st.r go.o simple st.shown.contour go.off (IsShore-contour lists go.o.alive go.o.contour go.o.places go.contour) go.open_at rows rows' st.m st.ended more;
            fewer = omega arith;
          }

    -- a face is left
    pub stands_left : 1 < bound
    stands_left =
        let c = st.shown.contour in
        let w = st.w in
        let r = st.r in
        let dart : HasDart lists (w 0) (w r) = simple.both_ways (w r) (w 0) (subst (HasDart lists (w r)) c.round (c.edge r (omega arith)).dart) in
        omega (arith, count-without lists st.alive simple (w 0) (w r) dart (base_living lists st.alive w r simple polyhedral has_three c))

    -- the last removal
    module _ (other : Lists) (count : ℕ) (n : AreFaceNumbers lists own other count) (all : AllInner lists own s d ws) where
      inner : (i : ℕ) → i < st.r → face_of lists (st.w (suc i)) (st.w i) ≡ face_of lists (st.w 0) (st.w st.r)
      inner i l =
          let long = st.list.long in
          let w = st.w in
          let r = st.r in
          let c = st.shown.contour in
          let dart : HasDart lists (w 0) (w r) = simple.both_ways (w r) (w 0) (subst (HasDart lists (w r)) c.round (c.edge r (omega arith)).dart) in
          let back = simple.both_ways (w i) (w (suc i)) (c.edge i (omega arith)).dart in
          let e = all i (omega arith) in
          let z : suc i ≡ i + 1 = omega arith in
          (n.alike (w (suc i)) (w i) (w 0) (w r) back dart).0 (ap₂ (entry lists own) (sym (st.list.each (suc i) l) ∙ ap (λ k. slice_index ws k) z) (sym (st.list.each i (omega arith))) ∙ (e ∙ ap₂ (entry lists own) (sym st.shown.first) (sym st.shown.last)))

      pub two_places : 2 ≤ length ws
      two_places =
          let last = last_goes lists st.alive st.w st.r simple based.three.connected polyhedral has_three st.shown.contour inner in
          let gone = gone_within lists st.alive st.w st.r last.0 last.1.off in
          let long = st.list.long in
          omega arith

      pub last_rows : (rows' : ConvexRows) → IsLastRow ws s d rows rows' → AreRowsOfRun lists s d rows'
      last_rows rows' put =
          let w = st.w in
          let r = st.r in
          let c = st.shown.contour in
          let last = last_goes lists st.alive w r simple based.three.connected polyhedral has_three c inner in
          let o = last.0 in
          let is = last.1 in
          let off = is.off in
          let two = is.two in
          let gone = gone_within lists st.alive w r o off in
          let order = first_lt lists st.alive w r o off in
          let within = off.within in
          let width = off.width in
          let begin = off.begin in
          let end = off.end in
          let some_face = off.some_face in
          let long = st.list.long in
          let first_is : o.first ≡ 0 = omega arith in
          let last_is : o.last ≡ 1 = omega arith in
          let faces_is : o.faces ≡ 1 = elim (cases_eq o.faces 1) [
            | inl e ↦ e
            | inr ne ↦
                let a = off.rises 0 some_face in
                let b = off.rises 1 (omega arith) in
                let m = cuts_rise o off 2 o.faces (omega arith) (omega arith) in
                absurd (omega arith)
          ] in
          let z0 : o.contour 0 ≡ d = begins_as_before lists st.alive w r o off ∙ st.shown.first in
          let z1 : o.contour 1 ≡ s = ap o.contour (sym two) ∙ (ends_as_before lists st.alive w r o off ∙ st.shown.last) in
          let at : (i : ℕ) → i < 2 → slice_index (d ∷ s ∷ []) i ≡ o.contour (o.first + i) = λ i l. elim (cases_eq i 0) [
            | inl e ↦ (let p : o.first + i ≡ 0 = omega arith in ap (λ k. slice_index (d ∷ s ∷ []) k) e ∙ (sym z0 ∙ ap o.contour (sym p)))
            | inr ne ↦ (let e : i ≡ 1 = omega arith in let p : o.first + i ≡ 1 = omega arith in ap (λ k. slice_index (d ∷ s ∷ []) k) e ∙ (sym z1 ∙ ap o.contour (sym p)))
          ] in
          let cut_at : (i : ℕ) → i ≤ o.faces → slice_index (0 ∷ 1 ∷ []) i + o.first ≡ o.cut i = λ i l. elim (cases_eq i 0) [
            | inl e ↦ (let a = ap (λ k. slice_index (0 ∷ 1 ∷ []) k) e in let b = ap o.cut e in omega (arith, a, b, begin, first_is))
            | inr ne ↦ (let e : i ≡ 1 = omega arith in let a = ap (λ k. slice_index (0 ∷ 1 ∷ []) k) e in let f : i ≡ o.faces = omega arith in let b = ap o.cut f in omega (arith, a, b, end, last_is, first_is))
          ] in
          let news = slice_range ws 1 r in
          let news_long : length news ≡ r - 1 = length-slice_range ws 1 r (omega arith) (omega arith) in
          let news_at : (i : ℕ) → i < length news → slice_index news i ≡ w (suc (o.first + i)) = λ i l. get_or-slice_range ws 1 r i (omega arith) ∙ (let p : 1 + i ≡ suc (o.first + i) = omega arith in ap (λ k. slice_index ws k) p ∙ st.list.each (suc (o.first + i)) (omega arith)) in
          let in_d : d < length lists = simple.in_range s d based.base in
          let in_s : s < length lists = based.base.0 in
          let more : IsRowMore lists w o rows rows' = record {
            row = d ∷ s ∷ [];
            cuts = 0 ∷ 1 ∷ [];
            news = news;
            is = record {
              row_long = omega arith;
              row_each = at;
              row_in = λ i l. elim (cases_eq i 0) [
                | inl e ↦ subst (λ v. v < length lists) (ap (λ k. slice_index (d ∷ s ∷ []) k) (sym e)) in_d
                | inr ne ↦ (let e : i ≡ 1 = omega arith in subst (λ v. v < length lists) (ap (λ k. slice_index (d ∷ s ∷ []) k) (sym e)) in_s)
              ];
              cuts_long = omega arith;
              cuts_each = cut_at;
              news_long = omega arith;
              news_each = news_at;
              news_in = λ i l. subst (λ v. v < length lists) (sym (news_at i l)) (c.edge (suc (o.first + i)) (omega arith)).dart.0;
            };
            rows_are = put.rows_are;
            cuts_are = put.cuts_are;
            news_are = put.news_are r (sym long);
          } in
          let ended = IsEnded-more lists s d st.alive w r o simple c off is.shore is.open_at rows rows' st.m st.ended more in
          let apart : o.contour 0 ≢ o.contour o.places = λ e. (let q : 0 ≡ o.places = is.shore.distinct 0 o.places (omega arith) (omega arith) e in omega arith) in
          IsEnded-base lists s d rows' (suc st.m) o.alive o.contour o.places simple (λ f t. st.labels f (off.still f t)) is.none two apart ended
        where
          cuts_rise : (o : Removal) → IsTakenOff lists st.alive st.w st.r o → (i j : ℕ) → i ≤ j → j ≤ o.faces → o.cut i ≤ o.cut j
          cuts_rise o off i zero l m = let z : i ≡ 0 = omega arith in omega (arith, ap o.cut z)
          cuts_rise o off i (suc j) l m =
              elim (cases_eq i (suc j)) [
                | inl e ↦ omega (arith, ap o.cut e)
                | inr ne ↦ (let h = cuts_rise o off i j (omega arith) (omega arith) in let s = off.rises j m in omega arith)
              ]

  -- the list of a contour that is shown
  module _ (own : Lists) (marks : List Bool) (ws : List ℕ) (alive : ℕ → Bool) (w : ℕ → ℕ) (r : ℕ) (shown : IsShown lists own marks s d alive w r) (list : IsListOf ws w r) where
    pub shown_in : (i : ℕ) → i < length ws → slice_index ws i < length lists
    shown_in i l = let long = list.long in subst (λ v. v < length lists) (sym (list.each i (omega arith))) (shown.contour.edge i (omega arith)).dart.0

    pub shown_edges : AreEdges lists ws
    shown_edges i l =
        let back = simple.both_ways (w i) (w (suc i)) (shown.contour.edge i (omega arith)).dart in
        subst (λ v. HasDart lists v (slice_index ws i)) (sym (list.each (suc i) (omega arith))) (subst (HasDart lists (w (suc i))) (sym (list.each i (omega arith))) back)

    pub shown_room : (other : Lists) (count : ℕ) → AreFaceNumbers lists own other count → (f : ℕ) → met_below own ws (length ws) f ≤ length ws
    shown_room other count n f = sum_below-le (λ i. met_at own f (slice_index ws i)) (length ws) (λ k l. number_once lists own other count simple polyhedral n (slice_index ws k) (shown_in k l) f)

  -- the way along a contour that is shown begins with d
  pub first_trace : (own : Lists) (marks : List Bool) (items : List ℕ) (alive : ℕ → Bool) (w : ℕ → ℕ) (r : ℕ) → IsShown lists own marks s d alive w r → items ≡ d ∷ [] → IsTrace lists own marks items s alive w r 0 r
  first_trace own marks items alive w r shown e =
      let some : 0 < r = elim (cases_eq r 0) [
        | inr ne ↦ omega arith
        | inl z ↦ absurd (simple.no_loop s d based.base (sym shown.first ∙ (ap w (sym z) ∙ shown.last)))
      ] in
      record {
        contour = shown.contour;
        marks_are = shown.marks_are;
        from = record {
          long = ap length e;
          each = λ i l. let z : i ≡ 0 = omega arith in ap (λ k. slice_index items k) z ∙ (ap (λ (y : List ℕ). slice_index y 0) e ∙ (sym shown.first ∙ ap w (sym z)));
        };
        order = some;
        within = omega arith;
        to = shown.last;
      }

  -- the contour where just the face of the base is taken off
  module _ (own other : Lists) (count : ℕ) (n : AreFaceNumbers lists own other count) where
    pub first_shown : (old new : List Bool) → length old ≡ count → ((f : ℕ) → f < count → is_set old f ≡ true) → new ≡ set old (entry lists own s d) false → (alive : ℕ → Bool) (w : ℕ → ℕ) (r : ℕ) → IsFirst lists s d alive w r → IsShown lists own new s d alive w r
    first_shown old new long all e alive w r f =
        let base = entry lists own s d in
        let below = entry-lt lists own count n.own_table s d based.base in
        record {
          contour = f.contour;
          first = f.first;
          last = f.last;
          marks_are = λ x y has. elim (cases_eq (entry lists own x y) base) [
            | inl same ↦
                let face = (n.alike x y s d has based.base).0 same in
                ap (λ (z : List Bool). is_set z (entry lists own x y)) e ∙ (ap (λ g. is_set (set old base false) g) same ∙ (get_or-set_same old base false false (omega arith) ∙ sym (ap alive face ∙ f.taken)))
            | inr ne ↦
                let live : alive (face_of lists x y) ≡ true = elim (cases_Bool (alive (face_of lists x y))) [
                  | inl t ↦ t
                  | inr dead ↦ absurd (ne ((n.alike x y s d has based.base).1 (f.outer x y has dead)))
                ] in
                ap (λ (z : List Bool). is_set z (entry lists own x y)) e ∙ (get_or-set_other old base (entry lists own x y) false false ne ∙ (all (entry lists own x y) (entry-lt lists own count n.own_table x y has) ∙ sym live))
          ];
        }

    -- the law of the first removal
    abbrev pub Found : Type 0
    Found = (alive : ℕ → Bool) × (w : ℕ → ℕ) × (r : ℕ) × (o : Removal) × IsFirst lists s d alive w r × IsTakenOff lists alive w r o × IsContour lists o.alive o.contour o.places × IsBegun lists o.alive o.contour o.places × (o.first + 2 ≡ r) × (o.vertices ≡ 1)

    pub found : Found
    found = first_taken_off_law lists s d simple polyhedral has_three based.base

    module _ (marks new : List Bool) (ws : List ℕ) (x : Found) (shown : IsShown lists own marks s d x.0 x.1 x.2) (list : IsListOf ws x.1 x.2) where
      pub two_first : 2 ≤ length ws
      two_first = let e = x.8 in let long = list.long in omega arith

      pub vertex_first : (k : ℕ) → k + 2 ≡ length ws → slice_index ws k ≡ x.1 (suc x.3.first)
      vertex_first k e = let at = x.8 in let long = list.long in let z : k ≡ suc x.3.first = omega arith in list.each k (omega arith) ∙ ap x.1 z

      module _ (k : ℕ) (e : k + 2 ≡ length ws) (set_is : (f : ℕ) → (is_set new f ≡ true) ↔ ((is_set marks f ≡ true) × (¬ Contains (list_of own (slice_index ws k)) f))) where
        pub off_first : IsOffBy lists own new s d ws x.0 x.1 x.2 x.3
        off_first =
            let w = x.1 in
            let o = x.3 in
            let r_is = x.8 in
            let v = slice_index ws k in
            let at : w (suc o.first) ≡ v = sym (vertex_first k e) in
            let v_in : v < length lists = subst (λ z. z < length lists) at (x.4.contour.edge (suc o.first) (omega arith)).dart.0 in
            record {
              contour = x.4.contour;
              list = list;
              off = x.5;
              next = record {
                contour = x.6;
                marks_are = marks_after_vertex lists own other count simple n marks new x.0 w x.2 o x.5 shown.marks_are x.4.contour x.6 x.9 v v_in at set_is;
                first = begins_as_before lists x.0 w x.2 o x.5 ∙ x.4.first;
                last = ends_as_before lists x.0 w x.2 o x.5 ∙ x.4.last;
              };
            }

        pub stands_first : (us : List ℕ) (old rows : ConvexRows) → HasRows old 0 → IsListOf us x.3.contour x.3.places → IsRowMore lists x.1 x.3 old rows → Stands lists own new s d us rows (suc (dart_count lists))
        stands_first us old rows none list' more =
            let o = x.3 in
            let le = count_below-le o.alive (dart_count lists) in
            record {
              alive = o.alive;
              w = o.contour;
              r = o.places;
              m = 1;
              shown = off_first.next;
              begun = x.7;
              labels = λ f t. x.4.labels f (x.5.still f t);
              list = list';
              ended = IsEnded-first lists s d simple based.three.connected polyhedral has_three based.base x.0 x.1 x.2 x.4 o x.5 x.8 x.9 x.6 old rows none more;
              fewer = omega arith;
            }

    -- the list of the contour where just the face of the base is taken off, and what goes with the vertex before the base
    module _ (marks : List Bool) (ws : List ℕ) (shows : (alive : ℕ → Bool) (w : ℕ → ℕ) (r : ℕ) → IsFirst lists s d alive w r → IsShown lists own marks s d alive w r) (is_list : (alive : ℕ → Bool) (w : ℕ → ℕ) (r : ℕ) → IsFirst lists s d alive w r → IsListOf ws w r) where
      abbrev x : Found
      x = found

      shown : IsShown lists own marks s d x.0 x.1 x.2
      shown = shows x.0 x.1 x.2 x.4

      list : IsListOf ws x.1 x.2
      list = is_list x.0 x.1 x.2 x.4

      pub begun_two : 2 ≤ length ws
      begun_two = two_first marks marks ws x shown list

      pub begun_short : length ws ≤ length lists
      begun_short = omega (arith, contour_short lists x.0 x.1 x.2 shown.contour, list.long)

      pub begun_in : (i : ℕ) → i < length ws → slice_index ws i < length lists
      begun_in = shown_in own marks ws x.0 x.1 x.2 shown list

      begun_edges : AreEdges lists ws
      begun_edges = shown_edges own marks ws x.0 x.1 x.2 shown list

      pub begun_inner : (inner inner' : List ℕ) → length inner ≡ length lists → ((alive : ℕ → Bool) (w : ℕ → ℕ) (r : ℕ) → IsFirst lists s d alive w r → IsNoted (λ i. entry lists own (w (suc i)) (w i)) w 0 r inner inner') → AreInner lists own ws inner'
      begun_inner inner inner' long noted =
          let is = noted x.0 x.1 x.2 x.4 in
          let many = list.long in
          record {
            long = is.long ∙ long;
            vertices = begun_in;
            edges = begun_edges;
            numbers = λ i l. ap (slice_index inner') (list.each i (omega arith)) ∙ (is.here i (omega arith) (omega arith) ∙ sym (ap₂ (entry lists own) (list.each (suc i) (omega arith)) (list.each i (omega arith))));
          }

      pub begun_room : (f : ℕ) → met_below own ws (length ws) f ≤ length ws
      begun_room = shown_room own marks ws x.0 x.1 x.2 shown list other count n

      pub begun_places : (m : ℕ) → m ≡ length ws → 3 ≤ m
      begun_places m e = omega (arith, x.8, list.long, e)

      module _ (new : List Bool) (all : List ℕ) (alone : all ≡ ws) (set_at : (f : ℕ) → (is_set new f ≡ true) ↔ ((is_set marks f ≡ true) × (¬ Contains (list_of own (slice_index ws (length ws - 2))) f))) (m : ℕ) (long : m ≡ length ws) where
        ends : length ws - 2 + 2 ≡ length ws
        ends = let two = begun_two in omega arith

        begun_off : IsOffAt lists own new s d all (m - 1 - 2) (m - 1) x.0 x.1 x.2 x.3
        begun_off =
            subst (λ (z : List ℕ). IsOffAt lists own new s d z (m - 1 - 2) (m - 1) x.0 x.1 x.2 x.3) (sym alone)
            (record { off_by = off_first marks new ws x shown list (length ws - 2) ends set_at; first_is = omega (arith, x.8, list.long, long); end_is = omega (arith, x.8, x.9, list.long, long) })

        pub begun_some : SomeOff lists own new s d all (m - 1 - 2) (m - 1)
        begun_some = record { alive = x.0; w = x.1; r = x.2; o = x.3; is = begun_off }

        pub begun_stands : (us : List ℕ) (old rows : ConvexRows) → HasRows old 0 → ((alive : ℕ → Bool) (w : ℕ → ℕ) (r : ℕ) (o : Removal) → IsOffAt lists own new s d all (m - 1 - 2) (m - 1) alive w r o → IsListOf us o.contour o.places) → ((alive : ℕ → Bool) (w : ℕ → ℕ) (r : ℕ) (o : Removal) → IsOffAt lists own new s d all (m - 1 - 2) (m - 1) alive w r o → IsRowMore lists w o old rows) → Stands lists own new s d us rows (suc (dart_count lists))
        begun_stands us old rows none goes_on more = stands_first marks new ws x shown list (length ws - 2) ends set_at us old rows none (goes_on x.0 x.1 x.2 x.3 begun_off) (more x.0 x.1 x.2 x.3 begun_off)

-- The row of a removal from the list of the contour before it and the beginning of the one after it.
use Rattle.std.proofs.Common.{◌≡◌, ℕ, suc, ◌+◌, ◌-◌, ◌<◌, Bool, List, length, slice_index, get_or, sym, ap, ap₂, ◌∙◌, subst, arith}
use Rattle.std.specs.Prelude.{slice_range}
use Rattle.simple_maps.proofs.FlatLemmas.{get_or-slice_range, length-slice_range}
use Rattle.map_lists.specs.Lists.{Lists}
use Rattle.map_theory.specs.Maps.{HasDart, IsSimpleMap}
use Rattle.convex_peeling.specs.Contours.{face_of, IsContour}
use Rattle.convex_peeling.specs.Removals.{Removal, IsTakenOff}
use Rattle.convex_peeling.proofs.Removed.{gone_within, first_lt}
use Rattle.convex_orders.specs.FaceNumbers.{entry, AreFaceNumbers}
use Rattle.convex_laws.specs.Removed.{IsRowOf}
use Rattle.convex_orders.specs.Contours.{AreEdges}
use Rattle.convex_orders.specs.Shown.{IsListOf, IsOffBy}
use Rattle.convex_orders.specs.Cuts.{edge_number, AreCutPlaces, IsCutRow}
use Rattle.convex_orders.proofs.RemovedFaces.{cut_high, made_along, made_once}

module _ (lists own other : Lists) (count : ℕ) (simple : IsSimpleMap lists) (n : AreFaceNumbers lists own other count) (marks : List Bool) (s d : ℕ) (ws us : List ℕ) (alive : ℕ → Bool) (w : ℕ → ℕ) (r : ℕ) (o : Removal) (is : IsOffBy lists own marks s d ws alive w r o) (list : IsListOf us o.contour o.last) where
  abbrev off : IsTakenOff lists alive w r o
  off = is.off

  abbrev next : IsContour lists o.alive o.contour o.places
  next = is.next.contour

  pub us_edges : (i : ℕ) → suc i < length us → HasDart lists (slice_index us i) (slice_index us (suc i))
  us_edges i l =
      subst (λ v. HasDart lists v (slice_index us (suc i))) (sym (list.each i (omega arith))) (subst (HasDart lists (o.contour i)) (sym (list.each (suc i) (omega arith))) (next.edge i (omega arith)).dart)

  pub us_back : AreEdges lists us
  us_back i l = simple.both_ways (slice_index us i) (slice_index us (suc i)) (us_edges i l)

  pub us_in : (i : ℕ) → i < length us → slice_index us i < length lists
  us_in i l =
      subst (λ v. v < length lists) (sym (list.each i (omega arith))) (next.edge i (omega arith)).dart.0

  number_at : (p : ℕ) → p < o.last → edge_number lists own us p ≡ entry lists own (o.contour p) (o.contour (suc p))
  number_at p l = ap₂ (entry lists own) (list.each p (omega arith)) (list.each (suc p) l)

  same_number : (p q : ℕ) → p < o.last → q < o.last → (face_of lists (o.contour p) (o.contour (suc p)) ≡ face_of lists (o.contour q) (o.contour (suc q))) → edge_number lists own us p ≡ edge_number lists own us q
  same_number p q l m e = let within = off.within in number_at p l ∙ ((n.alike (o.contour p) (o.contour (suc p)) (o.contour q) (o.contour (suc q)) (next.edge p (omega arith)).dart (next.edge q (omega arith)).dart).1 e ∙ sym (number_at q m))

  pub cut_places : AreCutPlaces (edge_number lists own us) o.first o.last o.faces o.cut
  cut_places =
      let along = made_along lists alive w r o simple is.contour off next in
      let high = cut_high lists alive w r o simple is.contour off next in
      record {
        some = off.some_face;
        begin = off.begin;
        end = off.end;
        rises = off.rises;
        same = λ i p l low m.
            let top = high (suc i) l in
            same_number p (suc p) (omega arith) (omega arith) (along i p l low (omega arith) ∙ sym (along i (suc p) l (omega arith) m));
        changes = λ i p l at e.
            let top = high (suc (suc i)) l in
            let s = off.rises i (omega arith) in
            let s' = off.rises (suc i) l in
            let same = (n.alike (o.contour p) (o.contour (suc p)) (o.contour (suc p)) (o.contour (suc (suc p))) (next.edge p (omega arith)).dart (next.edge (suc p) (omega arith)).dart).0 (sym (number_at p (omega arith)) ∙ (e ∙ number_at (suc p) (omega arith))) in
            let one = along i p (omega arith) (omega arith) (omega arith) in
            let two = along (suc i) (suc p) l (omega arith) (omega arith) in
            omega (arith, made_once lists alive w r o simple is.contour off next i (suc i) (omega arith) l (sym one ∙ (same ∙ two)));
      }

  pub row_of : (row cuts news : List ℕ) → IsCutRow cuts o.first o.faces o.cut → row ≡ slice_range us o.first (o.last + 1) → length news ≡ o.vertices → ((i : ℕ) → i < length news → slice_index news i ≡ slice_index ws (suc o.first + i)) → IsRowOf lists w o row cuts news
  row_of row cuts news c row_is news_long news_is =
      let order = first_lt lists alive w r o off in
      let long = is.list.long in
      let row_long : length row ≡ o.last + 1 - o.first = ap length row_is ∙ length-slice_range us o.first (o.last + 1) (omega arith) (omega arith) in
      let row_each : (i : ℕ) → i < length row → slice_index row i ≡ o.contour (o.first + i) = λ i l. ap (λ (z : List ℕ). get_or z i 0) row_is ∙ (get_or-slice_range us o.first (o.last + 1) i (omega arith) ∙ list.each (o.first + i) (omega arith)) in
      let news_each : (i : ℕ) → i < length news → slice_index news i ≡ w (suc (o.first + i)) = λ i l. news_is i l ∙ (let z : suc o.first + i ≡ suc (o.first + i) = omega arith in ap (λ k. slice_index ws k) z ∙ is.list.each (suc (o.first + i)) (omega arith)) in
      record {
        row_long = omega arith;
        row_each = row_each;
        row_in = λ i l. subst (λ v. v < length lists) (sym (row_each i l)) (next.edge (o.first + i) (omega arith)).dart.0;
        cuts_long = c.long;
        cuts_each = c.each;
        news_long = news_long;
        news_each = news_each;
        news_in = λ i l. subst (λ v. v < length lists) (sym (news_each i l)) (is.contour.edge (suc (o.first + i)) (omega arith)).dart.0;
      }

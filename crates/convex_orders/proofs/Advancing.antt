-- What a removal keeps of the tables: what is taken out, gone along and put in, by the state before and behind.
use Rattle.std.proofs.Common.{◌≡◌, ℕ, suc, ◌-◌, ◌<◌, Bool, List, length, sym, ap, ◌∙◌, subst, arith}
use Rattle.convex_peeling.specs.Removals.{Removal}
use Rattle.convex_laws.specs.declared.convex_rows.rows.ConvexRows.{ConvexRows}
use Rattle.convex_laws.specs.Removed.{IsRowMore}
use Rattle.convex_orders.specs.declared.contour_tracing.ContourFaces.{ContourFaces}
use Rattle.convex_orders.specs.declared.removals.RowTables.{RowTables}
use Rattle.convex_orders.specs.declared.map_tables.Tables.{Tables}
use Rattle.convex_orders.specs.declared.count_direction.Way.TheVariants.{Comes, Goes}
use Rattle.convex_orders.specs.Contours.{contour_of, vertices_of, AreInner, number_at}
use Rattle.convex_orders.specs.Counts.{AreCounts}
use Rattle.convex_orders.specs.Cuts.{AreCutPlaces, IsPutIn, IsTakenOut}
use Rattle.convex_orders.specs.Moved.{CanMoveAll, AreMoved}
use Rattle.convex_orders.specs.Noted.{AreRims, AreNoted}
use Rattle.convex_orders.specs.Shown.{IsListOf, IsOffAt, IsTrace, SomeTrace}
use Rattle.convex_orders.specs.Tables.{IsKept}
use Rattle.convex_orders.proofs.Advanced.{some_trace, new_list, put_order, us_short, us_inner, new_inner, can_come, new_counts, row_more}
use Rattle.convex_orders.proofs.Known.{based}

module _ (t : Tables) (s mid : RowTables) (first end x : ℕ) (marks : List Bool) (kept : IsKept t s) (out : IsTakenOut (vertices_of s.contour) mid.contour.left.items mid.contour.right.items x first end s.rows mid.rows) (same_marks : mid.marks ≡ s.marks) (same_rims : mid.rims ≡ s.rims) (read : marks ≡ mid.marks.items) where
  same : s.marks.items ≡ marks
  same = sym (read ∙ ap (λ m. m.items) same_marks)

  inner : AreInner t.lists t.faces.own (vertices_of s.contour) mid.rims.inner.items
  inner = subst (λ (r : ContourFaces). AreInner t.lists t.faces.own (vertices_of s.contour) r.inner.items) (sym same_rims) kept.inner

  module _ (alive : ℕ → Bool) (w : ℕ → ℕ) (r : ℕ) (o : Removal) (at : IsOffAt t.lists t.faces.own s.marks.items t.tail t.head (vertices_of s.contour) first end alive w r o) where
    pub begins : SomeTrace t.lists t.faces.own marks mid.contour.left.items x
    begins = subst (λ m. SomeTrace t.lists t.faces.own m mid.contour.left.items x) same
        (some_trace t.lists t.faces.own t.faces.other t.faces.count t.tail t.head (based t) t.numbers s.marks.items (vertices_of s.contour) first end alive w r o at mid.contour.left.items mid.contour.right.items x s.rows mid.rows out)

    module _ (us : List ℕ) (rims : ContourFaces) (traced : (alive : ℕ → Bool) (w : ℕ → ℕ) (r a b : ℕ) → IsTrace t.lists t.faces.own marks mid.contour.left.items x alive w r a b → IsListOf us w b) (traces : (alive : ℕ → Bool) (w : ℕ → ℕ) (r a b : ℕ) → IsTrace t.lists t.faces.own marks mid.contour.left.items x alive w r a b → AreNoted t.lists t.faces.own w a b mid.rims rims) where
      traced_by : (alive : ℕ → Bool) (w : ℕ → ℕ) (r a b : ℕ) → IsTrace t.lists t.faces.own s.marks.items mid.contour.left.items x alive w r a b → IsListOf us w b
      traced_by = subst (λ m. (alive : ℕ → Bool) (w : ℕ → ℕ) (r a b : ℕ) → IsTrace t.lists t.faces.own m mid.contour.left.items x alive w r a b → IsListOf us w b) (sym same) traced

      noted_by : (alive : ℕ → Bool) (w : ℕ → ℕ) (r a b : ℕ) → IsTrace t.lists t.faces.own s.marks.items mid.contour.left.items x alive w r a b → AreNoted t.lists t.faces.own w a b mid.rims rims
      noted_by = subst (λ m. (alive : ℕ → Bool) (w : ℕ → ℕ) (r a b : ℕ) → IsTrace t.lists t.faces.own m mid.contour.left.items x alive w r a b → AreNoted t.lists t.faces.own w a b mid.rims rims) (sym same) traces

      pub put_inner : AreInner t.lists t.faces.own us rims.inner.items
      put_inner = us_inner t.lists t.faces.own t.faces.other t.faces.count t.tail t.head (based t) t.numbers s.marks.items (vertices_of s.contour) first end alive w r o at mid.contour.left.items mid.contour.right.items x s.rows mid.rows out us traced_by mid.rims rims noted_by inner

      pub long_enough : suc first < length us
      long_enough = put_order t.lists t.faces.own t.faces.other t.faces.count t.tail t.head (based t) t.numbers s.marks.items (vertices_of s.contour) first end alive w r o at mid.contour.left.items mid.contour.right.items x s.rows mid.rows out us traced_by mid.rims rims noted_by inner

      pub short_enough : length us < 65536
      short_enough = omega (arith, t.few, us_short t.lists t.faces.own t.faces.other t.faces.count t.tail t.head (based t) t.numbers s.marks.items (vertices_of s.contour) first end alive w r o at mid.contour.left.items mid.contour.right.items x s.rows mid.rows out us traced_by mid.rims rims noted_by inner)

      pub list_after : IsListOf (contour_of us mid.contour.right.items) o.contour o.places
      list_after = new_list t.lists t.faces.own t.faces.other t.faces.count t.tail t.head (based t) t.numbers s.marks.items (vertices_of s.contour) first end alive w r o at mid.contour.left.items mid.contour.right.items x s.rows mid.rows out us traced_by mid.rims rims noted_by inner

      pub row_after : (new : ConvexRows) → ((faces : ℕ) (cut : ℕ → ℕ) → AreCutPlaces (number_at rims.outer.items us) first (length us - 1) faces cut → IsPutIn us first (length us - 1) faces cut mid.rows new) → IsRowMore t.lists w o s.rows new
      row_after = row_more t.lists t.faces.own t.faces.other t.faces.count t.tail t.head (based t) t.numbers s.marks.items (vertices_of s.contour) first end alive w r o at mid.contour.left.items mid.contour.right.items x s.rows mid.rows out us traced_by mid.rims rims noted_by inner

      module _ (less : AreMoved t.lists t.faces.own t.faces.count Goes (vertices_of s.contour) first end s.counts mid.counts) where
        pub room : CanMoveAll t.lists t.faces.own t.faces.count Comes us first (length us - 1) mid.counts
        room = can_come t.lists t.faces.own t.faces.other t.faces.count t.tail t.head (based t) t.numbers s.marks.items (vertices_of s.contour) first end alive w r o at mid.contour.left.items mid.contour.right.items x s.rows mid.rows out us traced_by mid.rims rims noted_by inner t.few s.counts mid.counts kept.counts less

        pub kept_after : (new : RowTables) → AreRims rims (length t.lists) → new.marks ≡ mid.marks → new.rims ≡ rims → vertices_of new.contour ≡ contour_of us mid.contour.right.items → new.contour.left.items ≡ us → AreMoved t.lists t.faces.own t.faces.count Comes us first (length us - 1) mid.counts new.counts → IsKept t new
        kept_after new size marks_are rims_are contour_is left_is more =
            record {
              marks_long = ap (λ m. length m.items) (marks_are ∙ same_marks) ∙ kept.marks_long;
              some = omega (arith, long_enough, ap length left_is);
              rims = subst (λ r. AreRims r (length t.lists)) (sym rims_are) size;
              inner = subst (λ z. AreInner t.lists t.faces.own z new.rims.inner.items) (sym contour_is)
                  (subst (λ (r : ContourFaces). AreInner t.lists t.faces.own (contour_of us mid.contour.right.items) r.inner.items) (sym rims_are)
                  (new_inner t.lists t.faces.own t.faces.other t.faces.count t.tail t.head (based t) t.numbers s.marks.items (vertices_of s.contour) first end alive w r o at mid.contour.left.items mid.contour.right.items x s.rows mid.rows out us traced_by mid.rims rims noted_by inner));
              counts = subst (λ z. AreCounts t.lists t.faces.own t.faces.count z new.counts.places.items new.counts.edges.items) (sym contour_is)
                  (new_counts t.lists t.faces.own t.faces.other t.faces.count t.tail t.head (based t) t.numbers s.marks.items (vertices_of s.contour) first end alive w r o at mid.contour.left.items mid.contour.right.items x s.rows mid.rows out us traced_by mid.rims rims noted_by inner t.few s.counts mid.counts kept.counts less new.counts more);
            }

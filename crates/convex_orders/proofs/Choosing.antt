-- One removal by the tables: what is chosen, and that the removals go on.
use Rattle.std.proofs.Common.{◌≡◌, ℕ, suc, Bool, List, length, sym, ◌∙◌, subst}
use Rattle.convex_laws.specs.Removed.{IsRowMore}
use Rattle.convex_peeling.specs.Removals.{Removal}
use Rattle.convex_orders.specs.declared.contour.Contour.{Contour}
use Rattle.convex_orders.specs.declared.removals.RowTables.{RowTables}
use Rattle.convex_orders.specs.declared.map_tables.Tables.{Tables}
use Rattle.convex_orders.specs.Contours.{vertices_of, AreInner}
use Rattle.convex_orders.specs.Counts.{AreCounts}
use Rattle.convex_orders.specs.Shown.{IsListOf, IsChoice, IsOffAt, SomeOff, GoesOffAt}
use Rattle.convex_orders.specs.Splits.{IsRemovablePlace}
use Rattle.convex_orders.specs.Standing.{Stands, HasOther}
use Rattle.convex_orders.specs.Tables.{CanGo, IsKept, StandsBy}
use Rattle.convex_orders.proofs.Known.{based}
use Rattle.convex_orders.proofs.Stretches.{some_place}
use Rattle.convex_orders.proofs.StandLemmas.{choice, off_by, stands_more}

module _ (t : Tables) (s : RowTables) (kept : IsKept t s) where
  -- where the place has moved
  module _ (contour : Contour) (same : vertices_of contour ≡ vertices_of s.contour) where
    pub inner_moved : AreInner t.lists t.faces.own (vertices_of contour) s.rims.inner.items
    inner_moved = subst (λ z. AreInner t.lists t.faces.own z s.rims.inner.items) (sym same) kept.inner

    pub counts_moved : AreCounts t.lists t.faces.own t.faces.count (vertices_of contour) s.counts.places.items s.counts.edges.items
    counts_moved = subst (λ z. AreCounts t.lists t.faces.own t.faces.count z s.counts.places.items s.counts.edges.items) (sym same) kept.counts

    pub can_go_on : (marks read : List Bool) → marks ≡ s.marks.items → read ≡ s.marks.items → ((j : ℕ) → suc j ≡ length contour.left.items → IsRemovablePlace t.faces.own t.faces.other read s.counts.places.items s.counts.edges.items (vertices_of s.contour) j) → (j : ℕ) → suc j ≡ length contour.left.items → CanGo t marks (vertices_of contour) j
    can_go_on marks read marks_are read_is found j e = record {
      places = s.counts.places.items;
      edges = s.counts.edges.items;
      counts = counts_moved;
      marks_long = subst (λ m. length m ≡ t.faces.count) (sym marks_are) kept.marks_long;
      place = subst (λ z. IsRemovablePlace t.faces.own t.faces.other marks s.counts.places.items s.counts.edges.items z j) (sym same)
          (subst (λ m. IsRemovablePlace t.faces.own t.faces.other m s.counts.places.items s.counts.edges.items (vertices_of s.contour) j) (read_is ∙ sym marks_are) (found j e));
    }

  module _ (bound : ℕ) (st : StandsBy t s bound) (other : HasOther t.lists t.faces.own t.tail t.head (vertices_of s.contour)) where
    chosen : IsChoice t.lists t.faces.own s.marks.items t.tail t.head (vertices_of s.contour) st.alive st.w st.r
    chosen = choice t.lists t.tail t.head (based t) t.faces.own s.marks.items (vertices_of s.contour) s.rows bound st other

    pub removable : (marks : List Bool) → marks ≡ s.marks.items → (j : ℕ) × IsRemovablePlace t.faces.own t.faces.other marks s.counts.places.items s.counts.edges.items (vertices_of s.contour) j
    removable marks read =
        let some = some_place t.lists t.faces.own t.faces.other t.faces.count t.tail t.head (based t) t.numbers s.marks.items (vertices_of s.contour) s.counts.places.items s.counts.edges.items kept.counts st.alive st.w st.r chosen in
        (some.0, subst (λ m. IsRemovablePlace t.faces.own t.faces.other m s.counts.places.items s.counts.edges.items (vertices_of s.contour) some.0) (sym read) some.1)

    module _ (contour : Contour) (same : vertices_of contour ≡ vertices_of s.contour) (marks read : List Bool) (read_is : read ≡ s.marks.items) (first end : ℕ) (goes : (alive : ℕ → Bool) (w : ℕ → ℕ) (r : ℕ) → IsChoice t.lists t.faces.own read t.tail t.head (vertices_of contour) alive w r → GoesOffAt t.lists t.faces.own marks alive w r first end) where
      at : GoesOffAt t.lists t.faces.own marks st.alive st.w st.r first end
      at = goes st.alive st.w st.r (subst (λ z. IsChoice t.lists t.faces.own read t.tail t.head z st.alive st.w st.r) (sym same) (subst (λ m. IsChoice t.lists t.faces.own m t.tail t.head (vertices_of s.contour) st.alive st.w st.r) (sym read_is) chosen))

      off : IsOffAt t.lists t.faces.own marks t.tail t.head (vertices_of contour) first end st.alive st.w st.r at.go.o
      off = subst (λ z. IsOffAt t.lists t.faces.own marks t.tail t.head z first end st.alive st.w st.r at.go.o) (sym same)
          (record { off_by = off_by t.lists t.tail t.head (based t) t.faces.own s.marks.items (vertices_of s.contour) s.rows bound st marks at.go; first_is = at.first_is; end_is = at.end_is })

      pub some_off : SomeOff t.lists t.faces.own marks t.tail t.head (vertices_of contour) first end
      some_off = record { alive = st.alive; w = st.w; r = st.r; o = at.go.o; is = off }

      pub stands_on : (less : ℕ) → bound ≡ suc less → (new : RowTables) → new.marks.items ≡ marks
          → ((alive : ℕ → Bool) (w : ℕ → ℕ) (r : ℕ) (o : Removal) → IsOffAt t.lists t.faces.own marks t.tail t.head (vertices_of contour) first end alive w r o → IsListOf (vertices_of new.contour) o.contour o.places)
          → ((alive : ℕ → Bool) (w : ℕ → ℕ) (r : ℕ) (o : Removal) → IsOffAt t.lists t.faces.own marks t.tail t.head (vertices_of contour) first end alive w r o → IsRowMore t.lists w o s.rows new.rows)
          → StandsBy t new less
      stands_on less e new marks_are list row =
          subst (λ m. Stands t.lists t.faces.own m t.tail t.head (vertices_of new.contour) new.rows less) (sym marks_are)
          (stands_more t.lists t.tail t.head (based t) t.faces.own s.marks.items (vertices_of s.contour) s.rows bound st marks at.go less e (vertices_of new.contour) new.rows (list st.alive st.w st.r at.go.o off) (row st.alive st.w st.r at.go.o off))

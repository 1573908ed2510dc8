use Rattle.std.proofs.Common.{◌≡◌, ◌-◌, ◌<◌, ℕ, suc, List, length, slice_index, drop, sym, ap, subst, arith}
use Rattle.convex_orders.specs.Contours.{number_at}
use Rattle.convex_orders.specs.Counts.{met_below, numbered_below, met_between, edges_between}
use Rattle.convex_orders.specs.Ways.{CanMove, IsMoved}
use Rattle.convex_orders.proofs.CountLemmas.{met_part, edges_part, part_vertices, part_starts, part_below, rows_below, AreInner-below, lent, AreMoved-lent}
use Rattle.convex_orders.proofs.Known.{AreInner-known}
use Rattle.convex_orders.proofs.contour_counts.ContourCounts.move_part.Goals as goal

pub move_rows-requires-clause-vertices : goal.move_rows-requires-clause-vertices
move_rows-requires-clause-vertices c =
    let own = c.args.stretch.now.tables.now.faces.own in
    subst (λ (z : List ℕ). (i : ℕ) → i < length z → slice_index z i < length own) (sym c.part.ensures) (part_vertices c.args.stretch.now.ws.now c.args.stretch.now.first c.args.stretch.now.last (length own) c.args.stretch.now.order c.args.stretch.now.within (λ i l. omega (arith, (AreInner-known _ _ _ _ c.args.stretch.now.numbered).vertices i l, c.args.stretch.now.tables.now.numbers.own_table.rows)))

pub move_rows-requires-clause-below : goal.move_rows-requires-clause-below
move_rows-requires-clause-below c = rows_below c.args.stretch.now.tables.now.lists c.args.stretch.now.tables.now.faces.own c.args.stretch.now.tables.now.faces.count (length c.deref_mut.result.now) c.args.stretch.now.tables.now.numbers.own_table (omega (arith, ap length c.deref_mut.ensures.value, c.requires.size.places))

pub move_rows-requires-clause-can : goal.move_rows-requires-clause-can
move_rows-requires-clause-can c = λ f l.
    let own = c.args.stretch.now.tables.now.faces.own in
    let value : c.deref_mut.result.now ≡ c.args.self.now.places.items = c.deref_mut.ensures.value in
    let e = met_part own c.args.stretch.now.ws.now c.args.stretch.now.first c.args.stretch.now.last f c.args.stretch.now.order c.args.stretch.now.within in
    subst (λ (z : List ℕ). CanMove c.args.way (slice_index c.deref_mut.result.now f) (met_below own z (length z) f)) (sym c.part.ensures)
    (subst (λ n. CanMove c.args.way (slice_index c.deref_mut.result.now f) n) (sym e)
    (subst (λ (z : List ℕ). CanMove c.args.way (slice_index z f) (met_between own c.args.stretch.now.ws.now c.args.stretch.now.first c.args.stretch.now.last f)) (sym value) (c.requires.can.places f (omega (arith, l, ap length value, c.requires.size.places)))))

pub move_edges-requires-clause-vertices : goal.move_edges-requires-clause-vertices
move_edges-requires-clause-vertices c =
    let s = c.args.stretch.now in
    let known = AreInner-known _ _ _ _ s.numbered in
    subst (λ (z : List ℕ). (i : ℕ) → suc i < length z → slice_index z i < length s.inner.now) (sym c.part-2.ensures)
    (part_starts s.ws.now s.first s.last (length s.inner.now) s.order s.within (λ i l. omega (arith, known.vertices i l, known.long)))

pub move_edges-requires-clause-below : goal.move_edges-requires-clause-below
move_edges-requires-clause-below c =
    let value : c.deref_mut-2.result.now ≡ c.args.self.now.edges.items = c.deref_mut-2.ensures.value in
    subst (λ (z : List ℕ). (i : ℕ) → suc i < length z → number_at c.args.stretch.now.inner.now z i < length c.deref_mut-2.result.now) (sym c.part-2.ensures)
    (part_below c.args.stretch.now.ws.now c.args.stretch.now.inner.now c.args.stretch.now.first c.args.stretch.now.last (length c.deref_mut-2.result.now) c.args.stretch.now.order c.args.stretch.now.within
    (λ i l. omega (arith, AreInner-below c.args.stretch.now.tables.now.lists c.args.stretch.now.tables.now.faces.own c.args.stretch.now.tables.now.faces.count c.args.stretch.now.ws.now c.args.stretch.now.inner.now c.args.stretch.now.tables.now.numbers.own_table (AreInner-known _ _ _ _ c.args.stretch.now.numbered) i l, ap length value, c.requires.size.edges)))

pub move_edges-requires-clause-can : goal.move_edges-requires-clause-can
move_edges-requires-clause-can c = λ f l.
    let own = c.args.stretch.now.tables.now.faces.own in
    let value : c.deref_mut-2.result.now ≡ c.args.self.now.edges.items = c.deref_mut-2.ensures.value in
    let e = edges_part c.args.stretch.now.tables.now.lists own c.args.stretch.now.ws.now c.args.stretch.now.inner.now c.args.stretch.now.first c.args.stretch.now.last f c.args.stretch.now.order c.args.stretch.now.within (AreInner-known _ _ _ _ c.args.stretch.now.numbered) in
    subst (λ (z : List ℕ). CanMove c.args.way (slice_index c.deref_mut-2.result.now f) (numbered_below (number_at c.args.stretch.now.inner.now z) (length z - 1) f)) (sym c.part-2.ensures)
    (subst (λ n. CanMove c.args.way (slice_index c.deref_mut-2.result.now f) n) (sym e)
    (subst (λ (z : List ℕ). CanMove c.args.way (slice_index z f) (edges_between c.args.stretch.now.tables.now.lists own c.args.stretch.now.ws.now c.args.stretch.now.first c.args.stretch.now.last f)) (sym value) (c.requires.can.edges f (omega (arith, l, ap length value, c.requires.size.edges)))))

pub returns : goal.returns
returns c =
    let own = c.args.stretch.now.tables.now.faces.own in
    let s = c.args.self.now in
    let places = c.move_rows.new.counts in
    let edges = c.move_edges.new.counts in
    let value : c.deref_mut.result.now ≡ s.places.items = c.deref_mut.ensures.value in
    let value' : c.deref_mut-2.result.now ≡ s.edges.items = c.deref_mut-2.ensures.value in
    let long : length places ≡ c.args.stretch.now.tables.now.faces.count = omega (arith, c.move_rows.auto.counts, ap length value, c.requires.size.places) in
    let long' : length edges ≡ c.args.stretch.now.tables.now.faces.count = omega (arith, c.move_edges.auto.counts, ap length value', c.requires.size.edges) in
    AreMoved-lent c.args.stretch.now.tables.now.lists own c.args.stretch.now.tables.now.faces.count c.args.way c.args.stretch.now.ws.now c.args.stretch.now.first c.args.stretch.now.last s _ places edges
    (lent s.places.len places (drop (length places) s.places.items) (omega (arith, long, c.requires.size.places))) (lent s.edges.len edges (drop (length edges) s.edges.items) (omega (arith, long', c.requires.size.edges))) long long'
    (λ f l.
    let e = met_part own c.args.stretch.now.ws.now c.args.stretch.now.first c.args.stretch.now.last f c.args.stretch.now.order c.args.stretch.now.within in
    subst (λ n. IsMoved c.args.way (slice_index s.places.items f) n (slice_index places f)) e
    (subst (λ (z : List ℕ). IsMoved c.args.way (slice_index s.places.items f) (met_below own z (length z) f) (slice_index places f)) c.part.ensures
    (subst (λ (z : List ℕ). IsMoved c.args.way (slice_index z f) (met_below own c.part.result.now (length c.part.result.now) f) (slice_index places f)) value (c.move_rows.ensures f (omega (arith, l, ap length value, c.requires.size.places))))))
    (λ f l.
    let e = edges_part c.args.stretch.now.tables.now.lists own c.args.stretch.now.ws.now c.args.stretch.now.inner.now c.args.stretch.now.first c.args.stretch.now.last f c.args.stretch.now.order c.args.stretch.now.within (AreInner-known _ _ _ _ c.args.stretch.now.numbered) in
    subst (λ n. IsMoved c.args.way (slice_index s.edges.items f) n (slice_index edges f)) e
    (subst (λ (z : List ℕ). IsMoved c.args.way (slice_index s.edges.items f) (numbered_below (number_at c.args.stretch.now.inner.now z) (length z - 1) f) (slice_index edges f)) c.part-2.ensures
    (subst (λ (z : List ℕ). IsMoved c.args.way (slice_index z f) (numbered_below (number_at c.args.stretch.now.inner.now c.part-2.result.now) (length c.part-2.result.now - 1) f) (slice_index edges f)) value' (c.move_edges.ensures f (omega (arith, l, ap length value', c.requires.size.edges))))))

use Rattle.std.proofs.Common.{◌≡◌, ◌-◌, ℕ, List, length, slice_index, drop, ap, arith}
use Rattle.convex_orders.specs.Contours.{number_at}
use Rattle.convex_orders.specs.Counts.{numbered_below}
use Rattle.convex_orders.proofs.CountLemmas.{edges_all, numbered_le, AreInner-below, lent, AreCounts-lent}
use Rattle.convex_orders.proofs.contour_counts.ContourCounts.count_all.Goals as goal

pub move_edges-requires-clause-below : goal.move_edges-requires-clause-below
move_edges-requires-clause-below c = λ i l.
    let value : c.deref_mut-2.result.now ≡ c.args.self.now.edges.items = c.deref_mut-2.ensures.value in
    omega (arith, AreInner-below c.args.tables.now.lists c.args.tables.now.faces.own c.args.tables.now.faces.count c.args.ws.now c.args.inner.now c.args.tables.now.numbers.own_table c.requires.inner i l, ap length value, c.requires.size.edges)

pub move_edges-requires-clause-can : goal.move_edges-requires-clause-can
move_edges-requires-clause-can c = λ f l.
    let value : c.deref_mut-2.result.now ≡ c.args.self.now.edges.items = c.deref_mut-2.ensures.value in
    omega (arith, ap (λ (z : List ℕ). slice_index z f) value, c.requires.none.edges f, c.requires.few, numbered_le (number_at c.args.inner.now c.args.ws.now) (length c.args.ws.now - 1) f)

pub returns : goal.returns
returns c =
    let s = c.args.self.now in
    let ws = c.args.ws.now in
    let places = c.move_rows.new.counts in
    let edges = c.move_edges.new.counts in
    let value : c.deref_mut.result.now ≡ s.places.items = c.deref_mut.ensures.value in
    let value' : c.deref_mut-2.result.now ≡ s.edges.items = c.deref_mut-2.ensures.value in
    let long : length places ≡ c.args.tables.now.faces.count = omega (arith, c.move_rows.auto.counts, ap length value, c.requires.size.places) in
    let long' : length edges ≡ c.args.tables.now.faces.count = omega (arith, c.move_edges.auto.counts, ap length value', c.requires.size.edges) in
    AreCounts-lent c.args.tables.now.lists c.args.tables.now.faces.own c.args.tables.now.faces.count ws places edges _ _
    (lent s.places.len places (drop (length places) s.places.items) (omega (arith, long, c.requires.size.places))) (lent s.edges.len edges (drop (length edges) s.edges.items) (omega (arith, long', c.requires.size.edges)))
    (record {
      places_long = long;
      edges_long = long';
      places_are = λ f l. omega (arith, c.move_rows.ensures f (omega (arith, l, ap length value, c.requires.size.places)), ap (λ (z : List ℕ). slice_index z f) value, c.requires.none.places f);
      edges_are = λ f r l e.
          let z : length ws - 1 ≡ r = omega arith in
          let all = edges_all c.args.tables.now.lists c.args.tables.now.faces.own ws c.args.inner.now r f (omega arith) c.requires.inner in
          omega (arith, c.move_edges.ensures f (omega (arith, l, ap length value', c.requires.size.edges)), ap (λ (z : List ℕ). slice_index z f) value', c.requires.none.edges f, ap (λ k. numbered_below (number_at c.args.inner.now ws) k f) z, all);
    })

use Rattle.std.proofs.Common.{◌≡◌, ◌<◌, List, ℕ, false, length, set, refl, sym, ap, ◌∙◌, subst, arith}
use Rattle.convex_orders.specs.Contours.{contour_of, AreInner}
use Rattle.convex_orders.specs.Counts.{met_below, AreCounts}
use Rattle.convex_orders.proofs.Beginnings.{base_in, marks_first, shown, some_first, list_first, some_vertex, short_first, room_first, inner_first}
use Rattle.convex_orders.proofs.Known.{based}
use Rattle.convex_orders.proofs.LastRounds.{contour_all}
use Rattle.convex_orders.proofs.removals.RowTables.first_contour.Goals as goal

pub number_of-f-requires : goal.number_of-f-requires
number_of-f-requires c = record { dart = (based c.args.tables.now).base }

pub index_mut-requires : goal.index_mut-requires
index_mut-requires c = omega (arith, base_in c.args.tables.now c.args.self.now c.requires.blank c.number_of-f.result c.number_of-f.ensures)

pub trace-requires-clause-some : goal.trace-requires-clause-some
trace-requires-clause-some c = some_first c.args.tables.now c.args.self.now c.requires.blank c.number_of-f.result c.number_of-f.ensures c.deref.result.now c.deref.ensures.value c.push.new.self.items c.in_ok-push.ensures.items

pub count_all-requires-clause-inner : goal.count_all-requires-clause-inner
count_all-requires-clause-inner c =
    let t = c.args.tables.now in
    subst (λ z. AreInner t.lists t.faces.own z c.deref-2.result.now) (sym c.deref-3.ensures.value) (subst (AreInner t.lists t.faces.own c.trace.new.left.items) (sym c.deref-2.ensures.value) (inner_first c.args.tables.now c.args.self.now c.requires.blank c.number_of-f.result c.number_of-f.ensures c.deref.result.now c.deref.ensures.value c.push.new.self.items c.in_ok-push.ensures.items c.trace.new.left.items c.trace.new.self c.in_ok-trace.ensures.list c.in_ok-trace.ensures.noted))

pub count_all-requires-clause-some : goal.count_all-requires-clause-some
count_all-requires-clause-some c = omega (arith, some_vertex c.args.tables.now c.args.self.now c.requires.blank c.number_of-f.result c.number_of-f.ensures c.deref.result.now c.deref.ensures.value c.push.new.self.items c.in_ok-push.ensures.items c.trace.new.left.items c.trace.new.self c.in_ok-trace.ensures.list c.in_ok-trace.ensures.noted, ap length c.deref-3.ensures.value)

pub count_all-requires-clause-few : goal.count_all-requires-clause-few
count_all-requires-clause-few c = omega (arith, short_first c.args.tables.now c.args.self.now c.requires.blank c.number_of-f.result c.number_of-f.ensures c.deref.result.now c.deref.ensures.value c.push.new.self.items c.in_ok-push.ensures.items c.trace.new.left.items c.trace.new.self c.in_ok-trace.ensures.list c.in_ok-trace.ensures.noted, ap length c.deref-3.ensures.value)

pub count_all-requires-clause-once : goal.count_all-requires-clause-once
count_all-requires-clause-once c = subst (λ (z : List ℕ). (f : ℕ) → met_below c.args.tables.now.faces.own z (length z) f < 65536) (sym c.deref-3.ensures.value) (room_first c.args.tables.now c.args.self.now c.requires.blank c.number_of-f.result c.number_of-f.ensures c.deref.result.now c.deref.ensures.value c.push.new.self.items c.in_ok-push.ensures.items c.trace.new.left.items c.trace.new.self c.in_ok-trace.ensures.list c.in_ok-trace.ensures.noted)

pub returns-clause-kept : goal.returns-clause-kept
returns-clause-kept c =
    let t = c.args.tables.now in
    let s = c.args.self.now in
    let us = c.trace.new.left.items in
    let alone : contour_of us s.contour.right.items ≡ us = contour_all us s.contour.right.items (ap length c.requires.blank.right) in
    let counts = c.count_all.new.self in
    record {
      marks_long = marks_first c.args.tables.now c.args.self.now c.requires.blank c.number_of-f.result c.number_of-f.ensures (set s.marks.items c.number_of-f.result false) refl c.push.new.self.items c.in_ok-push.ensures.items;
      some = some_vertex c.args.tables.now c.args.self.now c.requires.blank c.number_of-f.result c.number_of-f.ensures c.deref.result.now c.deref.ensures.value c.push.new.self.items c.in_ok-push.ensures.items c.trace.new.left.items c.trace.new.self c.in_ok-trace.ensures.list c.in_ok-trace.ensures.noted;
      rims = c.trace.ensures.size;
      inner = subst (λ z. AreInner t.lists t.faces.own z c.trace.new.self.inner.items) (sym alone) (inner_first c.args.tables.now c.args.self.now c.requires.blank c.number_of-f.result c.number_of-f.ensures c.deref.result.now c.deref.ensures.value c.push.new.self.items c.in_ok-push.ensures.items c.trace.new.left.items c.trace.new.self c.in_ok-trace.ensures.list c.in_ok-trace.ensures.noted);
      counts = subst (λ z. AreCounts t.lists t.faces.own t.faces.count z counts.places.items counts.edges.items) (c.deref-3.ensures.value ∙ sym alone) c.count_all.ensures;
    }

pub returns-clause-shown : goal.returns-clause-shown
returns-clause-shown c = shown c.args.tables.now c.args.self.now c.requires.blank c.number_of-f.result c.number_of-f.ensures (set c.args.self.now.marks.items c.number_of-f.result false) refl c.push.new.self.items c.in_ok-push.ensures.items

pub returns-clause-list : goal.returns-clause-list
returns-clause-list c = list_first c.args.tables.now c.args.self.now c.requires.blank c.number_of-f.result c.number_of-f.ensures c.deref.result.now c.deref.ensures.value c.push.new.self.items c.in_ok-push.ensures.items c.trace.new.left.items c.trace.new.self c.in_ok-trace.ensures.list c.in_ok-trace.ensures.noted

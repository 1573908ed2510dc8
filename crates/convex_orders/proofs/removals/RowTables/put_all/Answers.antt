use Rattle.std.proofs.Common.{◌≡◌, ◌↔◌, ◌<◌, ◌-◌, ◌++◌, Bool, true, List, ℕ, suc, length, get_or, Contains, drop, take, sym, ap, ◌∙◌, subst, arith}
use Rattle.std.proofs.lemmas.List.{get_or_default}
use Rattle.map_theory.specs.Maps.{list_of, dart_count}
use Rattle.convex_laws.specs.Removed.{HasRows}
use Rattle.convex_orders.specs.Contours.{vertices_of}
use Rattle.convex_orders.specs.Shown.{is_set}
use Rattle.convex_orders.specs.Standing.{Stands}
use Rattle.convex_orders.proofs.CountLemmas.{lent}
use Rattle.convex_orders.proofs.Known.{based}
use Rattle.convex_orders.proofs.LastRounds.{contour_all}
use Rattle.convex_orders.proofs.StandLemmas.{begun_in, begun_places, begun_some, begun_stands}
use Rattle.convex_orders.proofs.removals.RowTables.put_all.Goals as goal
use Rattle.convex_orders.proofs.removals.RowTables.put_all.Goals.{After-index-v, After-clear_faces}

pub overflow_sub-r-2 : goal.overflow_sub-r-2
overflow_sub-r-2 c = omega (arith, begun_places _ _ _ (based c.args.tables.now) _ _ _ c.args.tables.now.numbers c.first_contour.new.self.marks.items c.first_contour.new.self.contour.left.items c.in_ok-first_contour.ensures.shown c.in_ok-first_contour.ensures.list c.len-r.result (omega (arith, c.len-r.ensures)))

pub overflow_sub-r-3 : goal.overflow_sub-r-3
overflow_sub-r-3 c = omega (arith, begun_places _ _ _ (based c.args.tables.now) _ _ _ c.args.tables.now.numbers c.first_contour.new.self.marks.items c.first_contour.new.self.contour.left.items c.in_ok-first_contour.ensures.shown c.in_ok-first_contour.ensures.list c.len-r.result (omega (arith, c.len-r.ensures)))

-- the vertex before the base
before_base : (c : After-index-v) → (c.index-v.result.now ≡ get_or c.first_contour.new.self.contour.left.items (length c.first_contour.new.self.contour.left.items - 2) 0) × (c.index-v.result.now < length c.args.tables.now.lists)
before_base c =
    let t = c.args.tables.now in
    let left = c.first_contour.new.self.contour.left.items in
    let k : ℕ = c.len-r.result - 1 - 1 in
    let three = begun_places _ _ _ (based t) _ _ _ t.numbers c.first_contour.new.self.marks.items left c.in_ok-first_contour.ensures.shown c.in_ok-first_contour.ensures.list c.len-r.result (omega (arith, c.len-r.ensures)) in
    let within : k < length left = omega (arith, three, c.len-r.ensures) in
    let place : k ≡ length left - 2 = omega (arith, c.len-r.ensures) in
    let read : c.index-v.result.now ≡ get_or left k 0 = c.index-v.ensures ∙ get_or_default left k _ 0 within in
    (read ∙ ap (λ k. get_or left k 0) place, omega (arith, begun_in _ _ _ (based t) _ _ _ t.numbers c.first_contour.new.self.marks.items left c.in_ok-first_contour.ensures.shown c.in_ok-first_contour.ensures.list k within, read))

pub list-requires : goal.list-requires
list-requires c = omega (arith, (before_base (goal.at.list-requires c).After-index-v).1, c.args.tables.now.numbers.own_table.rows)

pub clear_faces-requires : goal.clear_faces-requires
clear_faces-requires c =
    let inside = (before_base (goal.at.clear_faces-requires c).After-index-v).1 in
    record { within = subst (λ (z : List ℕ). (k : ℕ) → k < length z → get_or z k 0 < length c.deref_mut.result.now) (sym c.list.ensures) (λ i m. omega (arith, c.args.tables.now.numbers.own_table.below c.index-v.result.now i inside m, ap length c.deref_mut.ensures.value, c.in_ok-first_contour.ensures.kept.marks_long)) }

-- its faces have no mark any more
cleared : (c : After-clear_faces) → c.index-v.result.now ≡ get_or c.first_contour.new.self.contour.left.items (length c.first_contour.new.self.contour.left.items - 2) 0 → (f : ℕ) → (is_set (take c.first_contour.new.self.marks.len (c.clear_faces.new.marks ++ drop (length c.clear_faces.new.marks) c.first_contour.new.self.marks.items)) f ≡ true) ↔ ((is_set c.first_contour.new.self.marks.items f ≡ true) × (¬ Contains (list_of c.args.tables.now.faces.own (get_or c.first_contour.new.self.contour.left.items (length c.first_contour.new.self.contour.left.items - 2) 0)) f))
cleared c at =
    let s = c.first_contour.new.self in
    let marks = c.clear_faces.new.marks in
    let old : c.deref_mut.result.now ≡ s.marks.items = c.deref_mut.ensures.value in
    let row = c.list.ensures ∙ ap (list_of c.args.tables.now.faces.own) at in
    let same = lent s.marks.len marks (drop (length marks) s.marks.items) (omega (arith, c.clear_faces.ensures.long, ap length old)) in
    subst (λ (us : List ℕ). (f : ℕ) → (is_set (take s.marks.len (marks ++ drop (length marks) s.marks.items)) f ≡ true) ↔ ((is_set s.marks.items f ≡ true) × (¬ Contains us f))) row
    (subst (λ (m : List Bool). (f : ℕ) → (is_set m f ≡ true) ↔ ((is_set s.marks.items f ≡ true) × (¬ Contains c.list.result.now f))) (sym same) (subst (λ (m : List Bool). (f : ℕ) → (is_set marks f ≡ true) ↔ ((is_set m f ≡ true) × (¬ Contains c.list.result.now f))) old c.clear_faces.ensures.set))

pub advance-requires-clause-some : goal.advance-requires-clause-some
advance-requires-clause-some c =
    let t = c.args.tables.now in
    let s = c.first_contour.new.self in
    let first = c.in_ok-first_contour.ensures in
    begun_some _ _ _ (based t) _ _ _ t.numbers s.marks.items s.contour.left.items first.shown first.list _ (vertices_of s.contour) (contour_all s.contour.left.items s.contour.right.items (ap length first.right)) (cleared (goal.at.advance-requires-clause-some c).After-clear_faces (before_base (goal.at.advance-requires-clause-some c).After-index-v).0) c.len-r.result (omega (arith, c.len-r.ensures))

pub peel-requires-clause-stands : goal.peel-requires-clause-stands
peel-requires-clause-stands c =
    let t = c.args.tables.now in
    let s = c.first_contour.new.self in
    let first = c.in_ok-first_contour.ensures in
    let new = c.advance.new.self in
    let st = begun_stands _ _ _ (based t) _ _ _ t.numbers s.marks.items s.contour.left.items first.shown first.list _ (vertices_of s.contour) (contour_all s.contour.left.items s.contour.right.items (ap length first.right)) (cleared (goal.at.peel-requires-clause-stands c).After-clear_faces (before_base (goal.at.peel-requires-clause-stands c).After-index-v).0) c.len-r.result (omega (arith, c.len-r.ensures)) (vertices_of new.contour) s.rows new.rows (subst (λ r. HasRows r 0) (sym first.rows) c.requires.blank.rows) c.in_ok-advance.ensures.list c.in_ok-advance.ensures.row in
    subst (λ (m : List Bool). Stands t.lists t.faces.own m t.tail t.head (vertices_of new.contour) new.rows (suc (dart_count t.lists))) (sym (ap (λ m. m.items) c.in_ok-advance.ensures.marks)) st

use Rattle.std.proofs.Common.{rules, List, Bool, suc, ◌++◌, length, drop, take, refl, sym, ap, ◌∙◌, subst, arith}
use Rattle.convex_orders.specs.Contours.{vertices_of}
use Rattle.convex_orders.specs.Shown.{SomeOff, GoesOffAt}
use Rattle.convex_orders.proofs.CountLemmas.{lent}
use Rattle.convex_orders.proofs.Choosing.{inner_moved, counts_moved, can_go_on, removable, some_off, stands_on}
use Rattle.convex_orders.proofs.removals.RowTables.round.Goals as goal

pub find-requires-clause-removable : goal.find-requires-clause-removable
find-requires-clause-removable c = removable c.args.tables.now c.args.self.now c.requires.kept c.requires.stands.0 c.requires.stands.1 c.requires.other c.deref.result.now c.deref.ensures.value

pub invariant_of-edges : goal.invariant_of-edges
invariant_of-edges c = record { some = search rules; numbered = ∣ search rules ∣₁ }

pub take_run-first-requires : goal.take_run-first-requires
take_run-first-requires c = record {
  place = can_go_on c.args.tables.now c.args.self.now c.requires.kept c.find.new.contour c.in_ok-find.ensures.same c.deref_mut.result.now c.deref.result.now c.deref_mut.ensures.value c.deref.ensures.value c.in_ok-find.ensures.found;
}

pub advance-requires-clause-some : goal.advance-requires-clause-some
advance-requires-clause-some c =
    let t = c.args.tables.now in
    let s = c.args.self.now in
    let marks = c.take_run-first.new.marks in
    let off = some_off c.args.tables.now c.args.self.now c.requires.kept c.requires.stands.0 c.requires.stands.1 c.requires.other c.find.new.contour c.in_ok-find.ensures.same c.take_run-first.new.marks c.deref_mut.result.now c.deref_mut.ensures.value c.take_run-first.result.0 c.take_run-first.result.1 c.take_run-first.ensures.goes in
    subst (λ (m : List Bool). SomeOff t.lists t.faces.own m t.tail t.head (vertices_of c.find.new.contour) c.take_run-first.result.0 c.take_run-first.result.1) (sym (lent s.marks.len marks (drop (length marks) s.marks.items) (omega (arith, c.take_run-first.ensures.long, ap length c.deref_mut.ensures.value)))) off

pub advance-requires-clause-kept : goal.advance-requires-clause-kept
advance-requires-clause-kept c =
    let s = c.args.self.now in
    let kept = c.requires.kept in
    let marks = c.take_run-first.new.marks in
    record {
      marks_long = ap length (lent s.marks.len marks (drop (length marks) s.marks.items) (omega (arith, c.take_run-first.ensures.long, ap length c.deref_mut.ensures.value))) ∙ (c.take_run-first.ensures.long ∙ (ap length c.deref_mut.ensures.value ∙ kept.marks_long));
      some = c.in_ok-find.ensures.some;
      rims = kept.rims;
      inner = inner_moved c.args.tables.now c.args.self.now c.requires.kept c.find.new.contour c.in_ok-find.ensures.same;
      counts = counts_moved c.args.tables.now c.args.self.now c.requires.kept c.find.new.contour c.in_ok-find.ensures.same;
    }

pub returns-clause-stands : goal.returns-clause-stands
returns-clause-stands c = λ bound stands.
    let s = c.args.self.now in
    let marks = c.take_run-first.new.marks in
    let same = lent s.marks.len marks (drop (length marks) s.marks.items) (omega (arith, c.take_run-first.ensures.long, ap length c.deref_mut.ensures.value)) in
    stands_on c.args.tables.now c.args.self.now c.requires.kept (suc bound) stands c.requires.other c.find.new.contour c.in_ok-find.ensures.same (take s.marks.len (marks ++ drop (length marks) s.marks.items)) c.deref_mut.result.now c.deref_mut.ensures.value c.take_run-first.result.0 c.take_run-first.result.1
    (λ alive w r choice. subst (λ (m : List Bool). GoesOffAt c.args.tables.now.lists c.args.tables.now.faces.own m alive w r c.take_run-first.result.0 c.take_run-first.result.1) (sym same) (c.take_run-first.ensures.goes alive w r choice))
    bound refl c.advance.new.self (ap (λ m. m.items) c.in_ok-advance.ensures.marks) c.in_ok-advance.ensures.list c.in_ok-advance.ensures.row

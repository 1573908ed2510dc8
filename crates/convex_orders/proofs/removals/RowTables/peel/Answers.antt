use Rattle.std.proofs.Common.{◌≡◌, ◌-◌, ◌++◌, ◌∷◌, [], ℕ, suc, List, length, sym, ap, ◌∙◌, arith}
use Rattle.std.specs.Prelude.{slice_range}
use Rattle.map_theory.specs.Maps.{dart_count}
use Rattle.convex_orders.specs.Contours.{vertices_of}
use Rattle.convex_orders.proofs.ContourCountsRows.{entry-lt}
use Rattle.convex_orders.proofs.Known.{based}
use Rattle.convex_orders.proofs.LastRounds.{contour_all}
use Rattle.convex_orders.proofs.Moves.{length-contour}
use Rattle.convex_orders.proofs.StandLemmas.{base_back, stands_left, two_places, last_rows}
use Rattle.convex_orders.proofs.removals.RowTables.peel.Goals as goal

pub number_of-base-requires : goal.number_of-base-requires
number_of-base-requires c = record { dart = base_back _ _ _ (based c.args.tables.now) }

pub is_last-requires-clause-base_in : goal.is_last-requires-clause-base_in
is_last-requires-clause-base_in c =
    let t = c.args.tables.now in
    let l = entry-lt t.lists t.faces.own t.faces.count t.numbers.own_table t.head t.tail (base_back _ _ _ (based t)) in
    omega (arith, l, c.number_of-base.ensures)

pub overflow_sub-all : goal.overflow_sub-all
overflow_sub-all c =
    let t = c.args.tables.now in
    let st = c.loop.invariant.stands (suc (dart_count t.lists) - c.loop.counter) (omega (arith, c.loop-test.true, c.total-end.ensures)) in
    omega (arith, two_places _ _ _ (based t) _ _ _ _ _ st _ _ t.numbers (c.is_last.ensures.yes c.if-is_last.true), c.len-all.ensures)

pub part-requires : goal.part-requires
part-requires c =
    let t = c.args.tables.now in
    let st = c.loop.invariant.stands (suc (dart_count t.lists) - c.loop.counter) (omega (arith, c.loop-test.true, c.total-end.ensures)) in
    let two = two_places _ _ _ (based t) _ _ _ _ _ st _ _ t.numbers (c.is_last.ensures.yes c.if-is_last.true) in
    record { order = omega (arith, two, c.len-all.ensures); within = omega (arith, two, c.len-all.ensures, c.in_ok-move_to.ensures.long, ap length c.deref.ensures.value) }

pub returns-then-is_last : goal.returns-then-is_last
returns-then-is_last c =
    let t = c.args.tables.now in
    let ws = vertices_of c.loop.self.contour in
    let contour = c.move_to.new.self in
    let st = c.loop.invariant.stands (suc (dart_count t.lists) - c.loop.counter) (omega (arith, c.loop-test.true, c.total-end.ensures)) in
    let none : length contour.right.items ≡ 0 = omega (arith, length-contour contour.left.items contour.right.items, ap length c.in_ok-move_to.ensures.same, c.in_ok-move_to.ensures.long, c.len-all.ensures) in
    let left : contour.left.items ≡ ws = sym (contour_all contour.left.items contour.right.items none) ∙ c.in_ok-move_to.ensures.same in
    last_rows _ _ _ (based t) _ _ _ _ _ st _ _ t.numbers (c.is_last.ensures.yes c.if-is_last.true) _ (record {
      rows_are = c.in_ok-push_row.ensures.0;
      cuts_are = c.in_ok-push_row.ensures.1;
      news_are = λ end e.
          let z : c.len-all.result - 1 ≡ end = omega (arith, e, c.len-all.ensures) in
          c.in_ok-push.ensures.ok ∙ (ap (λ (ns : List (List ℕ)). ns ++ c.part.result.now ∷ []) c.in_ok-push_row.ensures.2 ∙ ap (λ (us : List ℕ). c.loop.self.rows.news ++ us ∷ []) (c.part.ensures ∙ (ap (λ (us : List ℕ). slice_range us 1 (c.len-all.result - 1)) (c.deref.ensures.value ∙ left) ∙ ap (slice_range ws 1) z)));
    })

pub round-requires-clause-stands : goal.round-requires-clause-stands
round-requires-clause-stands c =
    let b : ℕ = suc (dart_count c.args.tables.now.lists) - c.loop.counter in
    (b, c.loop.invariant.stands b (omega (arith, c.loop-test.true, c.total-end.ensures)))

pub loop-preserved : goal.loop-preserved
loop-preserved c = record {
  kept = c.in_ok-round.ensures.kept;
  stands = λ bound e. c.in_ok-round.ensures.stands bound (c.loop.invariant.stands (suc bound) (omega arith));
}

pub returns : goal.returns
returns c =
    let st = c.loop.invariant.stands 1 (omega (arith, c.loop-test.false, c.loop.auto.counter-end, c.total-end.ensures)) in
    let left = stands_left _ _ _ (based c.args.tables.now) _ _ _ _ 1 st in
    absurd (omega arith)

pub move_to-requires : goal.move_to-requires
move_to-requires c = omega (arith, c.len-all.ensures, length-contour c.loop.self.contour.left.items c.loop.self.contour.right.items)

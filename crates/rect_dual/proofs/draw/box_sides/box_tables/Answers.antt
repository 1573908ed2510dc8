use Rattle.std.proofs.Common.{◌≡◌, ◌+◌, ◌-◌, ℕ, List, length, slice_index, sym, ap, ◌∙◌, subst, arith}
use Rattle.rect_runs.specs.Numbers.{run_turns}
use Rattle.rect_dual.specs.Turns.{AreTurns}
use Rattle.rect_dual.proofs.RectDrawSides.{AreBoxTables-of}
use Rattle.rect_dual.proofs.Turns.{row_within, turn_within}
use Rattle.rect_dual.proofs.draw.box_sides.box_tables.Goals as goal

pub invariant_of-turned : goal.invariant_of-turned
invariant_of-turned c =
    let rows = c.args.rows.now in
    let steps = c.requires.run.0 in
    let t = c.in_ok-turns.ensures steps c.requires.run.1 in
    let places = c.deref.ensures.value in
    record {
      places_count = ap length places ∙ t.count;
      runs_count = ap length c.deref-2.ensures.value ∙ t.count_runs;
      turns = λ k l. turn_within steps rows c.requires.run.1 k l (slice_index c.deref.result.now k) (ap (λ (us : List ℕ). (steps k).first + slice_index us k) places ∙ t.place k l);
      within = λ k l. row_within steps rows c.requires.run.1 k l;
    }

pub run_count-runs-requires : goal.run_count-runs-requires
run_count-runs-requires c =
    let t = c.in_ok-turns.ensures c.requires.run.0 c.requires.run.1 in
    record { few = omega (arith, ap length c.deref-2.ensures.value, t.count_runs, c.len-count.ensures.few) }

pub overflow_sub-grid : goal.overflow_sub-grid
overflow_sub-grid c =
    let t = c.in_ok-turns.ensures c.requires.run.0 c.requires.run.1 in
    omega (arith, ap length c.deref-2.ensures.value, t.count_runs, c.run_count-runs.ensures.bound, c.len-count.ensures.is)

pub overflow_add-grid-2 : goal.overflow_add-grid-2
overflow_add-grid-2 c =
    let t = c.in_ok-turns.ensures c.requires.run.0 c.requires.run.1 in
    omega (arith, ap length c.deref-2.ensures.value, t.count_runs, c.run_count-runs.ensures.bound, c.len-count.ensures.few)

pub overflow_add-grid-3 : goal.overflow_add-grid-3
overflow_add-grid-3 c =
    let t = c.in_ok-turns.ensures c.requires.run.0 c.requires.run.1 in
    omega (arith, ap length c.deref-2.ensures.value, t.count_runs, c.run_count-runs.ensures.bound, c.len-count.ensures.few)

pub returns-clause-boxes : goal.returns-clause-boxes
returns-clause-boxes c = λ steps h labelled.
    let rows = c.args.rows.now in
    let t = c.in_ok-turns.ensures steps h in
    let n = c.in_ok-numbers.ensures in
    let s = c.in_ok-sides.ensures in
    let places = c.deref.result.now in
    let runs = c.deref-2.result.now in
    let low = c.run_count-runs.ensures.bound in
    let size : length runs ≡ length rows = omega (arith, ap length c.deref-2.ensures.value, t.count_runs) in
    let at : AreTurns steps (length rows) places runs = subst (λ us. AreTurns steps (length rows) us runs) (sym c.deref.ensures.value) (subst (AreTurns steps (length rows) c.in_ok-turns.turns.place.items) (sym c.deref-2.ensures.value) t) in
    let turns : AreTurns steps (length runs) places runs = subst (λ z. AreTurns steps z places runs) (sym size) at in
    let count : c.run_count-runs.result ≡ run_turns steps (length rows) = c.run_count-runs.ensures.count steps places turns ∙ ap (run_turns steps) size in
    AreBoxTables-of steps (length rows) (c.len-count.result + 1 - c.run_count-runs.result) (c.run_count-runs.result + 2) c.in_ok-numbers.numbers.x.items c.in_ok-numbers.numbers.y.items c.in_ok-sides.sides.right.items c.in_ok-sides.sides.high.items
    c.push.new.self.items c.push-2.new.self.items c.push-3.new.self.items c.push-4.new.self.items
    n.count n.count_y s.right s.high (ap (λ z. z + 2) count) (omega (arith, c.len-count.ensures.is, low, size)) (n.numbers steps h at labelled) (s.sides steps h at.place) c.in_ok-push.ensures.items c.in_ok-push-2.ensures.items c.in_ok-push-3.ensures.items c.in_ok-push-4.ensures.items

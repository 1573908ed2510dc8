use Rattle.std.proofs.Common.{◌≡◌, ◌+◌, ℕ, suc, slice_index, slice_set, take, sym, ap, ◌∙◌, subst, arith}
use Rattle.grid_figures.specs.Gaps.{ArePassed, AreCovered, gap_sum}
use Rattle.grid_figures.proofs.Passes.{ArePassed-more, AreCovered-more, gap_sum-next, gap_sum-le}
use Rattle.grid_figures.proofs.schnyder_grid.coordinate_gaps.cover_interval.Goals as goal

pub overflow_add-far : goal.overflow_add-far
overflow_add-far c =
    let j : ℕ = c.loop-u.u-index in
    let far = gap_sum-next c.args.row.now j c.loop-u.far c.args.drops.now c.loop-u.drops c.loop-u.invariant.drops c.loop-u.invariant.far c.loop-u-test.true c.requires.distinct in
    let le = gap_sum-le c.args.drops.now c.args.row.now (suc j) in
    let room = c.requires.drops_room in
    omega arith

pub overflow_add-drops : goal.overflow_add-drops
overflow_add-drops c =
    let j : ℕ = c.loop-u.u-index in
    let far = gap_sum-next c.args.row.now j c.loop-u.far c.args.drops.now c.loop-u.drops c.loop-u.invariant.drops c.loop-u.invariant.far c.loop-u-test.true c.requires.distinct in
    let le = gap_sum-le c.args.drops.now c.args.row.now (suc j) in
    let room = c.requires.drops_room in
    omega arith

pub overflow_add-high : goal.overflow_add-high
overflow_add-high c =
    let j : ℕ = c.loop-u.u-index in
    let far = gap_sum-next c.args.row.now j c.loop-u.high c.args.rises.now c.loop-u.rises c.loop-u.invariant.rises c.loop-u.invariant.high c.loop-u-test.true c.requires.distinct in
    let le = gap_sum-le c.args.rises.now c.args.row.now (suc j) in
    let room = c.requires.rises_room in
    omega arith

pub overflow_add-rises : goal.overflow_add-rises
overflow_add-rises c =
    let j : ℕ = c.loop-u.u-index in
    let far = gap_sum-next c.args.row.now j c.loop-u.high c.args.rises.now c.loop-u.rises c.loop-u.invariant.rises c.loop-u.invariant.high c.loop-u-test.true c.requires.distinct in
    let le = gap_sum-le c.args.rises.now c.args.row.now (suc j) in
    let room = c.requires.rises_room in
    omega arith

pub loop-u-preserved : goal.loop-u-preserved
loop-u-preserved c =
    let j : ℕ = c.loop-u.u-index in
    let us = c.args.row.now in
    let h = c.loop-u.invariant in
    let e : suc j ≡ j + 1 = omega arith in
    let far = gap_sum-next us j c.loop-u.far c.args.drops.now c.loop-u.drops h.drops h.far c.loop-u-test.true c.requires.distinct in
    let high = gap_sum-next us j c.loop-u.high c.args.rises.now c.loop-u.rises h.rises h.high c.loop-u-test.true c.requires.distinct in
    let drops_same = c.loop-u.auto.drops in
    let rises_same = c.loop-u.auto.rises in
    let covers_same = c.loop-u.auto.covers in
    let in_drops = c.requires.drops j 0 c.loop-u-test.true in
    let in_rises = c.requires.rises j 0 c.loop-u-test.true in
    let in_covers = c.requires.covers j 0 c.loop-u-test.true in
    let drops = ArePassed-more us j c.args.drops.now c.loop-u.drops h.drops c.loop-u-test.true (omega (arith, in_drops, drops_same)) c.requires.distinct in
    let rises = ArePassed-more us j c.args.rises.now c.loop-u.rises h.rises c.loop-u-test.true (omega (arith, in_rises, rises_same)) c.requires.distinct in
    record {
      far = far ∙ ap (λ i. gap_sum c.args.drops.now (take i us)) e;
      high = high ∙ ap (λ i. gap_sum c.args.rises.now (take i us)) e;
      drops = subst (λ i. ArePassed us i c.args.drops.now (slice_set c.loop-u.drops (slice_index us j) (c.loop-u.far + slice_index c.loop-u.drops (slice_index us j) + 1))) e
          (subst (λ f. ArePassed us (suc j) c.args.drops.now (slice_set c.loop-u.drops (slice_index us j) (f + 1))) (sym far) drops);
      rises = subst (λ i. ArePassed us i c.args.rises.now (slice_set c.loop-u.rises (slice_index us j) (c.loop-u.high + slice_index c.loop-u.rises (slice_index us j) + 1))) e
          (subst (λ f. ArePassed us (suc j) c.args.rises.now (slice_set c.loop-u.rises (slice_index us j) (f + 1))) (sym high) rises);
      covered = subst (λ i. AreCovered c.args.v us i c.args.covers.now (slice_set c.loop-u.covers (slice_index us j) c.args.v)) e
          (AreCovered-more c.args.v us j c.args.covers.now c.loop-u.covers h.covered c.loop-u-test.true (omega (arith, in_covers, covers_same)) c.requires.distinct);
    }

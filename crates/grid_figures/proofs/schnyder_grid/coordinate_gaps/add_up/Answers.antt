use Rattle.std.proofs.Common.{◌≡◌, ◌-◌, ℕ, List, suc, length, sym, ap, ◌∙◌, subst, arith}
use Rattle.std.proofs.lemmas.List.{length-set}
use Rattle.std.specs.Prelude.{slice_set}
use Rattle.contour_runs.specs.Wood.{drawn_one, drawn_two}
use Rattle.grid_figures.specs.Gaps.{AreSums}
use Rattle.grid_figures.proofs.Sums.{AreSums-init, AreSums-all, many, cover_in, one_corners, one_room, one_no_less, AreSums-one, two_corners, two_room, AreSums-two}
use Rattle.grid_figures.proofs.schnyder_grid.coordinate_gaps.add_up.Goals as goal

-- the length stays when the corners are written
kept : (gaps : List ℕ) (x y z t : ℕ) → length (slice_set (slice_set (slice_set gaps 0 x) 1 y) t z) ≡ length gaps
kept gaps x y z t = length-set (slice_set (slice_set gaps 0 x) 1 y) t z ∙ length-set (slice_set gaps 0 x) 1 y ∙ length-set gaps 0 x

pub loop-v-init : goal.loop-v-init
loop-v-init c = λ g at h.
    let covers = c.requires.tables.covers_of_all in
    let rises = c.requires.tables.rises_of_all in
    let some = many g at c.args.drops.now c.args.rises.now c.args.spans.now c.args.covers.now h in
    let one = one_corners g at c.args.drops.now c.args.rises.now c.args.spans.now c.args.covers.now h in
    let two = two_corners g at c.args.drops.now c.args.rises.now c.args.spans.now c.args.covers.now h in
    let side : ℕ = length c.args.drops.now - 1 - 1 in (
      AreSums-init (drawn_one at) c.args.drops.now side 0 1 (omega arith) (omega (arith, one.0)) one.1 (one.2 ∙ ap (λ m. drawn_one at (m - 1)) covers),
      subst (λ n. AreSums (n - 1) (drawn_two at) c.args.rises.now (slice_set (slice_set (slice_set c.args.rises.now 0 1) 1 side) (n - 1) 0)) rises
          (AreSums-init (drawn_two at) c.args.rises.now 1 side 0 (omega arith) two.0 (omega (arith, two.1)) (two.2 ∙ ap (λ m. drawn_two at (m - 1)) (covers ∙ sym rises))),
    )

pub bounds-drops-w : goal.bounds-drops-w
bounds-drops-w c =
    let (g, at, h) = c.requires.last in
    let test = c.loop-v-test.true in
    let top = c.loop-v.auto.v in
    let same = c.loop-v.auto.drops in
    let covers = c.requires.tables.covers_of_all in
    let size = kept c.args.drops.now (length c.args.drops.now - 1 - 1) 0 1 (length c.args.drops.now - 1) in
    let l = cover_in g at c.args.drops.now c.args.rises.now c.args.spans.now c.args.covers.now h (c.loop-v.v - 1) (omega arith) (omega arith) in
    omega arith

pub bounds-spans-w : goal.bounds-spans-w
bounds-spans-w c =
    let (g, at, h) = c.requires.last in
    let test = c.loop-v-test.true in
    let top = c.loop-v.auto.v in
    let spans = c.requires.tables.spans_of_all in
    let covers = c.requires.tables.covers_of_all in
    let l = cover_in g at c.args.drops.now c.args.rises.now c.args.spans.now c.args.covers.now h (c.loop-v.v - 1) (omega arith) (omega arith) in
    omega arith

pub bounds-rises-w : goal.bounds-rises-w
bounds-rises-w c =
    let (g, at, h) = c.requires.last in
    let test = c.loop-v-test.true in
    let top = c.loop-v.auto.v in
    let same = c.loop-v.auto.rises in
    let covers = c.requires.tables.covers_of_all in
    let rises = c.requires.tables.rises_of_all in
    let size = kept c.args.rises.now 1 (length c.args.drops.now - 1 - 1) 0 (length c.args.drops.now - 1) in
    let l = cover_in g at c.args.drops.now c.args.rises.now c.args.spans.now c.args.covers.now h (c.loop-v.v - 1) (omega arith) (omega arith) in
    omega arith

pub overflow_add-drops : goal.overflow_add-drops
overflow_add-drops c =
    let (g, at, h) = c.requires.last in
    let test = c.loop-v-test.true in
    let top = c.loop-v.auto.v in
    let few = c.requires.tables.few in
    let covers = c.requires.tables.covers_of_all in
    let e : c.loop-v.v ≡ suc (c.loop-v.v - 1) = omega arith in
    let sums = subst (λ k. AreSums k (drawn_one at) c.args.drops.now c.loop-v.drops) e (c.loop-v.invariant g at h).0 in
    let l = one_room g at c.args.drops.now c.args.rises.now c.args.spans.now c.args.covers.now h (c.loop-v.v - 1) (omega arith) (omega arith) c.loop-v.drops (omega arith) sums in
    omega arith

pub overflow_sub-drops-in-loop-v : goal.overflow_sub-drops-in-loop-v
overflow_sub-drops-in-loop-v c =
    let (g, at, h) = c.requires.last in
    let test = c.loop-v-test.true in
    let top = c.loop-v.auto.v in
    let covers = c.requires.tables.covers_of_all in
    let e : c.loop-v.v ≡ suc (c.loop-v.v - 1) = omega arith in
    let sums = subst (λ k. AreSums k (drawn_one at) c.args.drops.now c.loop-v.drops) e (c.loop-v.invariant g at h).0 in
    one_no_less g at c.args.drops.now c.args.rises.now c.args.spans.now c.args.covers.now h (c.loop-v.v - 1) (omega arith) (omega arith) c.loop-v.drops (omega arith) sums

pub overflow_add-rises : goal.overflow_add-rises
overflow_add-rises c =
    let (g, at, h) = c.requires.last in
    let test = c.loop-v-test.true in
    let top = c.loop-v.auto.v in
    let few = c.requires.tables.few in
    let covers = c.requires.tables.covers_of_all in
    let rises = c.requires.tables.rises_of_all in
    let e : c.loop-v.v ≡ suc (c.loop-v.v - 1) = omega arith in
    let sums = subst (λ k. AreSums k (drawn_two at) c.args.rises.now c.loop-v.rises) e (c.loop-v.invariant g at h).1 in
    let l = two_room g at c.args.drops.now c.args.rises.now c.args.spans.now c.args.covers.now h (c.loop-v.v - 1) (omega arith) (omega arith) c.loop-v.rises (omega arith) sums in
    omega arith

pub loop-v-preserved : goal.loop-v-preserved
loop-v-preserved c = λ g at h.
    let test = c.loop-v-test.true in
    let top = c.loop-v.auto.v in
    let covers = c.requires.tables.covers_of_all in
    let rises = c.requires.tables.rises_of_all in
    let drops_same = c.loop-v.auto.drops in
    let rises_same = c.loop-v.auto.rises in
    let drops_size = kept c.args.drops.now (length c.args.drops.now - 1 - 1) 0 1 (length c.args.drops.now - 1) in
    let rises_size = kept c.args.rises.now 1 (length c.args.drops.now - 1 - 1) 0 (length c.args.drops.now - 1) in
    let e : c.loop-v.v ≡ suc (c.loop-v.v - 1) = omega arith in
    let (ones, twos) = c.loop-v.invariant g at h in (
      AreSums-one g at c.args.drops.now c.args.rises.now c.args.spans.now c.args.covers.now h (c.loop-v.v - 1) (omega arith) (omega arith) c.loop-v.drops (omega arith) (subst (λ k. AreSums k (drawn_one at) c.args.drops.now c.loop-v.drops) e ones) (omega arith),
      AreSums-two g at c.args.drops.now c.args.rises.now c.args.spans.now c.args.covers.now h (c.loop-v.v - 1) (omega arith) (omega arith) c.loop-v.rises (omega arith) (subst (λ k. AreSums k (drawn_two at) c.args.rises.now c.loop-v.rises) e twos) (omega arith),
    )

pub returns : goal.returns
returns c = λ g at h v l.
    let test = c.loop-v-test.false in
    let covers = c.requires.tables.covers_of_all in
    let rises = c.requires.tables.rises_of_all in
    let count = h.count in
    let (ones, twos) = c.loop-v.invariant g at h in
    (AreSums-all (drawn_one at) c.args.drops.now c.loop-v.drops c.loop-v.v ones (omega arith) v (omega arith), AreSums-all (drawn_two at) c.args.rises.now c.loop-v.rises c.loop-v.v twos (omega arith) v (omega arith))

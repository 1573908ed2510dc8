use Rattle.std.proofs.Common.{◌≡◌, ◌+◌, ◌-◌, ℕ, suc, ap, arith}
use Rattle.convex_draw.proofs.Rows.{first_last, long, fall_more, fall_small}
use Rattle.convex_draw.proofs.convex_points.spots.total_fall.Goals as goal

pub overflow_add-fall : goal.overflow_add-fall
overflow_add-fall c =
    let w = c.requires.over.0 in
    let h = c.requires.over.1 in
    let n = long w c.args.spots.now c.args.row.now h in
    let test = c.loop-j-test.true in
    let low = c.loop-j.auto in
    let i : ℕ = w.step.first + c.loop-j.j - 1 in
    let f = fall_more w c.args.spots.now c.args.row.now h c.loop-j.fall c.loop-j.j i (omega arith) (omega arith) (c.loop-j.invariant w h i (omega arith)) in
    let m = fall_small w c.args.spots.now c.args.row.now h _ (suc i) f in
    omega arith

pub loop-j-preserved : goal.loop-j-preserved
loop-j-preserved c = λ w h i e.
    let n = long w c.args.spots.now c.args.row.now h in
    let test = c.loop-j-test.true in
    let low = c.loop-j.auto in
    let k : ℕ = w.step.first + c.loop-j.j - 1 in
    let f = fall_more w c.args.spots.now c.args.row.now h c.loop-j.fall c.loop-j.j k (omega arith) (omega arith) (c.loop-j.invariant w h k (omega arith)) in
    let d : i ≡ suc k = omega arith in
    omega (arith, f, ap (λ i. w.at.one (w.stage.vertex i)) d)

pub returns : goal.returns
returns c = λ w h.
    let n = long w c.args.spots.now c.args.row.now h in
    let o = first_last w c.args.spots.now c.args.row.now h in
    let test = c.loop-j-test.false in
    let low = c.loop-j.auto in
    let some = c.loop-j.auto.j-end (omega arith) in
    c.loop-j.invariant w h w.step.last (omega arith)

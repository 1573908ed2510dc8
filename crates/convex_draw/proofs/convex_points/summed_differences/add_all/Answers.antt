use Rattle.std.proofs.Common.{◌≡◌, ◌-◌, ℕ, suc, length, sym, subst, arith}
use Rattle.convex_draw.specs.Sums.{AreDone, IsFree, AreAdded}
use Rattle.convex_draw.proofs.Downs.{IsFree-row, AreDone-less}
use Rattle.convex_draw.proofs.convex_points.summed_differences.add_all.Goals as goal

pub loop-j-init : goal.loop-j-init
loop-j-init c = λ steps name h done k e.
    let d : length c.args.rows.now.rows ≡ k = omega arith in
    subst (λ k. AreDone steps name (length c.args.rows.now.rows) k c.args.spots.now) d done

pub add_row-requires : goal.add_row-requires
add_row-requires c =
    let w = c.requires.run in
    let n = c.len-j-end.ensures in
    let test = c.loop-j-test.true in
    let same = c.loop-j.auto.spots in
    let k : ℕ = length c.args.rows.now.rows - suc c.loop-j.j in
    record { free = subst (λ row. IsFree row c.loop-j.spots) (sym c.list.ensures) (IsFree-row w.0 w.1 c.args.rows.now (length c.args.spots.now) w.2 k c.loop-j.j (omega arith) c.loop-j.spots same (c.loop-j.invariant w.0 w.1 w.2 w.3 (suc k) (omega arith))) }

pub loop-j-preserved : goal.loop-j-preserved
loop-j-preserved c = λ steps name h done k e.
    let n = c.len-j-end.ensures in
    let test = c.loop-j-test.true in
    let same = c.loop-j.auto.spots in
    let same' = c.add_row.auto.spots in
    AreDone-less steps name c.args.rows.now (length c.args.spots.now) h k c.loop-j.j (omega arith) c.loop-j.spots same (c.loop-j.invariant steps name h done (suc k) (omega arith)) c.add_row.new.spots same'
    (subst (λ row. AreAdded row (length row - 1) c.loop-j.spots c.add_row.new.spots) c.list.ensures c.add_row.ensures)

pub returns : goal.returns
returns c = λ steps name h done.
    let n = c.len-j-end.ensures in
    let test = c.loop-j-test.false in
    let end = c.loop-j.auto.j-end in
    c.loop-j.invariant steps name h done 0 (omega arith)

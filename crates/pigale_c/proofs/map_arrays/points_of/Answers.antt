-- The points so far are those of the first coordinates, all in range.
use Rattle.std.proofs.Common.{rules, arith, pos, FitsSigned, w32, get_or, to_z-of_z}
use Rattle.pigale_c.proofs.ArrayLemmas.{AreMade-more, AreMade-done, not_places}
use Rattle.pigale_c.proofs.map_arrays.points_of.Goals as goal

pub loop-k-preserved : goal.loop-k-preserved
loop-k-preserved c =
    let x_fits : FitsSigned w32 (get_or c.args.x.now c.loop-k.k (pos 0)) = search rules in
    let y_fits : FitsSigned w32 (get_or c.args.y.now c.loop-k.k (pos 0)) = search rules in
    let pushed = simp to_z-of_z at c.in_ok-push.ensures.ok in
    let within = simp to_z-of_z at (c.is_in_range.ensures.0 c.if-not-is_in_range.false) in
    rw pushed (AreMade-more c.args.x.now c.args.y.now c.loop-k.k c.loop-k.points (omega arith) (omega arith) within c.loop-k.invariant)

pub returns-then-not-is_in_range-clause-failed : goal.returns-then-not-is_in_range-clause-failed
returns-then-not-is_in_range-clause-failed c =
    let x_fits : FitsSigned w32 (get_or c.args.x.now c.loop-k.k (pos 0)) = search rules in
    let y_fits : FitsSigned w32 (get_or c.args.y.now c.loop-k.k (pos 0)) = search rules in
    let without = simp to_z-of_z at c.is_in_range.ensures in
    not_places c.args.x.now c.args.y.now c.args.n c.loop-k.k (omega arith) (λ within. let yes = without.1 within in cc)

pub returns-clause-points : goal.returns-clause-points
returns-clause-points c = (AreMade-done c.args.x.now c.args.y.now c.args.n c.loop-k.k c.loop-k.points (omega arith) (omega arith) c.loop-k-test.false c.loop-k.invariant).0

pub returns-clause-given : goal.returns-clause-given
returns-clause-given c = (AreMade-done c.args.x.now c.args.y.now c.args.n c.loop-k.k c.loop-k.points (omega arith) (omega arith) c.loop-k-test.false c.loop-k.invariant).1

pub returns-clause-count : goal.returns-clause-count
returns-clause-count c = (AreMade-done c.args.x.now c.args.y.now c.args.n c.loop-k.k c.loop-k.points (omega arith) (omega arith) c.loop-k-test.false c.loop-k.invariant).2

pub returns-clause-in_range : goal.returns-clause-in_range
returns-clause-in_range c = (AreMade-done c.args.x.now c.args.y.now c.args.n c.loop-k.k c.loop-k.points (omega arith) (omega arith) c.loop-k-test.false c.loop-k.invariant).3

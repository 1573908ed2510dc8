use Rattle.std.proofs.Common.{◌+◌, sym, ap, arith}
use Rattle.std.specs.List.{insert}
use Rattle.map_theory.proofs.DartLemmas.{place_of-is}
use Rattle.plane_laws.proofs.EdgeRows.{insert-none}
use Rattle.plane_laws.proofs.edge_insertion.place_after.Goals as goal

pub returns-then-us-i-clause-place : goal.returns-then-us-i-clause-place
returns-then-us-i-clause-place c = λ x.
    ap (λ k. insert c.args.us.now (k + 1) x) (sym (place_of-is c.args.a c.args.us.now c.loop-i.i (omega (arith, c.loop-i-test.true)) c.if-us-i.true c.loop-i.invariant))

pub returns-clause-place : goal.returns-clause-place
returns-clause-place c = λ x. insert-none c.args.a c.args.us.now x (λ j l. c.loop-i.invariant j (omega (arith, c.loop-i-test.false)))

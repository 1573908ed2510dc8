-- An edge more is proper, or it is named.
use Rattle.std.proofs.Common.{◌<◌, ◌≢◌, List, subst, arith}
use Rattle.std.proofs.lemmas.List.{take_all}
use Rattle.std.proofs.lemmas.List.Elements.{All-more}
use Rattle.pigale_c.specs.EdgeLists.{AreProper}
use Rattle.pigale_c.specs.declared.edges.EdgeEnds.{EdgeEnds}
use Rattle.pigale_c.proofs.edge_faults.first_improper.Goals as goal

pub loop-i-preserved : goal.loop-i-preserved
loop-i-preserved c =
    All-more (λ (e : EdgeEnds). (e.a < c.args.n) × (e.b < c.args.n) × (e.a ≢ e.b)) c.args.edges.now c.loop-i.i (record { a = 0; b = 0 }) c.loop-i-test.true c.loop-i.invariant
    (omega arith, omega arith, c.if-edge.false)

pub returns : goal.returns
returns c = subst (λ (edges : List EdgeEnds). AreProper c.args.n edges) (take_all c.loop-i.i c.args.edges.now (omega arith)) c.loop-i.invariant

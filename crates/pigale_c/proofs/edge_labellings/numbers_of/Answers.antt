-- Behind the last vertex all darts have their labels.
use Rattle.std.proofs.Common.{ℕ, subst, arith}
use Rattle.map_theory.proofs.DartLemmas.{darts_before_all}
use Rattle.pigale_c.specs.Labelled.{AreLabelsTo}
use Rattle.pigale_c.proofs.edge_labellings.numbers_of.Goals as goal

pub returns : goal.returns
returns c =
    let map = c.args.map.now in
    subst (λ (k : ℕ). AreLabelsTo map c.args.labels.now k c.loop-v.made.items) (darts_before_all map.lists c.loop-v.v (omega arith)) c.loop-v.invariant

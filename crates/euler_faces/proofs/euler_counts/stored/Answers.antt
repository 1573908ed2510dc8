use Rattle.std.proofs.Common.{length, ap, sym, subst, arith}
use Rattle.map_lists.proofs.CutLemmas.{IsStored, IsStored-cuts, IsStored-cut, length-cut}
use Rattle.map_theory.specs.Maps.{IsSimpleMap}
use Rattle.euler_faces.proofs.euler_counts.stored.Goals as goal

pub invariant_of-result-clause-cuts : goal.invariant_of-result-clause-cuts
invariant_of-result-clause-cuts c =
    ∣ IsStored-cuts c.args.lists.now c.entries.result.now c.ends.result.now (record { entries_are = c.entries.ensures; ends_are = c.ends.ensures }) ∣₁

pub invariant_of-result-clause-simple : goal.invariant_of-result-clause-simple
invariant_of-result-clause-simple c =
    let stored : IsStored c.args.lists.now c.entries.result.now c.ends.result.now = record { entries_are = c.entries.ensures; ends_are = c.ends.ensures } in
    ∣ subst IsSimpleMap (sym (IsStored-cut _ _ _ stored)) c.requires ∣₁

pub invariant_of-result-clause-few : goal.invariant_of-result-clause-few
invariant_of-result-clause-few c =
    let stored : IsStored c.args.lists.now c.entries.result.now c.ends.result.now = record { entries_are = c.entries.ensures; ends_are = c.ends.ensures } in
    omega (arith, ap length (IsStored-cut _ _ _ stored), length-cut 0 c.ends.result.now c.entries.result.now, c.facts.ensures)

pub returns : goal.returns
returns c =
    IsStored-cut c.args.lists.now c.entries.result.now c.ends.result.now (record { entries_are = c.entries.ensures; ends_are = c.ends.ensures })

use Rattle.std.proofs.Common.{length, ap, subst, arith}
use Rattle.map_lists.specs.Lists.{Lists}
use Rattle.map_lists.proofs.CutLemmas.{IsStored, IsStored-cuts, IsStored-cut, length-cut}
use Rattle.bipolar.specs.FaceNumbers.{AreFaceNumbers, AreFaceArcs}
use Rattle.visibility.proofs.bar_figures.drawer.number_faces_into.Goals as goal

pub number_faces-requires-clause-darts : goal.number_faces-requires-clause-darts
number_faces-requires-clause-darts c =
    let stored : IsStored c.args.map.now.lists.now c.entries.result.now c.ends.result.now = record { entries_are = c.entries.ensures; ends_are = c.ends.ensures } in
    let whole = IsStored-cut c.args.map.now.lists.now c.entries.result.now c.ends.result.now stored in
    record {
      cuts = IsStored-cuts _ _ _ stored;
      few = omega (arith, ap length whole, length-cut 0 c.ends.result.now c.entries.result.now, c.facts.ensures.few);
      simple = rw whole c.facts.ensures.simple;
      are_twins = rw whole c.facts.ensures.are_twins;
    }

pub number_faces-requires-clause-ranks : goal.number_faces-requires-clause-ranks
number_faces-requires-clause-ranks c =
    let stored : IsStored c.args.map.now.lists.now c.entries.result.now c.ends.result.now = record { entries_are = c.entries.ensures; ends_are = c.ends.ensures } in
    omega (arith, ap length (IsStored-cut _ _ _ stored), length-cut 0 c.ends.result.now c.entries.result.now, c.requires)

pub returns-clause-numbers : goal.returns-clause-numbers
returns-clause-numbers c =
    let stored : IsStored c.args.map.now.lists.now c.entries.result.now c.ends.result.now = record { entries_are = c.entries.ensures; ends_are = c.ends.ensures } in
    subst (λ (ls : Lists). AreFaceNumbers ls c.in_ok-made.made.of.items (length c.in_ok-made.made.arcs)) (IsStored-cut _ _ _ stored) c.in_ok-made.ensures.numbers

pub returns-clause-arcs : goal.returns-clause-arcs
returns-clause-arcs c =
    let stored : IsStored c.args.map.now.lists.now c.entries.result.now c.ends.result.now = record { entries_are = c.entries.ensures; ends_are = c.ends.ensures } in
    subst (λ (ls : Lists). AreFaceArcs ls c.args.rank.now c.in_ok-made.made.of.items (length c.in_ok-made.made.arcs) c.in_ok-made.made.arcs) (IsStored-cut _ _ _ stored) c.in_ok-made.ensures.arcs

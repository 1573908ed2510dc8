use Rattle.std.proofs.Common.{◌≡◌, ◌*◌, length, ap, sym, ◌∙◌, subst, arith}
use Rattle.std.proofs.lemmas.Bool.{OnTrue_at, OnTrue_from}
use Rattle.map_lists.specs.Cuts.{AreCuts}
use Rattle.map_lists.proofs.CutLemmas.{IsStored, IsStored-cuts, IsStored-cut, length-cut}
use Rattle.simple_maps.specs.Tables.{AreSlots}
use Rattle.simple_maps.proofs.CellLemmas.{tail-in, AreSlots-tried}
use Rattle.simple_maps.proofs.dart_cells.pairs_twins.Goals as goal

pub write_tails-requires-clause-few_lists : goal.write_tails-requires-clause-few_lists
write_tails-requires-clause-few_lists c =
    let entries = c.entries-entries.result.now in
    let ends = c.ends-ends.result.now in
    let stored : IsStored c.args.lists.now entries ends = record { entries_are = c.entries-entries.ensures; ends_are = c.ends-ends.ensures } in
    omega (arith, c.requires.few_lists, ap length (IsStored-cut _ _ _ stored), length-cut 0 ends entries)

pub write_tails-requires-clause-cuts : goal.write_tails-requires-clause-cuts
write_tails-requires-clause-cuts c =
    let entries = c.entries-entries.result.now in
    let ends = c.ends-ends.result.now in
    let stored : IsStored c.args.lists.now entries ends = record { entries_are = c.entries-entries.ensures; ends_are = c.ends-ends.ensures } in
    subst (λ n. AreCuts 0 ends n) (ap length c.entries-entries.ensures ∙ sym c.requires.tails) (IsStored-cuts _ _ _ stored)

pub fill_cells-requires-clause-few : goal.fill_cells-requires-clause-few
fill_cells-requires-clause-few c =
    let entries = c.entries-entries.result.now in
    let ends = c.ends-ends.result.now in
    let stored : IsStored c.args.lists.now entries ends = record { entries_are = c.entries-entries.ensures; ends_are = c.ends-ends.ensures } in
    omega (arith, c.requires.few_lists, ap length (IsStored-cut _ _ _ stored), length-cut 0 ends entries)

pub fill_cells-requires-clause-tails_in : goal.fill_cells-requires-clause-tails_in
fill_cells-requires-clause-tails_in c =
    let entries = c.entries-entries.result.now in
    let ends = c.ends-ends.result.now in
    let stored : IsStored c.args.lists.now entries ends = record { entries_are = c.entries-entries.ensures; ends_are = c.ends-ends.ensures } in
    tail-in entries ends c.write_tails.new.tails (IsStored-cuts _ _ _ stored) c.write_tails.ensures

pub fill_cells-requires-clause-cells : goal.fill_cells-requires-clause-cells
fill_cells-requires-clause-cells c =
    let entries = c.entries-entries.result.now in
    let ends = c.ends-ends.result.now in
    let stored : IsStored c.args.lists.now entries ends = record { entries_are = c.entries-entries.ensures; ends_are = c.ends-ends.ensures } in
    let n : length ends ≡ length c.args.lists.now = omega (arith, ap length (IsStored-cut _ _ _ stored), length-cut 0 ends entries) in omega (arith, c.requires.cells, ap (λ k. k * k) n)

pub take_twins-requires-clause-few : goal.take_twins-requires-clause-few
take_twins-requires-clause-few c =
    let entries = c.entries-entries.result.now in
    let ends = c.ends-ends.result.now in
    let stored : IsStored c.args.lists.now entries ends = record { entries_are = c.entries-entries.ensures; ends_are = c.ends-ends.ensures } in
    omega (arith, c.requires.few_lists, ap length (IsStored-cut _ _ _ stored), length-cut 0 ends entries)

pub take_twins-requires-clause-tails_in : goal.take_twins-requires-clause-tails_in
take_twins-requires-clause-tails_in c =
    let entries = c.entries-entries.result.now in
    let ends = c.ends-ends.result.now in
    let stored : IsStored c.args.lists.now entries ends = record { entries_are = c.entries-entries.ensures; ends_are = c.ends-ends.ensures } in
    tail-in entries ends c.write_tails.new.tails (IsStored-cuts _ _ _ stored) c.write_tails.ensures

pub take_twins-requires-clause-cells : goal.take_twins-requires-clause-cells
take_twins-requires-clause-cells c =
    let entries = c.entries-entries.result.now in
    let ends = c.ends-ends.result.now in
    let stored : IsStored c.args.lists.now entries ends = record { entries_are = c.entries-entries.ensures; ends_are = c.ends-ends.ensures } in
    let n : length ends ≡ length c.args.lists.now = omega (arith, ap length (IsStored-cut _ _ _ stored), length-cut 0 ends entries) in omega (arith, c.requires.cells, ap (λ k. k * k) n, c.fill_cells.auto.cells)

pub returns : goal.returns
returns c =
    let entries = c.entries-entries.result.now in
    let ends = c.ends-ends.result.now in
    let stored : IsStored c.args.lists.now entries ends = record { entries_are = c.entries-entries.ensures; ends_are = c.ends-ends.ensures } in
    let tails = c.write_tails.new.tails in
    let twins = c.take_twins.new.twins in
    OnTrue_from c.take_twins.result (AreSlots c.args.lists.now tails twins) (λ t.
    subst (λ lists. AreSlots lists tails twins) (IsStored-cut _ _ _ stored)
    (AreSlots-tried entries ends tails (IsStored-cuts _ _ _ stored) c.write_tails.ensures twins c.fill_cells.new.cells c.if-not-are_below.ensures
    (omega (arith, c.take_twins.auto.twins, c.requires.twins, ap length c.entries-entries.ensures)) (omega (arith, c.requires.few, ap length c.entries-entries.ensures))
    (OnTrue_at t c.take_twins.ensures) (omega (arith, c.requires.some_list, ap length (IsStored-cut _ _ _ stored), length-cut 0 ends entries))))

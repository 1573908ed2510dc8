use Rattle.std.proofs.Common.{◌≡◌, ℕ, List, ◌++◌, take, false, length, sym, ap, ◌∙◌, subst, arith}
use Rattle.std.proofs.Math.Seq.{take-append_seam}
use Rattle.map_lists.specs.Cuts.{cut}
use Rattle.map_lists.specs.Lists.{Lists}
use Rattle.map_lists.proofs.CutLemmas.{IsStored, IsStored-cuts, IsStored-cut, length-cut}
use Rattle.map_theory.specs.Maps.{IsSimpleMap}
use Rattle.euler_faces.specs.Numbers.{mark_at}
use Rattle.euler_faces.specs.Search.{marks_of}
use Rattle.euler_faces.proofs.SearchLemmas.{unset_after}
use Rattle.conn_parts.specs.Parts.{ArePartsOf}
use Rattle.conn_parts.proofs.PartLemmas.{ArePartsOf-numbers}
use Rattle.conn_parts.proofs.component_numbers.numbered_parts.Goals as goal

pub number_components-count-requires-clause-cuts : goal.number_components-count-requires-clause-cuts
number_components-count-requires-clause-cuts c =
    IsStored-cuts c.args.lists.now c.entries.result.now c.ends.result.now (record { entries_are = c.entries.ensures; ends_are = c.ends.ensures })

pub number_components-count-requires-clause-simple : goal.number_components-count-requires-clause-simple
number_components-count-requires-clause-simple c =
    subst IsSimpleMap (sym (IsStored-cut c.args.lists.now c.entries.result.now c.ends.result.now (record { entries_are = c.entries.ensures; ends_are = c.ends.ensures }))) c.requires.simple

pub number_components-count-requires-clause-few : goal.number_components-count-requires-clause-few
number_components-count-requires-clause-few c =
    let stored : IsStored c.args.lists.now c.entries.result.now c.ends.result.now = record { entries_are = c.entries.ensures; ends_are = c.ends.ensures } in
    omega (arith, ap length (IsStored-cut _ _ _ stored), length-cut 0 c.ends.result.now c.entries.result.now, c.len.ensures.few)

pub number_components-count-requires-clause-marks : goal.number_components-count-requires-clause-marks
number_components-count-requires-clause-marks c =
    let stored : IsStored c.args.lists.now c.entries.result.now c.ends.result.now = record { entries_are = c.entries.ensures; ends_are = c.ends.ensures } in
    omega (arith, c.deref_mut.ensures.len, c.in_ok-resize.ensures.len, c.len.ensures.is, ap length (IsStored-cut _ _ _ stored), length-cut 0 c.ends.result.now c.entries.result.now)

pub number_components-count-requires-clause-room : goal.number_components-count-requires-clause-room
number_components-count-requires-clause-room c =
    let stored : IsStored c.args.lists.now c.entries.result.now c.ends.result.now = record { entries_are = c.entries.ensures; ends_are = c.ends.ensures } in
    omega (arith, c.deref_mut-2.ensures.len, c.in_ok-resize-2.ensures.len, c.len-2.ensures.is, ap length (IsStored-cut _ _ _ stored), length-cut 0 c.ends.result.now c.entries.result.now)

pub number_components-count-requires-clause-unset : goal.number_components-count-requires-clause-unset
number_components-count-requires-clause-unset c = λ u. subst (λ ns. mark_at (marks_of ns) u ≡ false) (sym c.deref_mut.ensures.value) (unset_after 65535 _ _ _ _ u c.clear.ensures.items c.in_ok-resize.ensures.items)

-- all items of a vector were written
all_written : (count len : ℕ) (lists : Lists) (new rest : List ℕ) → length new ≡ len → ArePartsOf lists (record { count = count; numbers = new }) → ArePartsOf lists (record { count = count; numbers = take len (new ++ rest) })
all_written count len lists new rest e h =
    subst (λ ns. ArePartsOf lists (record { count = count; numbers = ns })) (sym (ap (λ n. take n (new ++ rest)) (sym e) ∙ take-append_seam new rest)) h

pub returns : goal.returns
returns c =
    let lists = cut 0 c.ends.result.now c.entries.result.now in
    let stored : IsStored c.args.lists.now c.entries.result.now c.ends.result.now = record { entries_are = c.entries.ensures; ends_are = c.ends.ensures } in
    let whole : lists ≡ c.args.lists.now = IsStored-cut _ _ _ stored in
    let long = length-cut 0 c.ends.result.now c.entries.result.now in
    all_written _ _ _ _ _ (omega (arith, c.number_components-count.auto.numbers, c.deref_mut.ensures.len))
    (subst (λ ls. ArePartsOf ls (record { count = c.number_components-count.result; numbers = c.number_components-count.new.numbers })) whole
    (ArePartsOf-numbers lists (subst IsSimpleMap (sym whole) c.requires.simple) _ _ c.number_components-count.ensures.count
    (omega (arith, c.number_components-count.auto.numbers, c.deref_mut.ensures.len, c.in_ok-resize.ensures.len, c.len.ensures.is, ap length whole))
    (λ v l. c.number_components-count.ensures.numbers v (omega arith))))

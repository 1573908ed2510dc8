use Rattle.std.proofs.Common.{length, ap, ◌∙◌, arith}
use Rattle.std.proofs.lemmas.List.{length-take-le}
use Rattle.map_lists.proofs.CutLemmas.{length-cut}
use Rattle.map_theory.specs.Maps.{component_count}
use Rattle.simple_maps.proofs.FaultLemmas.{first_fault-IsSimpleMap}
use Rattle.map_theory.proofs.Known.{AreCuts-known}
use Rattle.euler_faces.proofs.euler_counts.Counter.count.Goals as goal

pub number_components-components-requires-clause-cuts : goal.number_components-components-requires-clause-cuts
number_components-components-requires-clause-cuts c = AreCuts-known 0 _ _ c.stored-map.result.cuts

pub number_components-components-requires-clause-marks : goal.number_components-components-requires-clause-marks
number_components-components-requires-clause-marks c =
    let map = c.stored-map.result in
    omega (arith, ap length c.deref_mut.ensures.value, c.in_ok-clear.ensures.marks, c.len.ensures.is, ap length c.stored-map.ensures, length-cut 0 map.ends.now map.entries.now)

pub number_components-components-requires-clause-room : goal.number_components-components-requires-clause-room
number_components-components-requires-clause-room c =
    let map = c.stored-map.result in
    omega (arith, ap length c.deref_mut-2.ensures.value, c.in_ok-clear.ensures.room, c.len.ensures.is, ap length c.stored-map.ensures, length-cut 0 map.ends.now map.entries.now)

pub euler_by_twins-requires-clause-twins : goal.euler_by_twins-requires-clause-twins
euler_by_twins-requires-clause-twins c = rw (c.deref_mut-3.ensures.value, c.in_ok-clear.ensures.twins) c.in_ok-fill_twins.ensures.slots.twins_are

pub euler_by_twins-requires-clause-components : goal.euler_by_twins-requires-clause-components
euler_by_twins-requires-clause-components c = c.number_components-components.ensures.count ∙ ap component_count c.stored-map.ensures

pub returns-clause-simple : goal.returns-clause-simple
returns-clause-simple c = first_fault-IsSimpleMap c.args.lists.now c.in_ok-fill_twins.ensures.slots.simple

pub returns-then-branch-clause-simple : goal.returns-then-branch-clause-simple
returns-then-branch-clause-simple c = first_fault-IsSimpleMap c.args.lists.now c.in_ok-fill_twins.ensures.slots.simple

-- How a `MapFault` names the first fault of lists.
use Rattle.std.specs.Prelude.{◌≡◌, Option, Some}
use Rattle.simple_maps.specs.Faults.{Fault, out_of_range, loop_at, repeated, one_sided}
use Rattle.simple_maps.specs.declared.map_fault.MapFault.{MapFault}
use Rattle.simple_maps.specs.declared.map_fault.MapFault.TheVariants.{OutOfRange, Loop, Repeated, OneSided, NoMemory}

-- the fault is that of the lists; out of memory says nothing of them
abbrev pub Names : Option Fault → MapFault → Type 0
Names found (OutOfRange v u) = found ≡ Some (out_of_range v u)
Names found (Loop v) = found ≡ Some (loop_at v)
Names found (Repeated v u) = found ≡ Some (repeated v u)
Names found (OneSided v u) = found ≡ Some (one_sided v u)
Names found NoMemory = Unit {0}

-- The first condition that lists break.
use Rattle.std.specs.Prelude.{ℕ, nat_lt, if◌then◌else◌, Option, Some, None}
use Rattle.map_lists.specs.Lists.{Lists}
use Rattle.map_theory.specs.Maps.{vertex_count, genus}
use Rattle.simple_maps.specs.Faults.{Fault, out_of_range, loop_at, repeated, one_sided, first_fault}
use Rattle.simple_maps.specs.declared.map_fault.MapFault.{MapFault}
use Rattle.simple_maps.specs.declared.map_fault.MapFault.TheVariants as map
use Rattle.refusals.specs.declared.conditions.Refusal.{Refusal}
use Rattle.refusals.specs.declared.conditions.Refusal.TheVariants.{OutOfRange, Loop, Repeated, OneSided, Small, Genus}
use Rattle.refusals.specs.declared.conditions.Unserved.{Unserved}
use Rattle.refusals.specs.declared.conditions.Unserved.TheVariants.{Refused, NoMemory}

-- the refusal for a fault of lists
abbrev pub refusal_for : Fault → Refusal
refusal_for (out_of_range v u) = OutOfRange v u
refusal_for (loop_at v) = Loop v
refusal_for (repeated v u) = Repeated v u
refusal_for (one_sided v u) = OneSided v u

-- the refusal of a simple map with n vertices, of which `least` are wanted, and genus g
abbrev pub map_refusal : ℕ → ℕ → ℕ → Option Refusal
map_refusal least n g = if nat_lt n least then Some (Small n) else (if nat_lt 0 g then Some (Genus g) else None)

-- the condition that a fault breaks, where there is one, else the later one
abbrev pub refusal_after : Option Fault → Option Refusal → Option Refusal
refusal_after (Some fault) later = Some (refusal_for fault)
refusal_after None later = later

-- The first of the conditions 1 to 4 that lists break; None for a simple map.
abbrev pub fault_refusal : Lists → Option Refusal
fault_refusal lists = refusal_after (first_fault lists) None

-- The first of the conditions 1 to 6; None for a simple map of genus zero with at least `least` vertices.
abbrev pub first_refusal : ℕ → Lists → Option Refusal
first_refusal least lists = refusal_after (first_fault lists) (map_refusal least (vertex_count lists) (genus lists))

-- the answer for a fault, or when out of memory
abbrev pub unserved_for : MapFault → Unserved
unserved_for (map.OutOfRange v u) = Refused (OutOfRange v u)
unserved_for (map.Loop v) = Refused (Loop v)
unserved_for (map.Repeated v u) = Refused (Repeated v u)
unserved_for (map.OneSided v u) = Refused (OneSided v u)
unserved_for map.NoMemory = NoMemory

-- where an answer names a condition, it is such a one; out of memory says nothing of the record
abbrev pub IfRefused : (Refusal → Type 0) → Unserved → Type 0
IfRefused Breaks (Refused refusal) = Breaks refusal
IfRefused Breaks NoMemory = Unit {0}

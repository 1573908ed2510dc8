-- What the faults of lists are, in words of the lists, and which of them is named.
use Rattle.std.specs.Prelude.{ℕ, ◌<◌, ◌≤◌, ◌≡◌, ◌⊎◌, ◌↔◌, ◌==◌, length, count_by, Some, None}
use Rattle.map_lists.specs.Lists.{Lists}
use Rattle.map_theory.specs.Maps.{list_of, HasDart, IsSimpleMap}
use Rattle.simple_maps.specs.Faults.{Fault, out_of_range, loop_at, repeated, one_sided, first_fault}

-- the lists have this fault
abbrev pub HasFault : Lists → Fault → Type 0
HasFault lists (out_of_range v u) = HasDart lists v u × (length lists ≤ u)
HasFault lists (loop_at v) = HasDart lists v v
HasFault lists (repeated v u) = (v < length lists) × (2 ≤ count_by (λ w. w == u) (list_of lists v))
HasFault lists (one_sided v u) = HasDart lists v u × ¬ HasDart lists u v

-- which of the four kinds a fault is
abbrev pub kind : Fault → ℕ
kind (out_of_range v u) = 1
kind (loop_at v) = 2
kind (repeated v u) = 3
kind (one_sided v u) = 4

-- the first vertex of a fault
abbrev pub first_vertex : Fault → ℕ
first_vertex (out_of_range v u) = v
first_vertex (loop_at v) = v
first_vertex (repeated v u) = v
first_vertex (one_sided v u) = v

-- the second vertex of a fault, which of a loop is the first one again
abbrev pub second_vertex : Fault → ℕ
second_vertex (out_of_range v u) = u
second_vertex (loop_at v) = v
second_vertex (repeated v u) = u
second_vertex (one_sided v u) = u

-- the order in which faults are looked for: by kind, then by the first vertex, then by the second
abbrev pub IsNoLater : Fault → Fault → Type 0
IsNoLater fault other =
    (kind fault < kind other) ⊎ ((kind fault ≡ kind other) × ((first_vertex fault < first_vertex other) ⊎ ((first_vertex fault ≡ first_vertex other) × (second_vertex fault ≤ second_vertex other))))

-- the fault is one of the lists, and none of theirs is before it
pub record IsFirstFault (lists : Lists) (fault : Fault) : Type 0 where
  pub has : HasFault lists fault
  pub first : (other : Fault) → HasFault lists other → IsNoLater fault other

-- Lists of at least one vertex have no first fault exactly where they are a simple map.
abbrev pub NoFaultIsSimple : Type 0
NoFaultIsSimple = (lists : Lists) → 0 < length lists → (first_fault lists ≡ None) ↔ IsSimpleMap lists

-- The first fault is the first of the faults that lists have; and where none is found they have none.
pub record NamesTheFirst (lists : Lists) : Type 0 where
  pub found : (fault : Fault) → (first_fault lists ≡ Some fault) ↔ IsFirstFault lists fault
  pub none : (first_fault lists ≡ None) ↔ ((fault : Fault) → ¬ HasFault lists fault)

-- The first fault of all lists is named so.
abbrev pub FirstFaultIsFirst : Type 0
FirstFaultIsFirst = (lists : Lists) → NamesTheFirst lists

-- Why lists are no simple map: the first condition that they break, with its least place.
use Rattle.std.specs.Prelude.{ℕ, ◌+◌, min, Bool, not, ◌==◌, nat_lt, nat_le, if◌then◌else◌, List, [], ◌∷◌, length, count_by, Option, Some, None}
use Rattle.std.specs.List.{list_any}
use Rattle.map_lists.specs.Lists.{Lists}
use Rattle.map_theory.specs.Maps.{list_of}

-- A fault of lists, with its vertices numbered from 0. They stand in the order in which they are looked for.
pub data Fault : Type 0 where
  -- v's list holds u, and u is no vertex
  out_of_range : ℕ → ℕ → Fault
  -- v's list holds v
  loop_at : ℕ → Fault
  -- v's list holds u at least twice
  repeated : ℕ → ℕ → Fault
  -- v's list holds u, and u's list does not hold v
  one_sided : ℕ → ℕ → Fault

-- the lesser of what there is
abbrev pub lesser_of : Option ℕ → Option ℕ → Option ℕ
lesser_of None b = b
lesser_of (Some a) None = Some a
lesser_of (Some a) (Some b) = Some (min a b)

-- the least number of a list that passes a test
abbrev pub least_where : (ℕ → Bool) → List ℕ → Option ℕ
least_where p [] = None
least_where p (u ∷ us) = lesser_of (if p u then Some u else None) (least_where p us)

-- (v, u) where u was found at v, else what was found later
abbrev pub or_from : Option (ℕ × ℕ) → Option ℕ → ℕ → Option (ℕ × ℕ)
or_from later None v = later
or_from later (Some u) v = Some (v, u)

-- the first vertex from v on, in whose list something is found, and what is found there
abbrev pub first_from : (ℕ → List ℕ → Option ℕ) → ℕ → Lists → Option (ℕ × ℕ)
first_from find v [] = None
first_from find v (us ∷ lists) = or_from (first_from find (v + 1) lists) (find v us) v

-- what is found in v's list: the least number that is no vertex
abbrev pub least_out_of_range : ℕ → ℕ → List ℕ → Option ℕ
least_out_of_range n v us = least_where (nat_le n) us

-- v, where v stands in its own list us
abbrev pub own_number : ℕ → List ℕ → Option ℕ
own_number v us = least_where (λ u. u == v) us

-- the least number that stands at least twice in v's list us
abbrev pub least_repeated : ℕ → List ℕ → Option ℕ
least_repeated v us = least_where (λ u. nat_lt 1 (count_by (λ w. w == u) us)) us

-- the least number in v's list us in whose own list v does not stand
abbrev pub least_one_sided : Lists → ℕ → List ℕ → Option ℕ
least_one_sided lists v us = least_where (λ u. not (list_any (λ w. w == v) (list_of lists u))) us

-- the fault with the vertices that were found, else the later one
abbrev pub fault_or : (ℕ → ℕ → Fault) → Option (ℕ × ℕ) → Option Fault → Option Fault
fault_or fault None later = later
fault_or fault (Some place) later = Some (fault place.0 place.1)

-- The first fault of lists: each kind is looked for only where no kind before it is found.
unfoldable pub first_fault : Lists → Option Fault
first_fault lists =
    fault_or out_of_range (first_from (least_out_of_range (length lists)) 0 lists)
    (fault_or (λ v u. loop_at v) (first_from own_number 0 lists)
    (fault_or repeated (first_from least_repeated 0 lists)
    (fault_or one_sided (first_from (least_one_sided lists) 0 lists) None)))

-- The part of a map between some of its vertices: these are numbered anew in rising order, and each list is restricted to them.
use Rattle.std.specs.Prelude.{ℕ, zero, suc, ◌+◌, Bool, false, if◌then◌else◌, List, [], ◌∷◌, map, slice_index_or}
use Rattle.std.specs.List.{filter}
use Rattle.map_lists.specs.Lists.{Lists}

-- how many vertices before v are kept: the new number of v, if it is kept
abbrev pub kept_before : List Bool → ℕ → ℕ
kept_before [] v = 0
kept_before (k ∷ keep) zero = 0
kept_before (k ∷ keep) (suc v) = (if k then 1 else 0) + kept_before keep v

-- v is one of the kept vertices
abbrev pub is_kept : List Bool → ℕ → Bool
is_kept keep v = slice_index_or keep v false

-- a list restricted to the kept vertices, with their new numbers
abbrev pub induced_list : List Bool → List ℕ → List ℕ
induced_list keep us = map (kept_before keep) (filter (is_kept keep) us)

-- the lists of the kept vertices
abbrev pub kept_lists : List Bool → Lists → Lists
kept_lists [] lists = []
kept_lists (k ∷ keep) [] = []
kept_lists (k ∷ keep) (us ∷ lists) = if k then us ∷ kept_lists keep lists else kept_lists keep lists

-- the lists of the kept vertices, restricted to them and numbered anew in rising order
abbrev pub induced_lists : List Bool → Lists → Lists
induced_lists keep lists = map (induced_list keep) (kept_lists keep lists)

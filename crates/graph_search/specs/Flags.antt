-- How cut vertices show in a search, and tables that tell them.
use Rattle.std.specs.Prelude.{ℕ, ◌+◌, ◌<◌, ◌≤◌, ◌≡◌, Bool, true, false, List, length, slice_index, slice_index_or, Contains}
use Rattle.map_lists.specs.Lists.{Lists}
use Rattle.map_theory.specs.Maps.{list_of}
use Rattle.graph_search.specs.Cuts.{IsCutVertex}

-- c is a child of v, and v parts it from v's parent; or from v's first child, where v has no parent
pub record IsSeparatedChild (n : ℕ) (number parent low : ℕ → ℕ) (v c : ℕ) : Type 0 where
  pub vertex : c < n
  pub child : parent c ≡ v
  pub from_parent : parent v < n → number v ≤ low c
  pub from_first : n ≤ parent v → number v + 1 < number c

-- the flag of each vertex tells whether it is a cut vertex
pub record AreCutFlags (lists : Lists) (flags : List Bool) : Type 0 where
  pub count : length flags ≡ length lists
  pub yes : (v : ℕ) → v < length lists → slice_index_or flags v false ≡ true → IsCutVertex lists v
  pub no : (v : ℕ) → v < length lists → slice_index_or flags v false ≡ false → ¬ IsCutVertex lists v

-- `IsSeparatedChild` of tables with an entry for each vertex
abbrev pub IsSeparatedIn : List ℕ → List ℕ → List ℕ → ℕ → ℕ → Type 0
IsSeparatedIn number parent low v c = IsSeparatedChild (length number) (λ u. slice_index number u) (λ u. slice_index parent u) (λ u. slice_index low u) v c

-- whether an entry is one
abbrev pub HasSeparatedChild : List ℕ → List ℕ → List ℕ → ℕ → List ℕ → Type 0
HasSeparatedChild number parent low v entries = (c : ℕ) × Contains entries c × IsSeparatedIn number parent low v c

-- the flags of the first vertices tell whether their lists have one
pub record TellSeparated (lists : Lists) (number parent low : List ℕ) (flags : List Bool) (count : ℕ) : Type 0 where
  pub yes : (v : ℕ) → v < count → slice_index_or flags v false ≡ true → HasSeparatedChild number parent low v (list_of lists v)
  pub no : (v : ℕ) → v < count → slice_index_or flags v false ≡ false → ¬ HasSeparatedChild number parent low v (list_of lists v)

-- Lists as their numbers come: those that are closed, and the open one.
use Rattle.std.specs.Prelude.{ℕ, zero, suc, ◌+◌, ◌<◌, ◌≤◌, ◌≡◌, List, [], ◌∷◌, ◌++◌, length, map, All}
use Rattle.map_lists.specs.Lists.{Lists}
use Rattle.planar_code.specs.Reading.{record_numbers}

pub record Open : Type 0 where
  -- the lists that are closed
  pub lists : Lists
  -- the entries of the open one
  pub last : List ℕ
  -- how many more entries there is room for
  pub room : ℕ
  -- how many lists there is room for
  pub most : ℕ

-- the place behind the last closed list, where the first begins at `from`
abbrev pub last_end : ℕ → List ℕ → ℕ
last_end from [] = from
last_end from (end ∷ ends) = last_end end ends

-- each piece ends no earlier than it begins, and the last one ends within a list
abbrev pub AreWithin : ℕ → List ℕ → ℕ → Type 0
AreWithin from [] total = from ≤ total
AreWithin from (end ∷ ends) total = (from ≤ end) × AreWithin end ends total

-- the numbers behind the count: those of the lists that are closed, and of the one that is open
abbrev pub numbers_of : Lists → List ℕ → List ℕ
numbers_of lists last = record_numbers lists ++ map (λ u. u + 1) last

-- a number joins the lists: 0 closes the open one
abbrev pub Collects : ℕ → Lists → List ℕ → Lists → List ℕ → Type 0
Collects zero lists last lists' last' = (lists' ≡ lists ++ last ∷ []) × (last' ≡ [])
Collects (suc u) lists last lists' last' = (lists' ≡ lists) × (last' ≡ last ++ u ∷ [])

-- Fewer lists are closed than the count says, and entries are below a limit.
pub record IsOpen (few limit count : ℕ) (lists : Lists) (last : List ℕ) : Type 0 where
  pub few_lists : count < few
  pub some_left : length lists < count
  pub small_lists : All (λ us. All (λ u. u < limit) us) lists
  pub small_last : All (λ u. u < limit) last

-- These numbers join the lists, of which no more are closed then than the count says, the last of them by the last number.
pub record Gathers (limit count : ℕ) (numbers : List ℕ) (old new : Open) : Type 0 where
  pub joined : numbers_of new.lists new.last ≡ numbers_of old.lists old.last ++ numbers
  pub few : length new.lists ≤ count
  pub full : length new.lists ≡ count → new.last ≡ []
  pub small_lists : All (λ us. All (λ u. u < limit) us) new.lists
  pub small_last : All (λ u. u < limit) new.last
  pub room : old.room ≤ new.room + length numbers
  pub most : new.most ≡ old.most

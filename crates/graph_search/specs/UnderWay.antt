-- A depth-first search under way. A vertex that was not seen has the number of vertices for its number, and one that is not done ends at 0.
use Rattle.std.specs.Prelude.{ℕ, ◌+◌, ◌<◌, ◌≤◌, ◌≡◌, ◌⊎◌, not, nat_lt, List, length, slice_index, replicate}
use Rattle.classes.specs.Classes.{count_below}
use Rattle.map_lists.specs.Lists.{Lists}
use Rattle.map_theory.specs.Maps.{HasDart, list_of}

-- how many of n vertices were seen
abbrev pub seen_count : (ℕ → ℕ) → ℕ → ℕ
seen_count number n = count_below (λ v. nat_lt (number v) n) n

-- how many of n vertices are still to be seen, and how many to be done
abbrev pub work_left : (ℕ → ℕ) → (ℕ → ℕ) → ℕ → ℕ
work_left number last n = count_below (λ v. not (nat_lt (number v) n)) n + count_below (λ v. not (nat_lt 0 (last v))) n

-- u holds v, as far as can be told: if it is done, it was done after v was seen
pub record MayHold (number last : ℕ → ℕ) (u v : ℕ) : Type 0 where
  pub after : number u < number v
  pub before : 0 < last u → number v < last u

-- The first `count` vertices were seen. `current` is that of the greatest number among those that are not done; it is no vertex where all that were seen are done.
pub record IsUnderWay (lists : Lists) (order number last parent : ℕ → ℕ) (count current : ℕ) : Type 0 where
  pub counted : count ≡ seen_count number (length lists)
  pub most : (v : ℕ) → v < length lists → number v ≤ length lists
  pub numbered : (v : ℕ) → v < length lists → number v < length lists → number v < count
  pub own : (v : ℕ) → v < length lists → number v < length lists → order (number v) ≡ v
  pub vertex : (k : ℕ) → k < count → order k < length lists
  pub place : (k : ℕ) → k < count → number (order k) ≡ k
  pub ends_after : (v : ℕ) → v < length lists → 0 < last v → number v < last v
  pub ends_within : (v : ℕ) → v < length lists → last v ≤ count
  pub nested_done : (u v : ℕ) → u < length lists → v < length lists → number u < number v → number v < last u → 0 < last v
  pub nested : (u v : ℕ) → u < length lists → v < length lists → number u < number v → number v < last u → last v ≤ last u
  pub edges : (u v : ℕ) → HasDart lists u v → 0 < last u → number v < last u
  pub adjacent : (v : ℕ) → v < length lists → number v < length lists → parent v < length lists → ∥ HasDart lists (parent v) v ∥₁
  pub held : (v : ℕ) → v < length lists → number v < length lists → parent v < length lists → MayHold number last (parent v) v
  pub has_parent : (u v : ℕ) → u < length lists → v < length lists → number v < length lists → MayHold number last u v → parent v < length lists
  pub nearest : (u v : ℕ) → u < length lists → v < length lists → number v < length lists → MayHold number last u v → number u ≤ number (parent v)
  pub current_seen : current < length lists → number current < length lists
  pub current_open : current < length lists → last current ≡ 0
  pub some_current : (u : ℕ) → u < length lists → number u < length lists → last u ≡ 0 → current < length lists
  pub top_most : (u : ℕ) → u < length lists → number u < length lists → last u ≡ 0 → number u ≤ number current

-- the entries of each list before its cursor were seen
pub record AreRead (lists : Lists) (number cursor : ℕ → ℕ) : Type 0 where
  pub within : (v : ℕ) → v < length lists → cursor v ≤ length (list_of lists v)
  pub seen : (v i : ℕ) → v < length lists → i < cursor v → number (slice_index (list_of lists v) i) < length lists

-- a search under way in tables with an entry for each vertex
pub record IsSearching (lists : Lists) (order number last parent cursor : List ℕ) (count current : ℕ) : Type 0 where
  pub orders : length order ≡ length lists
  pub numbers : length number ≡ length lists
  pub lasts : length last ≡ length lists
  pub parents : length parent ≡ length lists
  pub cursors : length cursor ≡ length lists
  pub state : IsUnderWay lists (λ k. slice_index order k) (λ v. slice_index number v) (λ v. slice_index last v) (λ v. slice_index parent v) count current
  pub read : AreRead lists (λ v. slice_index number v) (λ v. slice_index cursor v)

-- `least` is the number of a neighbour of w, where w is v or was seen after it; and before v was done, if it is
pub record IsMetFrom (lists : Lists) (number last : ℕ → ℕ) (v least : ℕ) : Type 0 where
  pub w : ℕ
  pub u : ℕ
  pub from : number v ≤ number w
  pub before : 0 < last v → number w < last v
  pub seen : number w < length lists
  pub dart : HasDart lists w u
  pub is : number u ≡ least

-- Low points as far as they are found. No entry that was read is lower, nor is a child that is done; a neighbour of a vertex that is done is not lower either. What a vertex has is met.
pub record AreLowering (lists : Lists) (number last parent cursor low : ℕ → ℕ) : Type 0 where
  pub read : (v i : ℕ) → v < length lists → i < cursor v → low v ≤ number (slice_index (list_of lists v) i)
  pub done : (v u : ℕ) → HasDart lists v u → 0 < last v → low v ≤ number u
  pub children : (c : ℕ) → c < length lists → 0 < last c → parent c < length lists → low (parent c) ≤ low c
  pub seen : (v : ℕ) → v < length lists → low v < length lists → number v < length lists
  pub met : (v : ℕ) → v < length lists → low v < length lists → ∥ IsMetFrom lists number last v (low v) ∥₁

-- `AreLowering` of tables with an entry for each vertex
pub record AreLowsSoFar (lists : Lists) (number last parent cursor low : List ℕ) : Type 0 where
  pub lows : length low ≡ length lists
  pub so_far : AreLowering lists (λ v. slice_index number v) (λ v. slice_index last v) (λ v. slice_index parent v) (λ v. slice_index cursor v) (λ v. slice_index low v)

-- the least of `start` and of the numbers of the entries from place `from` on and before `place`
pub record IsLeastFrom (entries number : List ℕ) (from place start least : ℕ) : Type 0 where
  pub most : least ≤ start
  pub below : (i : ℕ) → from ≤ i → i < place → least ≤ slice_index number (slice_index entries i)
  pub met : (least ≡ start) ⊎ ((i : ℕ) × (i < length entries) × (slice_index number (slice_index entries i) ≡ least))

-- tables of n vertices none of which was seen
pub record AreCleared (n : ℕ) (order number last parent cursor low : List ℕ) : Type 0 where
  pub orders : length order ≡ n
  pub unseen : number ≡ replicate n n
  pub open_all : last ≡ replicate n 0
  pub parents : length parent ≡ n
  pub unread : cursor ≡ replicate n 0
  pub unlowered : low ≡ replicate n n

-- the work left in tables
abbrev pub work_in : List ℕ → List ℕ → ℕ
work_in number last = work_left (λ v. slice_index number v) (λ v. slice_index last v) (length number)

-- vertices that were seen keep their numbers
abbrev pub KeepsNumbers : List ℕ → List ℕ → Type 0
KeepsNumbers old new = (v : ℕ) → v < length old → slice_index old v < length old → slice_index new v ≡ slice_index old v

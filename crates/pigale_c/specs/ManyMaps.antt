-- Many maps in arrays, one behind another, and the answers to them.
use Rattle.std.specs.Prelude.{ℕ, zero, suc, ◌-◌, ◌<◌, ◌≤◌, ◌≡◌, ◌⊎◌, List, length, map, take, drop, slice_index_or, slice_range, ℤ}
use Rattle.map_lists.specs.Cuts.{AreCuts}
use Rattle.pigale_c.specs.Numbers.{Reports, none}
use Rattle.pigale_c.specs.declared.outcome.Numbers.{Numbers}
use Rattle.pigale_c.specs.declared.outcome.Outcome.{Outcome}

-- the maps cut up all lists, and these all neighbours
pub record AreGivenMaps (map_ends ends neighbours : List ℕ) : Type 0 where
  pub maps : AreCuts 0 map_ends (length ends)
  pub lists : AreCuts 0 ends (length neighbours)

-- where number i begins: at the end of the one before it
abbrev pub begin_of : List ℕ → ℕ → ℕ
begin_of ends zero = 0
begin_of ends (suc i) = slice_index_or ends i 0

-- what number i has of a row that is cut at these ends
abbrev pub part_of : {A : Type 0} → List ℕ → List A → ℕ → List A
part_of ends row i = slice_range row (begin_of ends i) (begin_of ends (suc i))

-- where the neighbours of map i begin, and for the next one where they end
abbrev pub entry_of_map : List ℕ → List ℕ → ℕ → ℕ
entry_of_map map_ends ends i = begin_of ends (begin_of map_ends i)

-- of the lists of map i the ends among their own neighbours, and these neighbours
abbrev pub ends_of_map : List ℕ → List ℕ → ℕ → List ℕ
ends_of_map map_ends ends i = map (λ end. end - entry_of_map map_ends ends i) (part_of map_ends ends i)

abbrev pub entries_of_map : List ℕ → List ℕ → List ℕ → ℕ → List ℕ
entries_of_map map_ends ends neighbours i = slice_range neighbours (entry_of_map map_ends ends i) (entry_of_map map_ends ends (suc i))

-- only entries from one number to another may have changed
pub record IsChangedWithin {A : Type 0} (from to : ℕ) (old new : List A) : Type 0 where
  pub long : length new ≡ length old
  pub before : take from new ≡ take from old
  pub behind : drop to new ≡ drop to old

-- The first k of some calls are answered, each with what is right for its part of the arrays before it and after; the parts of the others are as they were.
pub record AreAnsweredTo (P : Type 0) (Right : ℕ → P → P → Outcome → Type 0) (old new : ℕ → P) (row row' : List ℕ) (table table' : List Numbers) (k : ℕ) : Type 0 where
  pub answered : (i : ℕ) → i < k → Reports (Right i (old i) (new i)) (slice_index_or row' i 0) (slice_index_or table' i none)
  pub kept : (i : ℕ) → k ≤ i → i < length row → (new i ≡ old i) × (slice_index_or row' i 0 ≡ slice_index_or row i 0) × (slice_index_or table' i none ≡ slice_index_or table i none)

-- All calls are answered; or memory was wanting after the first k; or the arrays do not fit together, and nothing was written.
abbrev pub AreAnswered : (P : Type 0) → Type 0 → (ℕ → P → P → Outcome → Type 0) → (ℕ → P) → (ℕ → P) → List ℕ → List ℕ → List Numbers → List Numbers → Type 0 → ℕ → Type 0
AreAnswered P Given Right old new row row' table table' AreKept status =
    ((status ≡ 0) × Given × AreAnsweredTo P Right old new row row' table table' (length row))
    ⊎ (((status ≡ 16) × Given × (k : ℕ) × (k < length row) × AreAnsweredTo P Right old new row row' table table' k)
    ⊎ ((status ≡ 17) × (¬ Given) × AreKept × (row' ≡ row) × (table' ≡ table)))

-- what a call for one map promises: of its ends and neighbours, and of two rows of coordinates before and after
abbrev pub Promise : Type 1
Promise = List ℕ → List ℕ → List ℤ → List ℤ → List ℤ → List ℤ → Outcome → Type 0

-- the same of map i, with its parts of the rows
abbrev pub DrawsEach : Promise → List ℕ → List ℕ → List ℕ → ℕ → List ℤ × List ℤ → List ℤ × List ℤ → Outcome → Type 0
DrawsEach Draws map_ends ends neighbours i old new = Draws (ends_of_map map_ends ends i) (entries_of_map map_ends ends neighbours i) old.0 old.1 new.0 new.1

-- what map i has of two rows
abbrev pub two_parts : List ℕ → List ℤ → List ℤ → ℕ → List ℤ × List ℤ
two_parts map_ends xs ys i = (part_of map_ends xs i, part_of map_ends ys i)

-- an entry of a row and of a table for each map
pub record HaveAnswers (map_ends row : List ℕ) (table : List Numbers) : Type 0 where
  pub statuses : length row ≡ length map_ends
  pub found : length table ≡ length map_ends

-- maps, an entry of two rows for each list, and an answer for each map
pub record HaveRoom (map_ends ends neighbours : List ℕ) (xs ys : List ℤ) (row : List ℕ) (table : List Numbers) : Type 0 where
  pub given : AreGivenMaps map_ends ends neighbours
  pub x : length xs ≡ length ends
  pub y : length ys ≡ length ends
  pub answers : HaveAnswers map_ends row table

-- the first k maps are drawn as calls for them alone would draw them
abbrev pub AreDrawnTo : Promise → List ℕ → List ℕ → List ℕ → List ℤ → List ℤ → List ℤ → List ℤ → List ℕ → List ℕ → List Numbers → List Numbers → ℕ → Type 0
AreDrawnTo Draws map_ends ends neighbours xs ys xs' ys' = AreAnsweredTo (List ℤ × List ℤ) (DrawsEach Draws map_ends ends neighbours) (two_parts map_ends xs ys) (two_parts map_ends xs' ys')

-- each map is drawn as a call for it alone would draw it
abbrev pub AreDrawnMany : Promise → List ℕ → List ℕ → List ℕ → List ℤ → List ℤ → List ℕ → List Numbers → List ℤ → List ℤ → List ℕ → List Numbers → ℕ → Type 0
AreDrawnMany Draws map_ends ends neighbours xs ys row table xs' ys' row' table' status =
    AreAnswered (List ℤ × List ℤ) (HaveRoom map_ends ends neighbours xs ys row table) (DrawsEach Draws map_ends ends neighbours) (two_parts map_ends xs ys) (two_parts map_ends xs' ys') row row' table table' ((xs' ≡ xs) × (ys' ≡ ys)) status

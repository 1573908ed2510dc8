-- Tables by the ids of darts, of the column of each edge and of whether it is clear; and the highest bars that a sweep from below has met.
use Rattle.std.specs.Prelude.{ℕ, ◌+◌, ◌<◌, ◌≤◌, Option, MatchOption, ◌≡◌, ◌≢◌, ◌⊎◌, ◌==◌, nat_lt, if◌then◌else◌, Bool, true, false, List, length, take, slice_index, slice_index_or, count_by, Some, ℤ, pos, ◌+ℤ◌, ◌≤ℤ◌, ◌<ℤ◌}
use Rattle.map_lists.specs.Lists.{Lists}
use Rattle.drawings.specs.NextEdges.{AreNext}
use Rattle.map_lists.specs.declared.items.Ends.{Ends}
use Rattle.map_theory.specs.Maps.{list_of, place_of}
use Rattle.half_edges.specs.Map.{Map, IsLive, dart_at}
use Rattle.pg_plane.specs.declared.figures.BarFigure.{BarFigure}
use Rattle.vertex_rounds.specs.Rounds.{HasEdge, dart_of}
use Rattle.vertex_rounds.specs.Least.{IsLeastPair}
use Rattle.bar_check.specs.Faults.{HasBadColumn}
use Rattle.drawings.specs.Bars.{number_at, edges_until, edges_before, column_of, column_between, Holds, IsStruck}

-- e is the id of one of the two darts of the edge from a to c
abbrev pub IsDartOf : Map → ℕ → ℕ → ℕ → Type 0
IsDartOf map e a c = (dart_at map e ≡ Some (a, c)) ⊎ (dart_at map e ≡ Some (c, a))

-- both darts of each edge have its column, as far as the table reaches
pub record AreColumns (map : Map) (fig : BarFigure) (columns : List ℤ) : Type 0 where
  pub each : (a c e : ℕ) → HasEdge map.lists a c → IsDartOf map e a c → e < length columns → number_at columns e ≡ column_of map.lists fig a c

-- x was written at d and at t, where the table reaches so far
pub record IsWritten (d t : ℕ) (x : ℤ) (old new : List ℤ) : Type 0 where
  pub size : length new ≡ length old
  pub here : d < length new → number_at new d ≡ x
  pub there : t < length new → number_at new t ≡ x
  pub elsewhere : (e : ℕ) → e ≢ d → e ≢ t → number_at new e ≡ number_at old e

-- the edge from a to c is met before entry i of the list of b, where each is met at its greater end
abbrev pub IsMet : Lists → ℕ → ℕ → ℕ → ℕ → Type 0
IsMet lists b i a c = (c < b) ⊎ ((c ≡ b) × (place_of a (list_of lists b) < i))

-- `AreNext`, and the columns of the edges that were met are written
pub record AreFilled (map : Map) (fig : BarFigure) (b i : ℕ) (next : List ℕ) (columns : List ℤ) : Type 0 where
  pub vertices : length next ≡ length map.lists
  pub numbers : AreNext map.lists b i next
  pub known : (a c e : ℕ) → HasEdge map.lists a c → IsMet map.lists b i a c → IsDartOf map e a c → e < length columns → number_at columns e ≡ column_of map.lists fig a c

-- an edge that was met has a bad column
pub record IsMetBad (lists : Lists) (fig : BarFigure) (width : ℤ) (b i a c : ℕ) : Type 0 where
  pub bad : HasBadColumn lists fig width a c
  pub met : IsMet lists b i a c

-- the first such edge, if there is one
abbrev pub IsFirstMetBad : Lists → BarFigure → ℤ → ℕ → ℕ → Option Ends → Type 0
IsFirstMetBad lists fig width b i found =
    MatchOption found ((a c : ℕ) → ¬ IsMetBad lists fig width b i a c) (λ e. IsLeastPair (IsMetBad lists fig width b i) e.a.0 e.b.0)

-- an edge was found, and its lesser end is not above a
abbrev pub IsUpTo : Option Ends → ℕ → Type 0
IsUpTo found a = MatchOption found ⊥ (λ e. e.a.0 ≤ a)

-- where a dart is marked, no bar is in the way of its edge
pub record AreClear (map : Map) (fig : BarFigure) (clear : List Bool) : Type 0 where
  pub each : (d w : ℕ) → IsLive map d → slice_index_or clear d false ≡ true → w < length map.lists → ¬ IsStruck fig (dart_of map d).0 (dart_of map d).1 (column_between map.lists fig (dart_of map d).0 (dart_of map d).1) w

-- of the n bars those below height h, of which each is below the mark of each column that it holds
pub record HasTops (n : ℕ) (fig : BarFigure) (h : ℕ) (tops : List ℕ) : Type 0 where
  pub each : (w x k : ℕ) → w < n → number_at fig.y w ≡ pos k → k < h → Holds fig w (pos x) → x < length tops → k < slice_index tops x

-- column x has a mark, which is not above that of a bar of this height
pub record IsAtTop (tops : List ℕ) (x height : ℤ) : Type 0 where
  pub column : pos 0 ≤ℤ x
  pub top : (k : ℕ) → x ≡ pos k → (k < length tops) × (pos (slice_index tops k) ≤ℤ (height +ℤ pos 1))

-- the bar of u is below height h, and is the highest of those that hold column x
pub record IsSeen (fig : BarFigure) (h : ℕ) (tops : List ℕ) (x : ℤ) (u : ℕ) : Type 0 where
  pub below : number_at fig.y u <ℤ pos h
  pub top : IsAtTop tops x (number_at fig.y u)

-- each bar goes from left to right
abbrev pub DoGoRight : ℕ → BarFigure → Type 0
DoGoRight n fig = (v : ℕ) → v < n → (pos 0 ≤ℤ number_at fig.x1 v) × (number_at fig.x1 v ≤ℤ number_at fig.x2 v)

-- v is the vertex at height h
abbrev pub StandsAt : ℕ → BarFigure → ℕ → ℕ → Type 0
StandsAt n fig h v = (v < n) × (number_at fig.y v ≡ pos h)

-- just the heights of the vertices below v are marked
pub record AreSeen (fig : BarFigure) (v : ℕ) (seen : List Bool) : Type 0 where
  pub some : (k : ℕ) → slice_index_or seen k false ≡ true → (u : ℕ) × (u < v) × (number_at fig.y u ≡ pos k)
  pub all : (u k : ℕ) → u < v → number_at fig.y u ≡ pos k → slice_index_or seen k false ≡ true

-- z is the number of an entry that is not marked
pub record IsFree (seen : List Bool) (z : ℤ) : Type 0 where
  pub low : pos 0 ≤ℤ z
  pub high : z <ℤ pos (length seen)
  pub free : (k : ℕ) → z ≡ pos k → slice_index_or seen k false ≡ false

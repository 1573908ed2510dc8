-- What the pass over the lists reads and makes: the numbers of the faces beside each dart, and columns with the ends of bars.
use Rattle.std.specs.Prelude.{ℕ, ◌<◌, ◌≡◌, ◌^◌, List, [], ◌∷◌, ◌++◌, length, map, slice_index, ℤ, pos}
use Rattle.map_lists.specs.Lists.{Lists}
use Rattle.map_theory.specs.Maps.{IsSimpleMap, HasDart, list_of, dart_count, dart_number}
use Rattle.graph_search.specs.Arcs.{arcs_of}
use Rattle.bipolar.specs.Columns.{AreColumns, IsFilled}
use Rattle.bipolar.specs.FaceNumbers.{left_rows}
use Rattle.visibility.specs.Ends.{IsLeastOf, IsGreatestOf, AreEnds}

-- Ranks of vertices, faces and twins of darts, and numbers of faces, of a map in which each vertex has an edge.
pub record AreSides (lists : Lists) (rank of twins numbers : List ℕ) : Type 0 where
  pub simple : IsSimpleMap lists
  pub few : length lists < 4096
  pub ranks : length rank ≡ length lists
  pub faces : length of ≡ dart_count lists
  pub twin_count : length twins ≡ dart_count lists
  pub twin : (v u : ℕ) → HasDart lists v u → slice_index twins (dart_number lists (v, u)) ≡ dart_number lists (u, v)
  pub within : (i : ℕ) → i < dart_count lists → slice_index of i < length numbers
  pub low : (v i : ℕ) → slice_index (arcs_of (left_rows lists rank of numbers) v) i < 2 ^ 31
  pub some : (v : ℕ) → v < length lists → 0 < length (list_of lists v)

-- The rows before that of b have been gone over, and the first i numbers of that of b. Where the next number of a vertex goes is known behind its row: `starts` says so for those before b.
pub record IsFilledTo (lists rows : Lists) (b i : ℕ) (starts columns : List ℕ) : Type 0 where
  -- the same for all vertices
  pub places : List ℕ
  pub filled : IsFilled lists rows b i places columns
  pub same : (a : ℕ) → a < b → slice_index starts a ≡ slice_index places a
  pub vertices : length starts ≡ length lists

-- `IsFilledTo`, with the numbers of the columns as integers, and a spare entry behind them
pub record AreFilledTo (lists rows : Lists) (b i : ℕ) (starts : List ℕ) (columns : List ℤ) : Type 0 where
  pub numbers : List ℕ
  pub spare : ℤ
  pub are : columns ≡ map pos numbers ++ spare ∷ []
  pub filled : IsFilledTo lists rows b i starts numbers

-- columns from rows, as whole numbers
pub record ArePutColumns (lists rows : Lists) (columns : List ℤ) : Type 0 where
  pub numbers : List ℕ
  pub are : columns ≡ map pos numbers
  pub from_rows : AreColumns lists rows numbers

-- columns from rows, and the least and the greatest of each row
pub record AreSpanned (lists rows : Lists) (columns x1 x2 : List ℤ) : Type 0 where
  pub are_columns : ArePutColumns lists rows columns
  pub left : AreEnds rows IsLeastOf x1
  pub right : AreEnds rows IsGreatestOf x2

-- Bars in arrays.
use Rattle.std.specs.Prelude.{ℕ, ◌≡◌, List, length, ℤ, Some, None}
use Rattle.simple_maps.specs.Faults.{first_fault}
use Rattle.map_theory.specs.Maps.{edge_count}
use Rattle.refusals.specs.Conditions.{fault_refusal}
use Rattle.conn_parts.specs.BiconnectedMaps.{IsBiconnectedMap, BreaksFirst}
use Rattle.visibility.specs.Figures.{IsBarFigure}
use Rattle.pg_plane.specs.declared.figures.BarFigure.{BarFigure}
use Rattle.bar_check.specs.Verdicts.{IsBarVerdict}
use Rattle.pigale_c.specs.Arrays.{lists_in, IsGivenMap}
use Rattle.pigale_c.specs.Failures.{Fails}
use Rattle.pigale_c.specs.declared.outcome.Outcome.{Outcome}
use Rattle.pigale_c.specs.declared.outcome.Outcome.TheVariants.{Served, Bars, Failed}

-- the bars of four arrays: heights, left ends, right ends and columns
abbrev pub bars_in : List ℤ → List ℤ → List ℤ → List ℤ → BarFigure
bars_in ys lefts rights columns = record { y = ys; x1 = lefts; x2 = rights; column = columns }

-- there is a bar for each of n vertices
pub record AreBarsFor (n : ℕ) (fig : BarFigure) : Type 0 where
  pub y : length fig.y ≡ n
  pub x1 : length fig.x1 ≡ n
  pub x2 : length fig.x2 ≡ n

-- a map, and a bar for each vertex
pub record IsGivenBars (ends neighbours : List ℕ) (fig : BarFigure) : Type 0 where
  pub map : IsGivenMap ends neighbours
  pub bars : AreBarsFor (length ends) fig

-- the arrays are bars of a simple map, and the verdict is the one on them within this width; or the call failed
abbrev pub AreJudgedBars : List ℕ → List ℕ → BarFigure → ℤ → Outcome → Type 0
AreJudgedBars ends neighbours fig width (Bars verdict) =
    IsGivenBars ends neighbours fig × (first_fault (lists_in ends neighbours) ≡ None) × IsBarVerdict (lists_in ends neighbours) fig width verdict
AreJudgedBars ends neighbours fig width (Failed failure) =
    Fails (IsGivenBars ends neighbours fig) (λ refusal. fault_refusal (lists_in ends neighbours) ≡ Some refusal) failure
AreJudgedBars ends neighbours fig width outcome = ⊥

-- a map, and room for a bar of each vertex and a column of each edge
pub record HasBarArrays (ends neighbours : List ℕ) (fig : BarFigure) : Type 0 where
  pub given : IsGivenBars ends neighbours fig
  pub columns : length fig.column ≡ edge_count (lists_in ends neighbours)

-- The map is served, and the arrays have a figure of it; or the call failed, and the arrays are as they were.
abbrev pub AreDrawnBars : List ℕ → List ℕ → BarFigure → BarFigure → Outcome → Type 0
AreDrawnBars ends neighbours old new Served =
    HasBarArrays ends neighbours old × IsBiconnectedMap 3 (lists_in ends neighbours) × IsBarFigure (lists_in ends neighbours) new
AreDrawnBars ends neighbours old new (Failed failure) =
    Fails (HasBarArrays ends neighbours old) (BreaksFirst 3 (lists_in ends neighbours)) failure × (new ≡ old)
AreDrawnBars ends neighbours old new outcome = ⊥

-- What a search of a record finds.
use Rattle.std.specs.Prelude.{⊤, ℕ, ◌<◌, ◌≤◌, ◌≡◌, List, length, slice_index}
use Rattle.map_lists.specs.Lists.{Lists}
use Rattle.map_theory.specs.Maps.{IsSimpleMap, HasDart, list_of, darts}
use Rattle.simple_maps.specs.Tables.{AreTwins}
use Rattle.refusals.specs.declared.conditions.Refusal.TheVariants.{CutVertex}
use Rattle.conn_parts.specs.BiconnectedMaps.{IsBiconnectedMap, BreaksFirst}
use Rattle.visibility.specs.Figures.{IsBarFigure}
use Rattle.visibility.specs.declared.bar_figures.drawer.Found.{Found}
use Rattle.visibility.specs.declared.bar_figures.drawer.Found.TheVariants.{Drawn, Cut, Nothing}

-- A map of three or more vertices, but not too many, with the twins of its darts; t is the first in the list of vertex 0.
pub record IsRooted (lists : Lists) (twins : List ℕ) (t : ℕ) : Type 0 where
  pub simple : IsSimpleMap lists
  pub few : length lists < 4096
  pub many : 3 ≤ length lists
  pub first : slice_index (list_of lists 0) 0 ≡ t
  pub dart : HasDart lists 0 t
  pub are_twins : AreTwins (darts lists) twins (length (darts lists))

-- A figure of it, the first condition that it breaks, or nothing.
abbrev pub IsFound : Lists → Found → Type 0
IsFound lists (Drawn figure) = IsBiconnectedMap 3 lists × IsBarFigure lists figure
IsFound lists (Cut v) = BreaksFirst 3 lists (CutVertex v)
IsFound lists Nothing = ⊤

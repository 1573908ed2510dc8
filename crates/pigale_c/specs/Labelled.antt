-- An edge labelling in an array: a number for each entry of the neighbours.
use Rattle.std.specs.Prelude.{ℕ, ◌<◌, ◌≡◌, List, length, slice_index, slice_index_or, Some}
use Rattle.map_lists.specs.Lists.{Lists}
use Rattle.map_theory.specs.Maps.{Dart, darts, dart_count}
use Rattle.half_edges.specs.Map.{Map, dart_at}
use Rattle.drawings.specs.Duals.{top_vertex, right_vertex, bottom_vertex}
use Rattle.rect_class.specs.RectMaps.{IsRectMap}
use Rattle.rect_class.specs.Refusals.{BreaksRect}
use Rattle.rect_runs.specs.Corners.{End}
use Rattle.rect_orders.specs.Labellings.{IsEdgeLabelling}
use Rattle.rect_dual.specs.Labellings.{IsLabelOf, label_in}
use Rattle.rect_dual.specs.declared.labels.label_types.Label.{Label}
use Rattle.rect_dual.specs.declared.labels.label_types.Label.TheVariants.{RiseOut, RiseIn, RunOut, RunIn, Frame}
use Rattle.pigale_c.specs.Arrays.{lists_in, IsGivenMap}
use Rattle.pigale_c.specs.Failures.{Fails}
use Rattle.pigale_c.specs.declared.outcome.Outcome.{Outcome}
use Rattle.pigale_c.specs.declared.outcome.Outcome.TheVariants.{Served, Failed}

-- the number of a label: 0 for an edge of the outer face, else whether it is vertical and leaves or enters, or horizontal and does
abbrev pub label_number : Label → ℕ
label_number Frame = 0
label_number RiseOut = 1
label_number RiseIn = 2
label_number RunOut = 3
label_number RunIn = 4

-- dart number i of lists
abbrev pub dart_in : Lists → ℕ → Dart
dart_in lists i = slice_index_or (darts lists) i (0, 0)

-- a number is that of the label that a dart of a map has by its id
abbrev pub IsDartLabel : Map → List Label → Dart → ℕ → Type 0
IsDartLabel map labels d number = (id : ℕ) × (dart_at map id ≡ Some d) × (number ≡ label_number (label_in labels id))

-- a row has the labels of the first k darts
pub record AreLabelsTo (map : Map) (labels : List Label) (k : ℕ) (row : List ℕ) : Type 0 where
  pub count : length row ≡ k
  pub each : (i : ℕ) → i < k → IsDartLabel map labels (dart_in map.lists i) (slice_index row i)

-- A row has the labels of all darts, in their order, in one edge labelling. The outer face, which is that of the dart from vertex 0 to the first of its list, goes along the left vertex, the top, the right one and the bottom.
pub record IsLabelledThere (lists : Lists) (row : List ℕ) : Type 0 where
  pub end : ℕ → ℕ → End
  pub labelling : IsEdgeLabelling lists 0 (top_vertex lists) (right_vertex lists) (bottom_vertex lists) end
  pub count : length row ≡ dart_count lists
  pub each : (i : ℕ) → i < dart_count lists → (label : Label) × IsLabelOf 0 (top_vertex lists) (right_vertex lists) (bottom_vertex lists) end (dart_in lists i).0 (dart_in lists i).1 label × (slice_index row i ≡ label_number label)

-- a map, and room for a label of each entry of its neighbours
pub record IsGivenLabels (ends neighbours row : List ℕ) : Type 0 where
  pub map : IsGivenMap ends neighbours
  pub room : length row ≡ dart_count (lists_in ends neighbours)

-- The map is served, and the array has a labelling of it; or the call failed, and it is as it was.
abbrev pub AreLabelsWritten : List ℕ → List ℕ → List ℕ → List ℕ → Outcome → Type 0
AreLabelsWritten ends neighbours row row' Served =
    IsGivenLabels ends neighbours row × IsRectMap (lists_in ends neighbours) × IsLabelledThere (lists_in ends neighbours) row'
AreLabelsWritten ends neighbours row row' (Failed failure) =
    Fails (IsGivenLabels ends neighbours row) (BreaksRect (lists_in ends neighbours)) failure × (row' ≡ row)
AreLabelsWritten ends neighbours row row' outcome = ⊥

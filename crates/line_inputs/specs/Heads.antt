-- What the first line of a figure says.
use Rattle.std.specs.Prelude.{ℕ, List}
use Rattle.figure_text.specs.declared.line_shapes.Kind.{Kind}
use Rattle.figure_text.specs.declared.line_shapes.Kind.TheVariants.{Grid as GridKind, Bars as BarKind, Rects as RectKind, Witness as WitnessKind}
use Rattle.figure_text.specs.Front.{IsGraphOf}
use Rattle.line_inputs.specs.declared.figure_lines.first_line.Head.{Head}
use Rattle.line_inputs.specs.declared.figure_lines.first_line.Head.TheVariants.{Grid, Bars, Rects, Witness}

-- the kind of the figure
abbrev pub head_kind : Head → Kind
head_kind (Grid job) = GridKind job
head_kind Bars = BarKind
head_kind Rects = RectKind
head_kind (Witness kind graph) = WitnessKind kind

-- the graph of a witness is that of the line
abbrev pub HasGraph : Head → List ℕ → Type 0
HasGraph (Grid job) line = Unit {0}
HasGraph Bars line = Unit {0}
HasGraph Rects line = Unit {0}
HasGraph (Witness kind graph) line = IsGraphOf line graph

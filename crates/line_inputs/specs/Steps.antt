-- What a closed line does, in the words of the code's own enums.
use Rattle.std.specs.Prelude.{ℕ, ◌<◌, ◌≤◌, ◌≡◌, [], length, Some, None}
use Rattle.figure_text.specs.declared.figure.Figure.{Figure}
use Rattle.figure_text.specs.declared.figure.Figure.TheVariants.{Grid as GridFigure, Rects as RectsFigure, Witness as WitnessFigure}
use Rattle.figure_text.specs.Figures.{witness_of}
use Rattle.line_inputs.specs.declared.figure_lines.first_line.Head.{Head}
use Rattle.line_inputs.specs.declared.figure_lines.first_line.Head.TheVariants.{Grid, Bars, Rects, Witness}
use Rattle.figure_text.specs.declared.vertex_lines.Draft.{Draft}
use Rattle.line_inputs.specs.declared.figure_lines.begun_figure.Due.{Due}
use Rattle.line_inputs.specs.declared.figure_lines.begun_figure.Due.TheVariants.{Row, Columns}
use Rattle.line_inputs.specs.declared.figure_lines.closed_line.After.{After}
use Rattle.line_inputs.specs.declared.figure_lines.closed_line.After.TheVariants.{Goes, Whole, Bad}

-- no line of a vertex has come
abbrev pub no_lines : Draft
no_lines = record { lists = []; points = []; y = []; x1 = []; x2 = []; y2 = [] }

-- which line is due behind those that gave a draft
abbrev pub GoesOn : Head → ℕ → Draft → Due → Type 0
GoesOn head n draft (Row rows) = (length draft.lists < n) × (rows.held.head ≡ head) × (rows.held.n ≡ n) × (rows.held.draft ≡ draft)
GoesOn head n draft (Columns bars) = (n ≤ length draft.lists) × (head ≡ Bars) × (bars.draft ≡ draft)

-- a straight-line drawing or a rectangular dual is whole with the line of its last vertex, and a witness with that of its last path
abbrev pub IsMadeOf : Head → Draft → Figure → Type 0
IsMadeOf (Grid job) draft fig = fig ≡ GridFigure job draft.lists draft.points
IsMadeOf Bars draft fig = ⊥
IsMadeOf Rects draft fig = fig ≡ RectsFigure draft.lists (record { x1 = draft.x1; x2 = draft.x2; y1 = draft.y; y2 = draft.y2 })
IsMadeOf (Witness kind graph) draft fig = fig ≡ WitnessFigure graph (witness_of kind draft.lists)

-- a figure with this draft goes on where it has fewer lines than are due or is one of bars, and is whole otherwise
abbrev pub IsGrown : Head → ℕ → ℕ → Draft → After → Type 0
IsGrown head n first draft (Goes (Some begun)) = (begun.first ≡ first) × GoesOn head n draft begun.due
IsGrown head n first draft (Goes None) = ⊥
IsGrown head n first draft (Whole fig) = (n ≤ length draft.lists) × IsMadeOf head draft fig
IsGrown head n first draft (Bad ending) = ⊥

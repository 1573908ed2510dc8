-- The form in which a job that draws writes: figures as text, or as SVG with all other lines as comments.
use Rattle.std.specs.Prelude.{ℕ, ◌-◌, List, [], ◌∷◌, ◌++◌, length, take, codes}
use Rattle.map_lists.specs.Lists.{Lists}
use Rattle.pg_plane.specs.declared.grid_points.Point.{Point}
use Rattle.pg_plane.specs.declared.figures.BarFigure.{BarFigure}
use Rattle.pg_plane.specs.declared.figures.RectFigure.{RectFigure}
use Rattle.figure_text.specs.Text.{grid_text, bars_text, rects_text}
use Rattle.figure_text.specs.declared.figure.GridJob.{GridJob}
use Rattle.svg_out.specs.Svg.{grid_svg, bars_svg, rects_svg}
use Rattle.pigale_words.specs.declared.output_form.Form.{Form}
use Rattle.pigale_words.specs.declared.output_form.Form.TheVariants.{Text, Svg}

-- a closed line as a comment, which is closed too
unfoldable pub commented : List ℕ → List ℕ
commented line = codes "<!-- " ++ take (length line - 1) line ++ codes " -->" ++ 10 ∷ []

-- a line that belongs to no figure
abbrev pub line_in : Form → List ℕ → List ℕ
line_in Text line = line
line_in Svg line = commented line

-- figure k, a straight-line drawing
abbrev pub grid_in : Form → ℕ → GridJob → Lists → List Point → List ℕ
grid_in Text k job lists points = grid_text k job lists points
grid_in Svg k job lists points = grid_svg lists points

-- figure k, a visibility drawing
abbrev pub bars_in : Form → ℕ → Lists → BarFigure → List ℕ
bars_in Text k lists bars = bars_text k lists bars
bars_in Svg k lists bars = bars_svg lists bars

-- figure k, a rectangular dual
abbrev pub rects_in : Form → ℕ → Lists → RectFigure → List ℕ
rects_in Text k lists rects = rects_text k lists rects
rects_in Svg k lists rects = rects_svg lists rects

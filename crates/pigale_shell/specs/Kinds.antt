-- The jobs by what they read, and what each job over maps says of them.
use Rattle.std.specs.Prelude.{ℕ, ◌<◌, ◌≤◌, ◌≡◌, List, Option, Some, None, option_map}
use Rattle.map_theory.specs.Maps.{IsPlane}
use Rattle.simple_maps.specs.Faults.{first_fault}
use Rattle.pg_plane.specs.declared.figures.GridFigure.{GridFigure}
use Rattle.pg_plane.specs.declared.figures.BarFigure.{BarFigure}
use Rattle.pg_plane.specs.declared.figures.RectFigure.{RectFigure}
use Rattle.refusals.specs.Conditions.{fault_refusal, first_refusal}
use Rattle.conn_parts.specs.BiconnectedMaps.{IsBiconnectedMap, BreaksFirst}
use Rattle.convex_peeling.specs.Polyhedral.{IsThreeConnected}
use Rattle.convex_class.specs.Convexity.{BreaksConvex}
use Rattle.rect_class.specs.RectMaps.{IsRectMap}
use Rattle.rect_class.specs.Refusals.{BreaksRect}
use Rattle.grid_figures.specs.ShiftFiguresFigures.{IsShiftFigure}
use Rattle.grid_figures.specs.SchnyderFiguresFigures.{IsSchnyderFigure}
use Rattle.visibility.specs.Figures.{IsBarFigure}
use Rattle.convex_draw.specs.Figures.{IsConvexFigure}
use Rattle.rect_dual.specs.Figures.{IsRectFigure}
use Rattle.figure_text.specs.declared.figure.GridJob.TheVariants as grid
use Rattle.pigale_words.specs.Words.{job_of}
use Rattle.pigale_words.specs.declared.output_form.Form.TheVariants.{Text}
use Rattle.pigale_words.specs.declared.job.Job.{Job}
use Rattle.pigale_words.specs.declared.job.Job.TheVariants as job
use Rattle.pigale_shell.specs.Blocks.{IsPrinted, Says}
use Rattle.pigale_shell.specs.Forms.{grid_in, bars_in, rects_in}
use Rattle.pigale_shell.specs.Text.{count_line}
use Rattle.pigale_shell.specs.declared.map_jobs.MapJob.{MapJob}
use Rattle.pigale_shell.specs.declared.map_jobs.MapJob.TheVariants as maps
use Rattle.pigale_shell.specs.declared.job_kinds.JobKind.{JobKind}
use Rattle.pigale_shell.specs.declared.job_kinds.JobKind.TheVariants.{Maps, Graphs, Figures, Made}

abbrev pub kind_of : Job → JobKind
kind_of job.Count = Maps maps.Count Text
kind_of (job.Shift form) = Maps maps.Shift form
kind_of (job.Schnyder form) = Maps maps.Schnyder form
kind_of (job.Bars form) = Maps maps.Bars form
kind_of (job.Convex form) = Maps maps.Convex form
kind_of (job.Rect form) = Maps maps.Rect form
kind_of (job.Gen size number) = Made size number
kind_of job.Verify = Figures
kind_of (job.Embed form) = Graphs form

-- the lists that a job over maps serves, the first condition that others break, and figure k, or the line of record k
abbrev pub says_of : MapJob → Says
says_of maps.Count = record {
  Serves = λ lists. first_fault lists ≡ None;
  Breaks = λ lists refusal. fault_refusal lists ≡ Some refusal;
  IsText = λ form k lists text. text ≡ count_line k lists;
}
says_of maps.Shift = record {
  Serves = λ lists. first_refusal 3 lists ≡ None;
  Breaks = λ lists refusal. first_refusal 3 lists ≡ Some refusal;
  IsText = λ form k lists text. IsPrinted GridFigure (IsShiftFigure lists) (λ figure. grid_in form k grid.Shift lists figure.points) text;
}
says_of maps.Schnyder = record {
  Serves = λ lists. first_refusal 3 lists ≡ None;
  Breaks = λ lists refusal. first_refusal 3 lists ≡ Some refusal;
  IsText = λ form k lists text. IsPrinted GridFigure (IsSchnyderFigure lists) (λ figure. grid_in form k grid.Schnyder lists figure.points) text;
}
says_of maps.Bars = record {
  Serves = IsBiconnectedMap 3;
  Breaks = BreaksFirst 3;
  IsText = λ form k lists text. IsPrinted BarFigure (IsBarFigure lists) (bars_in form k lists) text;
}
says_of maps.Convex = record {
  Serves = λ lists. IsPlane lists × IsThreeConnected lists;
  Breaks = BreaksConvex;
  IsText = λ form k lists text. IsPrinted GridFigure (IsConvexFigure lists) (λ figure. grid_in form k grid.Convex lists figure.points) text;
}
says_of maps.Rect = record {
  Serves = IsRectMap;
  Breaks = BreaksRect;
  IsText = λ form k lists text. IsPrinted RectFigure (IsRectFigure lists) (rects_in form k lists) text;
}

-- the kind of the job that the words name
abbrev pub kind_named : List (List ℕ) → Option JobKind
kind_named words = option_map kind_of (job_of words)

-- a map that the job makes has from 3 to 4095 vertices
abbrev pub IsSized : JobKind → Type 0
IsSized (Made size number) = (3 ≤ size) × (size < 4096)
IsSized kind = Unit {0}

-- What each kind of job reads, and what it writes.
use Rattle.std.specs.Prelude.{ℕ, Bool, true, false, if◌then◌else◌, List, [], Option, Some}
use Rattle.map_lists.specs.Lists.{Lists}
use Rattle.record_runs.specs.Texts.{Reads, Answers}
use Rattle.figure_text.specs.declared.figure.Figure.{Figure}
use Rattle.line_inputs.specs.declared.figure_lines.ending.Ending.{Ending as FigureEnding}
use Rattle.line_inputs.specs.FigureLinesFormat.{figures}
use Rattle.graphs.specs.Graphs.{EdgeGraph}
use Rattle.line_inputs.specs.declared.graph_lines.ending.Ending.{Ending as GraphEnding}
use Rattle.line_inputs.specs.GraphLinesFormat.{graph_lines}
use Rattle.pigale_shell.specs.Answer.{planar_answers}
use Rattle.pigale_shell.specs.Kinds.{says_of}
use Rattle.pigale_shell.specs.PlanarCode.{planar_code}
use Rattle.pigale_shell.specs.EmbedText.{embed_answers}
use Rattle.pigale_shell.specs.Made.{made, made_answers}
use Rattle.pigale_shell.specs.Verify.{verify_answers}
use Rattle.pigale_shell.specs.declared.output_lines.Ending.{Ending}
use Rattle.pigale_shell.specs.declared.job_kinds.JobKind.{JobKind}
use Rattle.pigale_shell.specs.declared.job_kinds.JobKind.TheVariants.{Maps, Graphs, Figures, Made}

-- it reads an input; a job that reads none has the empty input, and leaves the source alone
abbrev pub reads_input : JobKind → Bool
reads_input (Made size number) = false
reads_input job = true

-- what is left of its input, by what is left in the source
abbrev pub left_of : JobKind → Option (List ℕ) → Option (List ℕ)
left_of job left = if reads_input job then left else Some []

-- a record of its input
abbrev pub RecordOf : JobKind → Type 0
RecordOf (Maps job form) = Lists
RecordOf (Graphs form) = EdgeGraph
RecordOf Figures = Figure
RecordOf (Made size number) = Lists

-- how its input ends
abbrev pub EndingOf : JobKind → Type 0
EndingOf (Maps job form) = Ending
EndingOf (Graphs form) = GraphEnding
EndingOf Figures = FigureEnding
EndingOf (Made size number) = Unit {0}

-- how its input is read
abbrev pub reads_of : (job : JobKind) → Reads (RecordOf job) (EndingOf job)
reads_of (Maps job form) = planar_code
reads_of (Graphs form) = graph_lines
reads_of Figures = figures
reads_of (Made size number) = made size number

-- its answers, and the last line
abbrev pub answers_of : (job : JobKind) → Answers (RecordOf job) (EndingOf job)
answers_of (Maps job form) = planar_answers (says_of job) form
answers_of (Graphs form) = embed_answers form
answers_of Figures = verify_answers
answers_of (Made size number) = made_answers

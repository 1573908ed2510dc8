-- A run over a part of an input.
use Rattle.std.specs.Prelude.{ℕ, ◌≡◌, ◌⊎◌, Bool, true, false, Option, Some}
use Rattle.record_runs.specs.Texts.{Answers}
use Rattle.record_runs.specs.Outcome.{Ports, Outcome as RunOutcome, Counts}
use Rattle.record_runs.specs.Parts.{part_answers}
use Rattle.record_runs.specs.declared.main_loop.RunEnd.{RunEnd}
use Rattle.record_runs.specs.declared.part_job.Part.{Part}
use Rattle.line_inputs.specs.FigureLinesFormat as figure
use Rattle.line_inputs.specs.GraphLinesFormat as graph
use Rattle.pigale_shell.specs.PlanarCode as planar
use Rattle.pigale_words.specs.declared.job.Status.TheVariants.{BadWords, NoMemory}
use Rattle.pigale_shell.specs.JobInput.{RecordOf, EndingOf, reads_input, reads_of, answers_of}
use Rattle.pigale_shell.specs.Outcome.{status_of}
use Rattle.pigale_shell.specs.declared.part_runs.PartEnd.{PartEnd}
use Rattle.pigale_shell.specs.declared.job_kinds.JobKind.{JobKind}
use Rattle.pigale_shell.specs.declared.job_kinds.JobKind.TheVariants.{Maps, Graphs, Figures, Made}

-- whether an ending of its input is the good one
abbrev pub ended_well_of : (job : JobKind) → EndingOf job → Bool
ended_well_of (Maps job form) = planar.ended_well
ended_well_of (Graphs form) = graph.ended_well
ended_well_of Figures = figure.ended_well
ended_well_of (Made size number) = λ ending. true

-- an ending as it is in a longer input, with so many bytes or lines before this one
abbrev pub ending_behind_of : (job : JobKind) → ℕ → EndingOf job → EndingOf job
ending_behind_of (Maps job form) = planar.ending_behind
ending_behind_of (Graphs form) = graph.ending_behind
ending_behind_of Figures = figure.ending_behind
ending_behind_of (Made size number) = λ before ending. ending

-- what the job writes of a part of an input
abbrev pub answers_in : (job : JobKind) → Part → Answers (RecordOf job) (EndingOf job)
answers_in job part = part_answers (ended_well_of job) (ending_behind_of job) (answers_of job) part

-- what holds of a run over a part when it has ended: what was taken and written, and how many records were counted and refused
abbrev pub PartOutcome : JobKind → Part → Ports → Ports → RunEnd → ℕ → ℕ → Type 0
PartOutcome job part before after end records refused =
    RunOutcome (reads_of job) (answers_in job part) before after end
    × Counts (reads_of job) (answers_in job part) before.left records refused end

-- the words name no job that reads an input
abbrev pub NamesNoReader : Option JobKind → Type 0
NamesNoReader named = (job : JobKind) → named ≡ Some job → reads_input job ≡ false

-- The words name a job that reads an input, and its run over the part ended with this status; or they name none, or memory
-- was wanting before it began, and then nothing was taken or written.
abbrev pub IsPartRun : Option JobKind → Part → Ports → Ports → PartEnd → Type 0
IsPartRun named part before after result =
    ((job : JobKind) × (end : RunEnd) × (named ≡ Some job) × (reads_input job ≡ true) × (result.status ≡ status_of end)
    × PartOutcome job part before after end result.records result.refused)
    ⊎ ((after ≡ before) × (((result.status ≡ BadWords) × NamesNoReader named) ⊎ (result.status ≡ NoMemory)))

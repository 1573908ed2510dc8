-- What was taken and written when a run ended with a status.
use Rattle.std.specs.Prelude.{ℕ, ◌≡◌, List, Option, Some, None}
use Rattle.record_runs.specs.Outcome.{Writes as RunWrites, WritesPart as RunWritesPart, WritesTaken as RunWritesTaken, Ports, Outcome as RunOutcome}
use Rattle.record_runs.specs.declared.main_loop.RunEnd.{RunEnd}
use Rattle.record_runs.specs.declared.main_loop.RunEnd.TheVariants as ended
use Rattle.pigale_shell.specs.Text.{bad_words_line}
use Rattle.pg_io.specs.Io.{WhereTold, GrowsByPrefix}
use Rattle.pigale_shell.specs.JobInput.{EndingOf, reads_of, answers_of, left_of}
use Rattle.pigale_shell.specs.declared.job_kinds.JobKind.{JobKind}
use Rattle.pigale_words.specs.declared.job.Status.{Status}
use Rattle.pigale_words.specs.declared.job.Status.TheVariants.{Done, SomeRefused, BadWords, BadInput, ReadFault, WriteFault, NoMemory}

-- The input has this ending, the job refuses this many of its records, and the sink grew by the whole text:
-- one block for each record, in order, and the last line.
abbrev pub Writes : (job : JobKind) → List ℕ → EndingOf job → ℕ → Option (List ℕ) → Option (List ℕ) → Type 0
Writes job input ending refused written written' = RunWrites (reads_of job) (answers_of job) input ending refused written written'

-- the sink grew by some first bytes of the text
abbrev pub WritesPart : JobKind → List ℕ → Option (List ℕ) → Option (List ℕ) → Type 0
WritesPart job input written written' = RunWritesPart (reads_of job) (answers_of job) input written written'

-- the sink grew by some first bytes of the text that the words ask for: of the job's, or of the line for bad words
abbrev pub GrowsByText : Option JobKind → Option (List ℕ) → Option (List ℕ) → Option (List ℕ) → Type 0
GrowsByText None left written written' = GrowsByPrefix written written' bad_words_line
GrowsByText (Some job) left written written' = WhereTold (left_of job left) (λ input. WritesPart job input written written')

-- the sink grew by the blocks of just those records that end within the bytes taken from the source
abbrev pub WritesTaken : JobKind → List ℕ → Option (List ℕ) → Option (List ℕ) → Option (List ℕ) → Type 0
WritesTaken job input left' written written' = RunWritesTaken (reads_of job) (answers_of job) input left' written written'

-- what holds of a run of the job that ended with a status
abbrev pub Outcome : JobKind → Ports → Ports → Status → Type 0
Outcome job before after Done = RunOutcome (reads_of job) (answers_of job) before after ended.Done
Outcome job before after SomeRefused = RunOutcome (reads_of job) (answers_of job) before after ended.SomeRefused
Outcome job before after BadWords = ⊥
Outcome job before after BadInput = RunOutcome (reads_of job) (answers_of job) before after ended.BadInput
Outcome job before after ReadFault = RunOutcome (reads_of job) (answers_of job) before after ended.ReadFault
Outcome job before after WriteFault = RunOutcome (reads_of job) (answers_of job) before after ended.WriteFault
Outcome job before after NoMemory = RunOutcome (reads_of job) (answers_of job) before after ended.NoMemory

-- the status of a run that ended thus
abbrev pub status_of : RunEnd → Status
status_of ended.Done = Done
status_of ended.SomeRefused = SomeRefused
status_of ended.BadInput = BadInput
status_of ended.ReadFault = ReadFault
status_of ended.WriteFault = WriteFault
status_of ended.NoMemory = NoMemory

-- the statuses that a run over an input with this ending may have, where nothing failed
abbrev pub MayEnd : (job : JobKind) → EndingOf job → Status → Type 0
MayEnd job ending Done = ending ≡ (reads_of job).well
MayEnd job ending SomeRefused = ending ≡ (reads_of job).well
MayEnd job ending BadInput = (reads_of job).IsBad ending
MayEnd job ending NoMemory = Unit {0}
MayEnd job ending status = ⊥

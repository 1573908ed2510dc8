-- How a run of the top call ends.
use Rattle.std.proofs.Common.{◌≡◌, ℕ, List, [], refl, sym, ap, ◌∙◌, inl, arith, Option, Some, None}
use Rattle.planar_code.specs.Reading.{Ending as SpokenEnding, well, end_in_record, bad_count, too_long}
use Rattle.planar_code.specs.State.{at_front}
use Rattle.planar_code.proofs.ProgressLemmas.{Progress-start, Progress-begins}
use Rattle.planar_code.proofs.ReadingLemmas.{reading-unique}
use Rattle.line_inputs.proofs.FigureLinesUniqueLemmas.{reading-unique as figures-unique}
use Rattle.line_inputs.proofs.FigureLinesReadLemmas.{begins-none}
use Rattle.line_inputs.proofs.GraphLinesUniqueLemmas.{reading-unique as graphs-unique}
use Rattle.line_inputs.proofs.GraphLinesReadLemmas.{begins-none as begins-no-graphs}
use Rattle.pg_io.specs.Io.{HasRisen}
use Rattle.pg_io.proofs.Growth.{GrowsByPrefix-none}
use Rattle.record_runs.specs.Outcome.{Ports, ports, Outcome as RunOutcome}
use Rattle.record_runs.specs.declared.main_loop.RunEnd.{RunEnd}
use Rattle.record_runs.specs.declared.main_loop.RunEnd.TheVariants as ended
use Rattle.pigale_shell.specs.Text.{bad_words_line}
use Rattle.pigale_shell.specs.Lines.{ending_of}
use Rattle.pigale_shell.specs.declared.output_lines.Ending.{Ending}
use Rattle.pigale_shell.specs.declared.output_lines.Ending.TheVariants.{Well, EndInRecord, BadCount, TooLong}
use Rattle.pigale_shell.specs.Answer.{planar_answers}
use Rattle.pigale_shell.specs.Kinds.{says_of}
use Rattle.pigale_shell.specs.PlanarCode.{planar_code}
use Rattle.pigale_shell.specs.declared.map_jobs.MapJob.{MapJob}
use Rattle.pigale_words.specs.declared.output_form.Form.{Form}
use Rattle.pigale_shell.specs.JobInput.{RecordOf, EndingOf, reads_of, answers_of, left_of}
use Rattle.pigale_shell.specs.Outcome.{Outcome, GrowsByText, MayEnd, status_of}
use Rattle.pigale_shell.specs.Parts.{PartOutcome}
use Rattle.record_runs.specs.declared.part_job.Part.{Part}
use Rattle.pigale_shell.specs.declared.job_kinds.JobKind.{JobKind}
use Rattle.pigale_shell.specs.declared.job_kinds.JobKind.TheVariants.{Maps, Graphs, Figures, Made}
use Rattle.pigale_words.specs.declared.job.Status.{Status}
use Rattle.pigale_words.specs.declared.job.Status.TheVariants.{Done, SomeRefused, BadWords, BadInput, ReadFault, WriteFault, NoMemory}

-- an ending of a reading, as the code has it
told : SpokenEnding → Ending
told well = Well
told (end_in_record at) = EndInRecord at
told (bad_count at) = BadCount at
told too_long = TooLong

told-ending_of : (ending : Ending) → told (ending_of ending) ≡ ending
unfolding told
told-ending_of Well = refl
told-ending_of (EndInRecord at) = refl
told-ending_of (BadCount at) = refl
told-ending_of TooLong = refl

-- each input of a job is read in one way
pub one_ending : (job : JobKind) (input : List ℕ) (records records' : List (RecordOf job)) (ending ending' : EndingOf job) → (reads_of job).IsReading input records ending → (reads_of job).IsReading input records' ending' → ending ≡ ending'
one_ending (Maps job form) input records records' ending ending' reading reading' =
    sym (told-ending_of ending) ∙ ap told (reading-unique input records records' (ending_of ending) (ending_of ending') reading reading').1 ∙ told-ending_of ending'
one_ending (Graphs form) input records records' ending ending' reading reading' = (graphs-unique input records records' ending ending' reading reading').1
one_ending Figures input records records' ending ending' reading reading' = (figures-unique input records records' ending ending' reading reading').1
one_ending (Made size number) input records records' ending ending' reading reading' = refl

pub one_records : (job : JobKind) (input : List ℕ) (records records' : List (RecordOf job)) (ending ending' : EndingOf job) → (reads_of job).IsReading input records ending → (reads_of job).IsReading input records' ending' → records ≡ records'
one_records (Maps job form) input records records' ending ending' reading reading' = (reading-unique input records records' (ending_of ending) (ending_of ending') reading reading').0
one_records (Graphs form) input records records' ending ending' reading reading' = (graphs-unique input records records' ending ending' reading reading').0
one_records Figures input records records' ending ending' reading reading' = (figures-unique input records records' ending ending' reading reading').0
one_records (Made size number) input records records' ending ending' reading reading' = reading ∙ sym reading'

-- each input begins with no records
begins_none : (job : JobKind) (input : List ℕ) → (reads_of job).BeginsWith input []
begins_none (Maps job form) input = Progress-begins [] [] at_front input Progress-start (omega arith)
begins_none (Graphs form) input = begins-no-graphs input
begins_none Figures input = begins-none input
begins_none (Made size number) input = inl refl

-- nothing was written: a part of any text
pub GrowsByText-none : (found : Option JobKind) (left o : Option (List ℕ)) → GrowsByText found left o o
GrowsByText-none None left o = GrowsByPrefix-none bad_words_line refl
GrowsByText-none (Some job) left o = λ input told. record {
  records = [];
  blocks = [];
  last = [];
  begins = begins_none job input;
  answers = refl;
  last_is = inl refl;
  grows = GrowsByPrefix-none [] refl;
}

-- a run over records, as the job has it
Outcome-of : (job : JobKind) (before after : Ports) (end : RunEnd) → RunOutcome (reads_of job) (answers_of job) before after end → Outcome job before after (status_of end)
Outcome-of job before after ended.Done outcome = outcome
Outcome-of job before after ended.SomeRefused outcome = outcome
Outcome-of job before after ended.BadInput outcome = outcome
Outcome-of job before after ended.ReadFault outcome = outcome
Outcome-of job before after ended.WriteFault outcome = outcome
Outcome-of job before after ended.NoMemory outcome = outcome

-- the same of a run whose job is told by an equation
pub Outcome-run : (job kind : JobKind) (left left' : Option (List ℕ)) (reads reads' writes writes' : ℕ) (written written' : Option (List ℕ)) (end : RunEnd) → job ≡ kind → RunOutcome (reads_of kind) (answers_of kind) (ports (left_of kind left) reads written writes) (ports (left_of kind left') reads' written' writes') end → Outcome job (ports (left_of job left) reads written writes) (ports (left_of job left') reads' written' writes') (status_of end)
Outcome-run job kind left left' reads reads' writes writes' written written' end is outcome = rw is (Outcome-of kind _ _ end outcome)

-- the same of a job over maps that is told so
pub Outcome-maps : (job : JobKind) (maps named : MapJob) (form : Form) (left left' : Option (List ℕ)) (reads reads' writes writes' : ℕ) (written written' : Option (List ℕ)) (end : RunEnd) → job ≡ Maps maps form → maps ≡ named → RunOutcome planar_code (planar_answers (says_of named) form) (ports left reads written writes) (ports left' reads' written' writes') end → Outcome job (ports (left_of job left) reads written writes) (ports (left_of job left') reads' written' writes') (status_of end)
Outcome-maps job maps named form left left' reads reads' writes writes' written written' end is same outcome =
    Outcome-run job (Maps named form) left left' reads reads' writes writes' written written' end (is ∙ ap (λ m. Maps m form) same) outcome

-- a run over a part, of a job that is told by an equation
pub PartOutcome-run : (job kind : JobKind) (part : Part) (before after : Ports) (end : RunEnd) (records refused : ℕ) → job ≡ kind → PartOutcome kind part before after end records refused → PartOutcome job part before after end records refused
PartOutcome-run job kind part before after end records refused is outcome = rw is outcome

-- the same of a job over maps that is told so
pub PartOutcome-maps : (job : JobKind) (maps named : MapJob) (form : Form) (part : Part) (before after : Ports) (end : RunEnd) (records refused : ℕ) → job ≡ Maps maps form → maps ≡ named → PartOutcome (Maps named form) part before after end records refused → PartOutcome job part before after end records refused
PartOutcome-maps job maps named form part before after end records refused is same outcome =
    PartOutcome-run job (Maps named form) part before after end records refused (is ∙ ap (λ m. Maps m form) same) outcome

-- where nothing failed the ending of the input decides the status
pub Outcome-complete : (job : JobKind) (before after : Ports) (status : Status) (input : List ℕ) (records : List (RecordOf job)) (ending : EndingOf job) → Outcome job before after status → before.left ≡ Some input → (reads_of job).IsReading input records ending → ¬ HasRisen before.read_faults after.read_faults → ¬ HasRisen before.write_faults after.write_faults → MayEnd job ending status
Outcome-complete job before after Done input records ending outcome told reading no_read no_write =
    one_ending job input records (outcome.1 input told).1.records ending (reads_of job).well reading (outcome.1 input told).1.reading
Outcome-complete job before after SomeRefused input records ending outcome told reading no_read no_write =
    one_ending job input records (outcome.1 input told).3.records ending (reads_of job).well reading (outcome.1 input told).3.reading
Outcome-complete job before after BadWords input records ending outcome told reading no_read no_write = absurd outcome
Outcome-complete job before after BadInput input records ending outcome told reading no_read no_write =
    let is = outcome.1 input told in
    rw (one_ending job input records is.3.records ending is.0 reading is.3.reading) is.1
Outcome-complete job before after ReadFault input records ending outcome told reading no_read no_write = absurd (no_read outcome.0)
Outcome-complete job before after WriteFault input records ending outcome told reading no_read no_write = absurd (no_write outcome.0)
Outcome-complete job before after NoMemory input records ending outcome told reading no_read no_write = tt

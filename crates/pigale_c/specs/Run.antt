-- What a run over an input in memory writes, by the status with which it ends: what `pigale` says of a source that has the input, and of a sink with nothing written.
use Rattle.std.specs.Prelude.{ℕ, ◌<◌, ◌≡◌, ◌≢◌, ◌⊎◌, List, [], length, Option, Some, None}
use Rattle.pg_io.specs.Io.{WhereTold, Grows}
use Rattle.pigale_shell.specs.Text.{bad_words_line}
use Rattle.pigale_shell.specs.JobInput.{RecordOf, EndingOf, reads_of, left_of}
use Rattle.pigale_shell.specs.Kinds.{kind_named}
use Rattle.pigale_shell.specs.Outcome.{Writes, GrowsByText, MayEnd}
use Rattle.pigale_shell.specs.declared.job_kinds.JobKind.{JobKind}
use Rattle.pigale_words.specs.Status.{status_number}
use Rattle.pigale_words.specs.declared.job.Status.{Status}
use Rattle.pigale_words.specs.declared.job.Status.TheVariants.{Done, SomeRefused, BadWords, BadInput, ReadFault, WriteFault, NoMemory}
use Rattle.pigale_c.specs.Words.{GivesWords}
use Rattle.pigale_c.specs.Written.{written_over}

-- the words name a job, and this holds of it and its input
abbrev pub OfJob : Option JobKind → List ℕ → (JobKind → List ℕ → Type 0) → Type 0
OfJob named input Holds = (job : JobKind) × (named ≡ Some job) × WhereTold (left_of job (Some input)) (Holds job)

-- The run of the job of some words over an input ended with this status, and this is its text.
pub record IsRun (named : Option JobKind) (input : List ℕ) (status : Status) (text : List ℕ) : Type 0 where
  -- the input ended well, and the text is a block for each record, in order, and the last line, which says that none was refused
  pub done : status ≡ Done → OfJob named input (λ job given. Writes job given (reads_of job).well 0 (Some []) (Some text))
  -- the same, and the last line says how many were refused
  pub some_refused : status ≡ SomeRefused → OfJob named input (λ job given. (refused : ℕ) × (0 < refused) × Writes job given (reads_of job).well refused (Some []) (Some text))
  -- the words name no job, and the text is the line that says so
  pub bad_words : status ≡ BadWords → (named ≡ None) × Grows (Some []) (Some text) bad_words_line
  -- words that name no job are never taken for one
  pub words_refused : named ≡ None → (status ≡ BadWords) ⊎ (status ≡ WriteFault) ⊎ (status ≡ NoMemory)
  -- the input has a bad ending, and the text is the blocks before it and the line that names just that ending
  pub bad_input : status ≡ BadInput → OfJob named input (λ job given. (ending : EndingOf job) × (reads_of job).IsBad ending × (refused : ℕ) × Writes job given ending refused (Some []) (Some text))
  -- no read fails
  pub no_read_fault : status ≢ ReadFault
  -- memory was wanting, for the text or for what it is made of, and the text is some first bytes of what was to be written
  pub write_fault : status ≡ WriteFault → GrowsByText named (Some input) (Some []) (Some text)
  pub no_memory : status ≡ NoMemory → GrowsByText named (Some input) (Some []) (Some text)
  -- the ending of the input decides the status, unless memory was wanting
  pub complete : (job : JobKind) (given : List ℕ) (records : List (RecordOf job)) (ending : EndingOf job) → named ≡ Some job → left_of job (Some input) ≡ Some given → (reads_of job).IsReading given records ending → status ≢ WriteFault → MayEnd job ending status

-- the words of a text were run over an input, or there was no memory for the words, and nothing was written
abbrev pub RunsText : List ℕ → List ℕ → Status → List ℕ → Type 0
RunsText words input status text =
    ((given : List (List ℕ)) × GivesWords words given × IsRun (kind_named given) input status text) ⊎ ((status ≡ NoMemory) × (text ≡ []))

-- What a call for words, an input and an array leaves: the number of a status, the length of the whole text, and of the text as much as the array has room for.
pub record RunsTo (words input old : List ℕ) (number text_length : ℕ) (new : List ℕ) : Type 0 where
  pub status : Status
  pub text : List ℕ
  pub run : RunsText words input status text
  pub number_is : number ≡ status_number status
  pub length_is : text_length ≡ length text
  pub new_is : new ≡ written_over old text

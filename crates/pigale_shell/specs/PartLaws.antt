-- The text of an input of any size from those of its parts.
use Rattle.std.specs.Prelude.{ℕ, ◌+◌, ◌≡◌, Bool, true, false, List, ◌++◌, length}
use Rattle.record_runs.specs.Parts.{IsText}
use Rattle.record_runs.specs.declared.part_job.Before.{Before}
use Rattle.record_runs.specs.declared.part_job.Part.{Part}
use Rattle.pigale_shell.specs.JobInput.{RecordOf, EndingOf, answers_of}
use Rattle.pigale_shell.specs.Parts.{answers_in, ended_well_of, ending_behind_of}
use Rattle.pigale_shell.specs.declared.job_kinds.JobKind.{JobKind}

abbrev pub part_of : Before → Bool → Part
part_of before goes_on = record { before = before; goes_on = goes_on }

-- the whole input as its only part
abbrev pub whole : Part
whole = part_of (record { records = 0; refused = 0; place = 0 }) false

-- what stands before a part that follows these records, of which these are refused, over so many bytes or lines
abbrev pub and_then : Before → ℕ → ℕ → ℕ → Before
and_then before records refused place =
    record { records = before.records + records; refused = before.refused + refused; place = before.place + place }

-- Two parts stand one behind the other, and the first ends well. Then their texts, one behind the other, are the text of both
-- as one part.
abbrev pub TextsJoin : Type 0
TextsJoin =
    (job : JobKind) (before : Before) (goes_on : Bool) (records records' : List (RecordOf job)) (ending ending' : EndingOf job) (refused refused' place : ℕ) (text text' : List ℕ) →
    ended_well_of job ending ≡ true →
    IsText (answers_in job (part_of before true)) records ending refused text →
    IsText (answers_in job (part_of (and_then before (length records) refused place) goes_on)) records' ending' refused' text' →
    IsText (answers_in job (part_of before goes_on)) (records ++ records') (ending_behind_of job place ending') (refused + refused') (text ++ text')

-- the text of an input that is its only part is the text of a run over it
abbrev pub WholeIsPart : Type 0
WholeIsPart =
    (job : JobKind) (records : List (RecordOf job)) (ending : EndingOf job) (refused : ℕ) (text : List ℕ) →
    IsText (answers_in job whole) records ending refused text → IsText (answers_of job) records ending refused text

-- What was taken and written when a run has ended.
use Rattle.std.specs.Prelude.{ℕ, ◌<◌, ◌≡◌, ◌⊎◌, List, [], ◌++◌, length, Option, Some}
use Rattle.pg_io.specs.Io.{WhereTold, Grows, GrowsByPrefix, HasRisen}
use Rattle.record_runs.specs.Texts.{Reads, Answers, AreBlocks, Refuses}
use Rattle.record_runs.specs.declared.main_loop.RunEnd.{RunEnd}
use Rattle.record_runs.specs.declared.main_loop.RunEnd.TheVariants.{Done, SomeRefused, BadInput, ReadFault, WriteFault, NoMemory}

-- The input has this ending, the job refuses this many of its records, and the sink grew by the whole text:
-- one block for each record, in order, and the last line.
pub record Writes {Record Ending : Type 0} (format : Reads Record Ending) (job : Answers Record Ending) (input : List ℕ) (ending : Ending) (refused : ℕ) (written written' : Option (List ℕ)) : Type 0 where
  pub records : List Record
  pub blocks : List ℕ
  pub reading : format.IsReading input records ending
  pub answers : AreBlocks job.IsBlock 1 records blocks
  pub counted : Refuses job records refused
  pub grows : Grows written written' (blocks ++ job.last_line (length records) refused ending)

-- the last line of an input that has just these records, or none
abbrev pub IsLastOrNone : {Record Ending : Type 0} → Reads Record Ending → Answers Record Ending → List ℕ → List Record → List ℕ → Type 0
IsLastOrNone {Ending = Ending} format job input records last =
    (last ≡ []) ⊎ ((ending : Ending) × (refused : ℕ) × format.IsReading input records ending × Refuses job records refused
    × (last ≡ job.last_line (length records) refused ending))

-- the sink grew by some first bytes of the text
pub record WritesPart {Record Ending : Type 0} (format : Reads Record Ending) (job : Answers Record Ending) (input : List ℕ) (written written' : Option (List ℕ)) : Type 0 where
  pub records : List Record
  pub blocks : List ℕ
  pub last : List ℕ
  pub begins : format.BeginsWith input records
  pub answers : AreBlocks job.IsBlock 1 records blocks
  pub last_is : IsLastOrNone format job input records last
  pub grows : GrowsByPrefix written written' (blocks ++ last)

-- the sink grew by the blocks of just those records that end within the bytes taken from the source
pub record WritesTaken {Record Ending : Type 0} (format : Reads Record Ending) (job : Answers Record Ending) (input : List ℕ) (left' written written' : Option (List ℕ)) : Type 0 where
  pub taken : List ℕ
  pub rest : List ℕ
  pub parts : input ≡ taken ++ rest
  pub left_is : left' ≡ Some rest
  pub records : List Record
  pub ending : Ending
  pub blocks : List ℕ
  pub reading : format.IsReading taken records ending
  pub answers : AreBlocks job.IsBlock 1 records blocks
  pub grows : Grows written written' blocks

-- what a source and a sink tell at one moment, and how often each has failed
pub record Ports : Type 0 where
  pub left : Option (List ℕ)
  pub read_faults : ℕ
  pub written : Option (List ℕ)
  pub write_faults : ℕ

abbrev pub ports : Option (List ℕ) → ℕ → Option (List ℕ) → ℕ → Ports
ports left reads written writes = record { left = left; read_faults = reads; written = written; write_faults = writes }

-- neither count of faults has changed
abbrev pub NoneFailed : Ports → Ports → Type 0
NoneFailed before after = (after.read_faults ≡ before.read_faults) × (after.write_faults ≡ before.write_faults)

-- What holds of a run that has ended, where the source tells its input.
abbrev pub Outcome : {Record Ending : Type 0} → Reads Record Ending → Answers Record Ending → Ports → Ports → RunEnd → Type 0
Outcome format job before after Done =
    NoneFailed before after × WhereTold before.left (λ input. (after.left ≡ Some [])
    × Writes format job input format.well 0 before.written after.written)
Outcome format job before after SomeRefused =
    NoneFailed before after × WhereTold before.left (λ input. (after.left ≡ Some [])
    × (refused : ℕ) × (0 < refused) × Writes format job input format.well refused before.written after.written)
Outcome {Ending = Ending} format job before after BadInput =
    NoneFailed before after × WhereTold before.left (λ input. (ending : Ending) × format.IsBad ending
    × (refused : ℕ) × Writes format job input ending refused before.written after.written)
Outcome format job before after ReadFault =
    HasRisen before.read_faults after.read_faults × (after.write_faults ≡ before.write_faults)
    × WhereTold before.left (λ input. WritesTaken format job input after.left before.written after.written)
Outcome format job before after WriteFault =
    HasRisen before.write_faults after.write_faults × (after.read_faults ≡ before.read_faults)
    × WhereTold before.left (λ input. WritesPart format job input before.written after.written)
Outcome format job before after NoMemory =
    NoneFailed before after × WhereTold before.left (λ input. WritesPart format job input before.written after.written)

-- the input has this ending, so many records, and so many of them are refused
pub record IsCount {Record Ending : Type 0} (format : Reads Record Ending) (job : Answers Record Ending) (input : List ℕ) (count refused : ℕ) : Type 0 where
  pub records : List Record
  pub ending : Ending
  pub reading : format.IsReading input records ending
  pub count_is : count ≡ length records
  pub refuses : Refuses job records refused

-- What a run has counted, where it has found the ending of its input.
abbrev pub Counts : {Record Ending : Type 0} → Reads Record Ending → Answers Record Ending → Option (List ℕ) → ℕ → ℕ → RunEnd → Type 0
Counts format job left count refused Done = WhereTold left (λ input. IsCount format job input count refused)
Counts format job left count refused SomeRefused = WhereTold left (λ input. IsCount format job input count refused)
Counts format job left count refused BadInput = WhereTold left (λ input. IsCount format job input count refused)
Counts format job left count refused ReadFault = Unit {0}
Counts format job left count refused WriteFault = Unit {0}
Counts format job left count refused NoMemory = Unit {0}

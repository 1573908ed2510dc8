-- Where a run stands between two bytes of its input, and how it stops.
use Rattle.std.specs.Prelude.{ℕ, ◌+◌, ◌≤◌, ◌≡◌, ◌<◌, List, [], ◌∷◌, ◌++◌, length, take, Option, Some}
use Rattle.pg_io.specs.Io.{WhereTold, Takes, Grows, GrowsByPrefix, HasRisen}
use Rattle.record_runs.specs.Texts.{Reads, Answers, AreBlocks, Refuses, input_limit}
use Rattle.record_runs.specs.Outcome.{Ports}
use Rattle.record_runs.specs.declared.format.Taken.{Taken}
use Rattle.record_runs.specs.declared.format.Taken.TheVariants.{Goes, Ended, Bad as BadPlace}
use Rattle.record_runs.specs.declared.main_loop.Stop.{Stop}
use Rattle.record_runs.specs.declared.main_loop.Stop.TheVariants.{Bad, NoMemory}
use Rattle.record_runs.specs.declared.main_loop.RunEnd.{RunEnd}
use Rattle.record_runs.specs.declared.main_loop.RunEnd.TheVariants as ended
use Rattle.record_runs.specs.declared.main_loop.Failure.{Failure}
use Rattle.record_runs.specs.declared.main_loop.Failure.TheVariants as failure

-- how far a reader moved, and that a record which ended is one that jobs may be given
abbrev pub Moves : {Record End : Type 0} → (Record → Type 0) → ℕ → ℕ → Record → List ℕ → Taken End → Type 0
Moves IsGiven place place' lent piece (Goes k) = (0 < k) × (k ≤ length piece) × (place' ≡ place + k)
Moves IsGiven place place' lent piece (Ended k) = (0 < k) × (k ≤ length piece) × (place' ≡ place + k) × IsGiven lent
Moves IsGiven place place' lent piece (BadPlace end) = Unit {0}

-- What a reader makes of a piece of bytes, after those consumed and the records in them: k bytes were consumed and no
-- record has ended; one ended after k bytes; or the input, however it goes on, ends badly in the piece.
abbrev pub TakesPiece : {Record Ending Reader : Type 0} → Reads Record Ending → (Reader → List ℕ → List Record → Type 0) → List ℕ → List Record → Reader → Record → List ℕ → Taken Ending → Type 0
TakesPiece format At consumed records reader' lent piece (Goes k) = At reader' (consumed ++ take k piece) records
TakesPiece format At consumed records reader' lent piece (Ended k) = At reader' (consumed ++ take k piece) (records ++ lent ∷ [])
TakesPiece format At consumed records reader' lent piece (BadPlace end) =
    format.IsBad end × ((tail : List ℕ) → format.IsReading ((consumed ++ piece) ++ tail) records end)

-- the numbers of a run fit together, whatever its bytes were
pub record IsCounted (place records refused taken : ℕ) : Type 0 where
  pub placed : taken ≡ place
  pub within : taken ≤ input_limit
  pub few_records : records ≤ taken
  pub few_refused : refused ≤ records

-- the text answers the records, and the numbers are how many they are and how many of them the job refuses
pub record IsAnswered {Record Ending : Type 0} (job : Answers Record Ending) (records : List Record) (text : List ℕ) (count refused : ℕ) : Type 0 where
  pub answers : AreBlocks job.IsBlock 1 records text
  pub counted : count ≡ length records
  pub refuses : Refuses job records refused

-- The bytes consumed have been read, and the text answers each record that ended in them.
pub record IsAt {Record Ending Reader : Type 0} (At : Reader → List ℕ → List Record → Type 0) (job : Answers Record Ending) (consumed text : List ℕ) (reader : Reader) (count refused : ℕ) : Type 0 where
  pub records : List Record
  pub read : At reader consumed records
  pub answered : IsAnswered job records text count refused

-- the input ends thus, and the text answers just its records
pub record EndsAs {Record Ending : Type 0} (format : Reads Record Ending) (job : Answers Record Ending) (input : List ℕ) (ending : Ending) (text : List ℕ) (count refused : ℕ) : Type 0 where
  pub records : List Record
  pub reading : format.IsReading input records ending
  pub answered : IsAnswered job records text count refused

-- the text answers some first records of the input
pub record IsFront {Record Ending : Type 0} (format : Reads Record Ending) (job : Answers Record Ending) (input text : List ℕ) : Type 0 where
  pub records : List Record
  pub begins : format.BeginsWith input records
  pub answers : AreBlocks job.IsBlock 1 records text

-- Why a run stops within bytes: however the input goes on after them, it ends badly and the text answers its records;
-- or memory was wanting, and the text answers some first ones.
abbrev pub Stops : {Record Ending : Type 0} → Reads Record Ending → Answers Record Ending → List ℕ → List ℕ → ℕ → ℕ → Stop Ending → Type 0
Stops format job consumed text count refused (Bad end) =
    format.IsBad end × ((tail : List ℕ) → EndsAs format job (consumed ++ tail) end text count refused)
Stops format job consumed text count refused NoMemory = (tail : List ℕ) → IsFront format job (consumed ++ tail) text

-- since a run began at some ports no fault came, and the sink has grown by the text
pub record Wrote (start now : Ports) (text : List ℕ) : Type 0 where
  pub grows : Grows start.written now.written text
  pub reads : now.read_faults ≡ start.read_faults
  pub writes : now.write_faults ≡ start.write_faults

-- Between two steps of a run: of the bytes taken these are unread, the others are consumed, and the answers to their
-- records written.
pub record Stands {Record Ending Reader : Type 0} (At : Reader → List ℕ → List Record → Type 0) (job : Answers Record Ending) (start now : Ports) (unread : List ℕ) (reader : Reader) (count refused : ℕ) : Type 0 where
  pub consumed : List ℕ
  pub text : List ℕ
  pub takes : Takes start.left now.left (consumed ++ unread)
  pub wrote : Wrote start now text
  pub at : IsAt At job consumed text reader count refused

-- what a text that could not be written leaves
abbrev pub FailsAt : List ℕ → Option (List ℕ) → Option (List ℕ) → ℕ → ℕ → Failure → Type 0
FailsAt text written written' faults faults' failure.WriteFault = GrowsByPrefix written written' text × HasRisen faults faults'
FailsAt text written written' faults faults' failure.NoMemory = (written' ≡ written) × (faults' ≡ faults)

-- where the source told its bytes, all of them have been consumed
abbrev pub IsAllConsumed : Option (List ℕ) → Option (List ℕ) → List ℕ → Type 0
IsAllConsumed first left consumed = WhereTold first (λ input. (left ≡ Some []) × (input ≡ consumed))

abbrev pub end_of : Failure → RunEnd
end_of failure.WriteFault = ended.WriteFault
end_of failure.NoMemory = ended.NoMemory

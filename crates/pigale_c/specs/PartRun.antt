-- What a run over a part of an input in memory writes and counts.
use Rattle.std.specs.Prelude.{ℕ, ◌≡◌, ◌⊎◌, List, [], length, Option, Some}
use Rattle.record_runs.specs.declared.part_job.Part.{Part}
use Rattle.record_runs.specs.Outcome.{ports}
use Rattle.pigale_words.specs.Status.{status_number}
use Rattle.pigale_words.specs.declared.job.Status.TheVariants.{NoMemory}
use Rattle.pigale_shell.specs.Kinds.{kind_named}
use Rattle.pigale_shell.specs.Parts.{IsPartRun}
use Rattle.pigale_shell.specs.declared.part_runs.PartEnd.{PartEnd}
use Rattle.pigale_c.specs.Words.{GivesWords}
use Rattle.pigale_c.specs.Written.{written_over}

-- the words of a text were run over the part, and this text was written; or there was no memory for the words
abbrev pub RunsPart : List ℕ → List ℕ → Part → PartEnd → List ℕ → Type 0
RunsPart words input part result text =
    ((given : List (List ℕ)) × (left : Option (List ℕ)) × (faults : ℕ) × GivesWords words given
    × IsPartRun (kind_named given) part (ports (Some input) 0 (Some []) 0) (ports left 0 (Some text) faults) result)
    ⊎ ((result.status ≡ NoMemory) × (text ≡ []))

-- What a call for words, a part and an array leaves: the number of a status, what was counted, the length of the whole
-- text, and of the text as much as the array has room for.
pub record RunsPartTo (words input : List ℕ) (part : Part) (old : List ℕ) (number records refused text_length : ℕ) (new : List ℕ) : Type 0 where
  pub result : PartEnd
  pub text : List ℕ
  pub run : RunsPart words input part result text
  pub number_is : number ≡ status_number result.status
  pub records_is : records ≡ result.records
  pub refused_is : refused ≡ result.refused
  pub length_is : text_length ≡ length text
  pub new_is : new ≡ written_over old text

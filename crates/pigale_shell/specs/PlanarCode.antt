-- planar_code as a format of runs.
use Rattle.std.specs.Prelude.{ℕ, ◌+◌, ◌<◌, Bool, true, false, List, [], ◌∷◌, length}
use Rattle.map_lists.specs.Lists.{Lists}
use Rattle.record_runs.specs.Texts.{Reads}
use Rattle.planar_code.specs.Reading.{IsReading, BeginsWith}
use Rattle.planar_code.specs.State.{State}
use Rattle.pigale_shell.specs.Lines.{ending_of}
use Rattle.pigale_shell.specs.declared.output_lines.Ending.{Ending}
use Rattle.pigale_shell.specs.declared.output_lines.Ending.TheVariants.{Well, EndInRecord, BadCount, TooLong}

-- an input that does not end well
abbrev pub IsBad : Ending → Type 0
IsBad Well = ⊥
IsBad (EndInRecord at) = Unit {0}
IsBad (BadCount at) = Unit {0}
IsBad TooLong = Unit {0}

abbrev pub ended_well : Ending → Bool
ended_well Well = true
ended_well (EndInRecord at) = false
ended_well (BadCount at) = false
ended_well TooLong = false

-- an ending as it is in a longer input, with so many bytes before this one
abbrev pub ending_behind : ℕ → Ending → Ending
ending_behind bytes Well = Well
ending_behind bytes (EndInRecord at) = EndInRecord (bytes + at)
ending_behind bytes (BadCount at) = BadCount (bytes + at)
ending_behind bytes TooLong = TooLong

abbrev pub planar_code : Reads Lists Ending
planar_code = record {
  IsReading = λ input records ending. IsReading input records (ending_of ending);
  BeginsWith = BeginsWith;
  well = Well;
  IsBad = IsBad;
}

-- how many bytes a reader has consumed
abbrev pub place_of : State → ℕ
place_of reader = reader.start + length reader.pending

-- how the bytes consumed end if no more come, by those pending and where they begin
abbrev pub end_by : List ℕ → ℕ → Ending
end_by [] start = Well
end_by (b ∷ pending) start = EndInRecord start

abbrev pub end_here : State → Ending
end_here reader = end_by reader.pending reader.start

-- a record has from 1 to 4095 lists
pub record IsGiven (lists : Lists) : Type 0 where
  pub some_list : 0 < length lists
  pub few_lists : length lists < 4096

-- How the bytes that a reader has consumed end if no more come.
use Rattle.std.specs.Prelude.{ℕ, List, [], ◌∷◌}
use Rattle.planar_code.specs.Reading.{Ending, well, end_in_record}
use Rattle.planar_code.specs.State.{State}

-- by the bytes pending, and where they begin
abbrev pub ending_by : List ℕ → ℕ → Ending
ending_by [] start = well
ending_by (b ∷ pending) start = end_in_record start

abbrev pub ending_here : State → Ending
ending_here reader = ending_by reader.pending reader.start

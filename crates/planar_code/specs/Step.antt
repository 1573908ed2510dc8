-- What stands at a place of the bytes of a file.
use Rattle.std.specs.Prelude.{ℕ, ◌<◌, ◌≤◌, ◌≡◌, List, length, drop, slice_range, IsTrue, IsFalse}
use Rattle.planar_code.specs.Reading.{IsRecord, NoRecord, has_bad_count}
use Rattle.planar_code.specs.declared.whole_input.Step.{Step}
use Rattle.planar_code.specs.declared.whole_input.Step.TheVariants.{Lists, End}
use Rattle.planar_code.specs.declared.whole_input.CodeFault.{CodeFault}
use Rattle.planar_code.specs.declared.whole_input.CodeFault.TheVariants.{EndInRecord, BadCount, NoMemory}

-- a record that reaches to an offset, or the end of the bytes
abbrev pub StandsAt : List ℕ → ℕ → Step → Type 0
StandsAt bytes at (Lists lists end) = (at < end) × (end ≤ length bytes) × IsRecord (slice_range bytes at end) lists
StandsAt bytes at End = at ≡ length bytes

-- no record, for one of two causes; out of memory says nothing of the bytes
abbrev pub FailsAt : List ℕ → ℕ → CodeFault → Type 0
FailsAt bytes at (EndInRecord start) =
    (start ≡ at) × (at < length bytes) × IsFalse (has_bad_count (drop at bytes)) × NoRecord (drop at bytes)
FailsAt bytes at (BadCount start) = (start ≡ at) × IsTrue (has_bad_count (drop at bytes))
FailsAt bytes at NoMemory = Unit {0}

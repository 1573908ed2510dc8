-- A reader of records, as contracts see it.
use Rattle.std.specs.Prelude.{ℕ, ◌+◌, Bool, true, false, ◌&&◌, if◌then◌else◌, List, [], ◌∷◌, ◌++◌, length}
use Rattle.map_lists.specs.Lists.{Lists}
use Rattle.planar_code.specs.Reading.{is_header}

pub record State : Type 0 where
  -- the bytes of the record that has begun
  pub pending : List ℕ
  -- the offset of its first byte
  pub start : ℕ
  -- whether the header of a file may still come
  pub header_may_come : Bool
  -- the lists of the record that ended last, for whoever asks; none before one has, and none that were handed over
  pub lists : Lists

-- before the first byte
abbrev pub at_front : State
at_front = record { pending = []; start = 0; header_may_come = true; lists = [] }

-- the bytes pending once a byte has joined them
abbrev pub with_byte : State → ℕ → List ℕ
with_byte state byte = state.pending ++ byte ∷ []

-- The record goes on with these bytes; where they are the header that may come, it is passed over.
abbrev pub after_more : State → List ℕ → State
after_more state bytes =
    if state.header_may_come && is_header bytes
    then record state { pending = []; start = 15; header_may_come = false }
    else record state { pending = bytes }

-- a record of these bytes has ended, and these lists are lent
abbrev pub after_record : State → List ℕ → Lists → State
after_record state bytes lists =
    record { pending = []; start = state.start + length bytes; header_may_come = false; lists = lists }

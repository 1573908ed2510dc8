-- How far the bytes consumed so far have been read.
use Rattle.std.specs.Prelude.{ℕ, ◌+◌, ◌≡◌, Bool, true, false, List, [], ◌++◌, length, take, IsFalse}
use Rattle.map_lists.specs.Lists.{Lists}
use Rattle.planar_code.specs.Reading.{AreRecords, NoRecord, has_bad_count, header_of, is_header}
use Rattle.planar_code.specs.State.{State}

-- Where a header may still come, all bytes are pending and none is a record; else the header of the bytes, however
-- they go on, is this front.
abbrev pub FrontIs : Bool → List ℕ → List ℕ → List Lists → List ℕ → Type 0
FrontIs true consumed bytes records front =
    (front ≡ []) × (bytes ≡ []) × (records ≡ []) × IsFalse (is_header (take 15 consumed))
FrontIs false consumed bytes records front = (tail : List ℕ) → header_of (consumed ++ tail) ≡ front

-- The bytes consumed are a header or none, these records, and what is pending, which holds no record and no bad count.
pub record Progress (consumed : List ℕ) (records : List Lists) (state : State) : Type 0 where
  pub front : List ℕ
  pub bytes : List ℕ
  pub parts : consumed ≡ front ++ (bytes ++ state.pending)
  pub are : AreRecords bytes records
  pub start : state.start ≡ length front + length bytes
  pub no_record : NoRecord state.pending
  pub no_bad_count : IsFalse (has_bad_count state.pending)
  pub front_is : FrontIs state.header_may_come consumed bytes records front

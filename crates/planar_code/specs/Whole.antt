-- How an input of any length is read: as one is that is within the limit. And where an input may be cut.
use Rattle.std.specs.Prelude.{ℕ, ◌+◌, ◌<◌, ◌≤◌, ◌≡◌, ◌↔◌, IsTrue, IsFalse, List, [], ◌++◌, length, take, drop, slice_range}
use Rattle.map_lists.specs.Lists.{Lists}
use Rattle.planar_code.specs.Reading.{IsRecord, NoRecord, AreRecords, has_bad_count, header_of, input_limit, IsReading, Ending, well, end_in_record, bad_count, too_long}
use Rattle.planar_code.specs.Scan.{Scan}
use Rattle.planar_code.specs.declared.whole_input.Reach.{Reach}
use Rattle.planar_code.specs.declared.whole_input.Reach.TheVariants.{Ended, Bad, Open}

-- how an input ends, where `rest` is left behind the records, which stop at the place `at`
abbrev pub Ends : ℕ → List ℕ → Ending → Type 0
Ends at rest well = rest ≡ []
Ends at rest (end_in_record place) = (place ≡ at) × (0 < length rest) × IsFalse (has_bad_count rest) × NoRecord rest
Ends at rest (bad_count place) = (place ≡ at) × IsTrue (has_bad_count rest)
Ends at rest too_long = ⊥

-- The reading of an input of any length: its header, then records, and the ending where they stop.
pub record IsWholeReading (input : List ℕ) (records : List Lists) (ending : Ending) : Type 0 where
  pub bytes : List ℕ
  pub rest : List ℕ
  pub parts : input ≡ header_of input ++ (bytes ++ rest)
  pub are : AreRecords bytes records
  pub ends : Ends (length (header_of input) + length bytes) rest ending

-- an ending as it is in a longer input, with so many bytes before this one
abbrev pub behind : ℕ → Ending → Ending
behind before well = well
behind before (end_in_record place) = end_in_record (before + place)
behind before (bad_count place) = bad_count (before + place)
behind before too_long = too_long

-- an input within the limit is read as one of any length is
abbrev pub ReadWithinLimit : Type 0
ReadWithinLimit =
    (input : List ℕ) (records : List Lists) (ending : Ending) → length input ≤ input_limit
    → IsReading input records ending ↔ IsWholeReading input records ending

-- an input of any length is read in one way at most
abbrev pub OneWholeReading : Type 0
OneWholeReading =
    (input : List ℕ) (records records' : List Lists) (ending ending' : Ending) → IsWholeReading input records ending
    → IsWholeReading input records' ending' → (records ≡ records') × (ending ≡ ending')

-- Two parts of an input, of which the first ends well and the second does not begin with the bytes of a header. The input has
-- the records of the first and then those of the second, and ends as the second does.
abbrev pub PartsAreRead : Type 0
PartsAreRead =
    (first second : List ℕ) (records records' : List Lists) (ending : Ending) → IsWholeReading first records well
    → header_of second ≡ [] → IsWholeReading second records' ending
    → IsWholeReading (first ++ second) (records ++ records') (behind (length first) ending)

-- Up to this offset an input is read to a good end, with so many records, and up to no greater one.
pub record IsCut (input : List ℕ) (end count : ℕ) : Type 0 where
  pub within : end ≤ length input
  pub records : List Lists
  pub counted : count ≡ length records
  pub reads : IsWholeReading (take end input) records well
  pub greatest : (longer : ℕ) (records' : List Lists) → end < longer → longer ≤ length input → ¬ IsWholeReading (take longer input) records' well

-- up to an offset some bytes are a header or none, and then so many records
pub record IsUpTo (input : List ℕ) (end count : ℕ) : Type 0 where
  pub behind_header : length (header_of input) ≤ end
  pub within : end ≤ length input
  pub few : count ≤ end
  pub records : List Lists
  pub counted : count ≡ length records
  pub are : AreRecords (slice_range input (length (header_of input)) end) records

-- How far a scanner without bytes comes from an offset on: a record ends, or a bad count stands there, or no record does.
abbrev pub Reaches : List ℕ → ℕ → Scan → Reach → Type 0
Reaches bytes at scan (Ended end) = (at < end) × (end ≤ length bytes) × IsRecord (slice_range bytes at end) scan.lists × (scan.bytes ≡ [])
Reaches bytes at scan Bad = IsTrue (has_bad_count (drop at bytes))
Reaches bytes at scan Open = IsFalse (has_bad_count (drop at bytes)) × NoRecord (drop at bytes)

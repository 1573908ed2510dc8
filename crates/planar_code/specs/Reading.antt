-- planar_code: the bytes of a record, and how an input is read as records and one ending.
use Rattle.std.specs.Prelude.{ℕ, ◌+◌, ◌-◌, ◌*◌, ◌/◌, ◌%◌, ◌<◌, ◌≤◌, ◌≡◌, ◌⊎◌, Bool, false, ◌&&◌, ◌||◌, ◌==◌, nat_lt, if◌then◌else◌, IsTrue, IsFalse, List, [], ◌∷◌, ◌++◌, map, flat_map, length, take, All, codes, bytes_eq}
use Rattle.map_lists.specs.Lists.{Lists}

-- the numbers of a list: vertices are numbered from 1, and 0 closes the list
abbrev pub list_numbers : List ℕ → List ℕ
list_numbers us = map (λ u. u + 1) us ++ 0 ∷ []

-- the numbers of a record behind its count
abbrev pub record_numbers : Lists → List ℕ
record_numbers lists = flat_map list_numbers lists

-- a number as two bytes, the greater first
abbrev pub two_bytes : ℕ → List ℕ
two_bytes n = n / 256 ∷ n % 256 ∷ []

-- A narrow record: the number of lists in one byte, from 1 to 255, and each number in one byte.
pub record IsNarrow (bytes : List ℕ) (lists : Lists) : Type 0 where
  pub some_list : 0 < length lists
  pub few_lists : length lists < 256
  pub small : All (λ us. All (λ u. u < 255) us) lists
  pub spelled : bytes ≡ length lists ∷ record_numbers lists

-- A wide record: a byte 0, the number of lists, from 1 to 4095, and all numbers in two bytes.
pub record IsWide (bytes : List ℕ) (lists : Lists) : Type 0 where
  pub some_list : 0 < length lists
  pub few_lists : length lists < 4096
  pub small : All (λ us. All (λ u. u < 65535) us) lists
  pub spelled : bytes ≡ 0 ∷ flat_map two_bytes (length lists ∷ record_numbers lists)

-- the bytes are a record with these lists, with vertices numbered from 0
abbrev pub IsRecord : List ℕ → Lists → Type 0
IsRecord bytes lists = IsNarrow bytes lists ⊎ IsWide bytes lists

-- no record stands at the front of the bytes
abbrev pub NoRecord : List ℕ → Type 0
NoRecord bytes = (n : ℕ) (lists : Lists) → ¬ IsRecord (take n bytes) lists

-- a byte 0 and then two bytes that give no number from 1 to 4095
abbrev pub has_bad_count : List ℕ → Bool
has_bad_count [] = false
has_bad_count (zero_byte ∷ []) = false
has_bad_count (zero_byte ∷ high ∷ []) = false
has_bad_count (zero_byte ∷ high ∷ low ∷ bytes) =
    (zero_byte == 0) && (((256 * high + low) == 0) || nat_lt 4095 (256 * high + low))

-- three bytes, the first 0, and the two others give no number from 1 to 4095
abbrev pub is_bad_count : List ℕ → Bool
is_bad_count bytes = (length bytes == 3) && has_bad_count bytes

-- the 15 bytes with which a file may begin
abbrev pub header : List ℕ
header = codes ">>planar_code<<"

-- the bytes are just the header
abbrev pub is_header : List ℕ → Bool
is_header bytes = bytes_eq bytes header

-- the header of an input: its first 15 bytes where they are that, and nothing otherwise
abbrev pub header_of : List ℕ → List ℕ
header_of input = if is_header (take 15 input) then header else []

-- how many bytes of an input are read
abbrev pub input_limit : ℕ
input_limit = 16777216

-- the bytes are these records, one after another
abbrev pub AreRecords : List ℕ → List Lists → Type 0
AreRecords bytes [] = bytes ≡ []
AreRecords bytes (lists ∷ records) =
    (first : List ℕ) × (rest : List ℕ) × IsRecord first lists × AreRecords rest records × (bytes ≡ first ++ rest)

-- how an input ends: well, inside the record that began at a place, at a bad count there, or not within the limit
pub data Ending : Type 0 where
  well : Ending
  end_in_record : ℕ → Ending
  bad_count : ℕ → Ending
  too_long : Ending

-- The ending of an input of `total` bytes, where `rest` is left behind the records, which stop at the place `at`.
abbrev pub EndsAs : ℕ → ℕ → List ℕ → Ending → Type 0
EndsAs total at rest well = (total ≤ input_limit) × (rest ≡ [])
EndsAs total at rest (end_in_record place) =
    (place ≡ at) × (total ≤ input_limit) × (0 < length rest) × IsFalse (has_bad_count rest) × NoRecord rest
EndsAs total at rest (bad_count place) = (place ≡ at) × IsTrue (has_bad_count (take (input_limit - at) rest))
EndsAs total at rest too_long =
    (input_limit < total) × IsFalse (has_bad_count (take (input_limit - at) rest)) × NoRecord (take (input_limit - at) rest)

-- the input begins, behind its header, with these records, which end within the limit
pub record BeginsWith (input : List ℕ) (records : List Lists) : Type 0 where
  pub bytes : List ℕ
  pub rest : List ℕ
  pub parts : input ≡ header_of input ++ (bytes ++ rest)
  pub are : AreRecords bytes records
  pub within : length (header_of input) + length bytes ≤ input_limit

-- The reading of an input: its header, then records within the limit, and the ending where they stop.
pub record IsReading (input : List ℕ) (records : List Lists) (ending : Ending) : Type 0 where
  pub bytes : List ℕ
  pub rest : List ℕ
  pub parts : input ≡ header_of input ++ (bytes ++ rest)
  pub are : AreRecords bytes records
  pub within : length (header_of input) + length bytes ≤ input_limit
  pub ends : EndsAs (length input) (length (header_of input) + length bytes) rest ending

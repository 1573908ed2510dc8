-- The bytes of a record that has begun, as a scanner keeps them: each is handled once, and none is stored twice.
use Rattle.std.specs.Prelude.{ℕ, ◌+◌, ◌-◌, ◌<◌, ◌≤◌, ◌≡◌, nat_le, if◌then◌else◌, List, [], ◌∷◌, ◌++◌, flat_map, length, take, IsTrue, IsFalse}
use Rattle.map_lists.specs.Lists.{Lists}
use Rattle.planar_code.specs.Reading.{IsRecord, is_bad_count, two_bytes}
use Rattle.planar_code.specs.Open.{Open, numbers_of, IsOpen}
use Rattle.planar_code.specs.declared.record_scanner.Phase.{Phase}
use Rattle.planar_code.specs.declared.record_scanner.Phase.TheVariants.{Start, WideStart, WideHigh, Narrow, Wide, WideHalf}
use Rattle.planar_code.specs.declared.record_scanner.Scanned.{Scanned}
use Rattle.planar_code.specs.declared.record_scanner.Scanned.TheVariants.{More, Ended, Bad}

pub record Scan : Type 0 where
  -- the bytes of the record that has begun
  pub bytes : List ℕ
  -- the lists of the record that ended last
  pub lists : Lists
  -- how many more bytes there is room for
  pub room : ℕ

-- the most lists that a record may have
abbrev pub most_lists : ℕ
most_lists = 4095

-- how many more bytes there is room for: `room`, but none where fewer than `most_lists` lists fit in
abbrev pub room_of : ℕ → ℕ → ℕ
room_of most room = if nat_le most_lists most then room else 0

-- the bytes so far
abbrev pub bytes_of : Phase → Open → List ℕ
bytes_of Start gathered = []
bytes_of WideStart gathered = 0 ∷ []
bytes_of (WideHigh high) gathered = 0 ∷ high ∷ []
bytes_of (Narrow count) gathered = count ∷ numbers_of gathered.lists gathered.last
bytes_of (Wide count) gathered = 0 ∷ flat_map two_bytes (count ∷ numbers_of gathered.lists gathered.last)
bytes_of (WideHalf count high) gathered = 0 ∷ (flat_map two_bytes (count ∷ numbers_of gathered.lists gathered.last) ++ high ∷ [])

-- what holds in each phase
abbrev pub IsScanned : Phase → Open → Type 0
IsScanned Start gathered = (gathered.lists ≡ []) × (gathered.last ≡ [])
IsScanned WideStart gathered = (gathered.lists ≡ []) × (gathered.last ≡ [])
IsScanned (WideHigh high) gathered = (gathered.lists ≡ []) × (gathered.last ≡ [])
IsScanned (Narrow count) gathered = IsOpen 256 255 count gathered.lists gathered.last
IsScanned (Wide count) gathered = IsOpen 4096 65535 count gathered.lists gathered.last
IsScanned (WideHalf count high) gathered = IsOpen 4096 65535 count gathered.lists gathered.last

-- a piece has bytes and room, among those of a record that stands in a phase
pub record CanTake (phase : Phase) (gathered : Open) (piece : List ℕ) : Type 0 where
  pub some : 0 < length piece
  pub room : length piece ≤ room_of gathered.most gathered.room
  pub is : IsScanned phase gathered

-- a piece has more than `least` bytes, with room for all of them, and there is room for `count` lists
pub record CanGather (least : ℕ) (phase : Phase) (count : ℕ) (gathered : Open) (piece : List ℕ) : Type 0 where
  pub some : least < length piece
  pub is : IsScanned phase gathered
  pub room : length piece ≤ gathered.room
  pub most : count ≤ gathered.most

-- the bytes are no bad count and no record
abbrev pub GoesOn : List ℕ → Type 0
GoesOn bytes = IsFalse (is_bad_count bytes) × ((lists : Lists) → ¬ IsRecord bytes lists)

-- with each of the bytes to come in turn the bytes before go on
abbrev pub Passes : List ℕ → List ℕ → Type 0
Passes bytes [] = Unit {0}
Passes bytes (byte ∷ more) = GoesOn (bytes ++ byte ∷ []) × Passes (bytes ++ byte ∷ []) more

-- a piece has at least k bytes, and with those before byte k the bytes go on
abbrev pub PassesBefore : List ℕ → List ℕ → ℕ → Type 0
PassesBefore bytes piece k = (0 < k) × (k ≤ length piece) × Passes bytes (take (k - 1) piece)

-- What a piece of bytes makes of those before it, and how many of the piece are taken.
abbrev pub Scans : Scan → List ℕ → Scanned → Scan → Type 0
Scans old piece (More k) new =
    (k ≤ length piece) × Passes old.bytes (take k piece) × (new.bytes ≡ old.bytes ++ take k piece)
    × (new.lists ≡ old.lists) × (old.room ≤ new.room + k)
Scans old piece (Ended k) new =
    PassesBefore old.bytes piece k × IsFalse (is_bad_count (old.bytes ++ take k piece))
    × IsRecord (old.bytes ++ take k piece) new.lists × (new.bytes ≡ [])
Scans old piece (Bad k) new =
    PassesBefore old.bytes piece k × IsTrue (is_bad_count (old.bytes ++ take k piece))
    × (new.bytes ≡ old.bytes ++ take (k - 1) piece) × (new.lists ≡ old.lists)

-- how many bytes of a piece were looked at
abbrev pub seen_of : Scanned → ℕ
seen_of (More k) = k
seen_of (Ended k) = k
seen_of (Bad k) = k

-- a whole piece passed, unless it was stopped within
abbrev pub Exhausts : List ℕ → Scanned → Type 0
Exhausts piece (More k) = k ≡ length piece
Exhausts piece (Ended k) = Unit {0}
Exhausts piece (Bad k) = Unit {0}

-- a scanner with these parts
abbrev pub scan_of : Phase → Open → Lists → Scan
scan_of phase gathered lent = record { bytes = bytes_of phase gathered; lists = lent; room = room_of gathered.most gathered.room }

-- How far the parts of a scanner come with a piece of bytes: by one byte at least.
pub record Advances (phase : Phase) (gathered : Open) (lent : Lists) (piece : List ℕ) (phase' : Phase) (scanned : Scanned) (gathered' : Open) (lent' : Lists) : Type 0 where
  pub is : IsScanned phase' gathered'
  pub scans : Scans (scan_of phase gathered lent) piece scanned (scan_of phase' gathered' lent')
  pub some : 0 < seen_of scanned

-- What a piece of bytes does to a reader of records: what its bytes do one by one.
use Rattle.std.specs.Prelude.{ℕ, ◌+◌, ◌-◌, ◌<◌, ◌≤◌, ◌≡◌, List, [], ◌∷◌, length, take, slice_index}
use Rattle.planar_code.specs.State.{State, with_byte, after_more}
use Rattle.planar_code.specs.Fed.{Feeds}
use Rattle.planar_code.specs.declared.record_reader.Fed.TheVariants.{Bad as FedBad, Record as FedRecord, More as FedMore}
use Rattle.planar_code.specs.declared.record_reader.Taken.{Taken}
use Rattle.planar_code.specs.declared.record_reader.Taken.TheVariants.{More, Ended, Bad}

-- the state once these bytes have joined those pending
abbrev pub after_all : State → List ℕ → State
after_all state [] = state
after_all state (byte ∷ bytes) = after_all (after_more state (with_byte state byte)) bytes

-- each of the bytes in turn joins those pending: none ends a record, and none makes a bad count
abbrev pub AllJoin : State → List ℕ → Type 0
AllJoin state [] = Unit {0}
AllJoin state (byte ∷ bytes) =
    Feeds state byte FedMore (after_more state (with_byte state byte))
    × AllJoin (after_more state (with_byte state byte)) bytes

-- The piece has at least k bytes, all before byte k join those pending, and byte k then does so much.
abbrev pub StopsAt : State → List ℕ → ℕ → (State → ℕ → Type 0) → Type 0
StopsAt old piece k Does =
    (0 < k) × (k ≤ length piece) × AllJoin old (take (k - 1) piece)
    × Does (after_all old (take (k - 1) piece)) (slice_index piece (k - 1))

-- The whole piece joins the bytes pending, or with byte k a record ends, whose lists are lent, or with byte k the
-- bytes pending are a bad count, and that byte changes nothing.
abbrev pub Takes : State → List ℕ → Taken → State → Type 0
Takes old piece More new = AllJoin old piece × (new ≡ after_all old piece)
Takes old piece (Ended k) new =
    StopsAt old piece k (λ state byte. Feeds state byte (FedRecord new.lists) (record new { lists = [] }))
Takes old piece (Bad k place) new = StopsAt old piece k (λ state byte. Feeds state byte (FedBad place) new)

-- how many bytes of a piece were looked at where it stopped
abbrev pub looked_at : Taken → ℕ
looked_at More = 0
looked_at (Ended k) = k
looked_at (Bad k place) = k

-- what a piece comes to that begins with `passed` bytes that joined, by what its other bytes come to
abbrev pub shifted : ℕ → Taken → Taken
shifted passed More = More
shifted passed (Ended k) = Ended (passed + k)
shifted passed (Bad k place) = Bad (passed + k) place

-- Bytes that are a front of the header.
use Rattle.std.specs.Prelude.{ℕ, ◌≡◌, Bool, ◌&&◌, List, length, take, bytes_eq}
use Rattle.planar_code.specs.Reading.{header}

-- whether the bytes are a front of the header
abbrev pub is_front : List ℕ → Bool
is_front bytes = bytes_eq bytes (take (length bytes) header)

-- what a reader keeps of the bytes pending: their number, and whether a header may come and they are a front of it
abbrev pub IsCounted : Bool → List ℕ → ℕ → Bool → Type 0
IsCounted may_come pending count in_header = (count ≡ length pending) × (in_header ≡ (may_come && is_front pending))

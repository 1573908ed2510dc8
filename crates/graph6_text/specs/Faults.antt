-- What is wrong with bytes that are no line: the first fault, in the order of the tests.
use Rattle.std.specs.Prelude.{ℕ, ◌+◌, ◌-◌, ◌*◌, ◌%◌, ◌^◌, ◌≡◌, ◌==◌, Bool, ◌||◌, nat_lt, if◌then◌else◌, List, [], ◌∷◌, length, slice_index, position, Option, Some, None, Result, Ok, Err}
use Rattle.graphs.specs.Bits.{pair_count, body_length}
use Rattle.graph6_text.specs.declared.graph6_lines.G6Fault.{G6Fault}
use Rattle.graph6_text.specs.declared.graph6_lines.G6Fault.TheVariants.{BadByte, LongCount, TooMany, ShortLine, ExtraByte, Padding, NoMemory}

-- the first byte that is not six bits plus 63
abbrev pub is_bad_byte : ℕ → Bool
is_bad_byte byte = nat_lt byte 63 || nat_lt 126 byte

-- a count of four bytes may neither have a shorter form nor be above 255
abbrev pub four_byte_start : ℕ → Result (ℕ × ℕ) G6Fault
four_byte_start n = if nat_lt n 63 then Err LongCount else if nat_lt 255 n then Err (TooMany n) else Ok (n, 4)

-- the number of vertices by the three bytes that begin with b, after a first byte 126, and that it takes four bytes; or what is wrong with them
abbrev pub long_rest : ℕ → List ℕ → Result (ℕ × ℕ) G6Fault
long_rest b [] = Err ShortLine
long_rest b (c ∷ []) = Err ShortLine
long_rest b (c ∷ d ∷ bytes) = four_byte_start ((b - 63) * 4096 + (c - 63) * 64 + (d - 63))

-- what the bytes after a first byte 126 say: a second 126 would begin a count of eight bytes, which is too long
abbrev pub long_start : List ℕ → Result (ℕ × ℕ) G6Fault
long_start [] = Err ShortLine
long_start (b ∷ bytes) = if b == 126 then Err LongCount else long_rest b bytes

-- the number of vertices that a line begins with, and in how many bytes; or what is wrong with these
abbrev pub line_start : List ℕ → Result (ℕ × ℕ) G6Fault
line_start [] = Err ShortLine
line_start (a ∷ bytes) = if a == 126 then long_start bytes else Ok (a - 63, 1)

-- whether the last bits, which stand for no pair, are zeros
abbrev pub is_padded : ℕ → List ℕ → Bool
is_padded n bytes = (slice_index bytes (length bytes - 1) - 63) % 2 ^ (6 * body_length n - pair_count n) == 0

-- what is wrong with the bytes behind the first `start`, as the bits of n vertices
abbrev pub body_fault : List ℕ → ℕ → ℕ → Option G6Fault
body_fault bytes n start =
    if nat_lt (length bytes) (start + body_length n) then Some ShortLine
    else if nat_lt (start + body_length n) (length bytes) then Some (ExtraByte (start + body_length n))
    else if is_padded n bytes then None
    else Some (Padding (length bytes - 1))

abbrev pub rest_fault : List ℕ → Result (ℕ × ℕ) G6Fault → Option G6Fault
rest_fault bytes (Ok start) = body_fault bytes start.0 start.1
rest_fault bytes (Err fault) = Some fault

abbrev pub fault_from : List ℕ → Option ℕ → Option G6Fault
fault_from bytes (Some place) = Some (BadByte place)
fault_from bytes None = rest_fault bytes (line_start bytes)

-- the first fault of a line
abbrev pub line_fault : List ℕ → Option G6Fault
line_fault bytes = fault_from bytes (position is_bad_byte bytes)

-- an answer names the first fault; out of memory is named where there is none
abbrev pub NamesFault : List ℕ → G6Fault → Type 0
NamesFault bytes NoMemory = line_fault bytes ≡ None
NamesFault bytes fault = line_fault bytes ≡ Some fault

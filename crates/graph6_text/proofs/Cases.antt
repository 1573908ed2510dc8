-- Worked cases: counts, faults and a header.
use Rattle.std.proofs.Common.{◌≡◌, [], ◌∷◌, Some, None, refl}
use Rattle.graphs.specs.Bits.{pair_count, body_length}
use Rattle.graph6_text.specs.Lines.{count_form}
use Rattle.graph6_text.specs.Faults.{line_fault}
use Rattle.graph6_text.specs.Header.{header_length}
use Rattle.graph6_text.specs.declared.graph6_lines.G6Fault.TheVariants.{BadByte, LongCount, TooMany, ShortLine, ExtraByte, Padding}

-- the forms of counts
short_count : count_form 62 ≡ 125 ∷ []
short_count = refl

long_count : count_form 63 ≡ 126 ∷ 63 ∷ 63 ∷ 126 ∷ []
long_count = refl

-- a bit of the padding is set
padding : line_fault (69 ∷ 70 ∷ 122 ∷ 97 ∷ []) ≡ Some (Padding 3)
unfolding body_length pair_count
padding = refl

none : line_fault (69 ∷ 70 ∷ 122 ∷ 95 ∷ []) ≡ None
unfolding body_length pair_count
none = refl

-- a count of 5 in four bytes, and one of 256
long_five : line_fault (126 ∷ 63 ∷ 63 ∷ 68 ∷ 126 ∷ 123 ∷ []) ≡ Some LongCount
long_five = refl

too_many : line_fault (126 ∷ 63 ∷ 67 ∷ 63 ∷ []) ≡ Some (TooMany 256)
too_many = refl

-- one byte behind the count is wanting, one too many, one is a space
short : line_fault (68 ∷ 126 ∷ []) ≡ Some ShortLine
unfolding body_length pair_count
short = refl

extra : line_fault (68 ∷ 126 ∷ 123 ∷ 63 ∷ []) ≡ Some (ExtraByte 3)
unfolding body_length pair_count
extra = refl

bad_byte : line_fault (68 ∷ 126 ∷ 32 ∷ []) ≡ Some (BadByte 2)
bad_byte = refl

-- the header with a byte 10 behind it
header : header_length (62 ∷ 62 ∷ 103 ∷ 114 ∷ 97 ∷ 112 ∷ 104 ∷ 54 ∷ 60 ∷ 60 ∷ 10 ∷ 64 ∷ []) ≡ 11
header = refl

-- A record as bytes.
use Rattle.std.specs.Prelude.{ℕ, ◌<◌, Bool, true, false, nat_lt, if◌then◌else◌, List, [], ◌∷◌, flat_map, length, All}
use Rattle.map_lists.specs.Lists.{Lists}
use Rattle.planar_code.specs.Reading.{record_numbers, two_bytes}

-- a number in two bytes, or in one
abbrev pub spelled : Bool → ℕ → List ℕ
spelled true n = two_bytes n
spelled false n = n ∷ []

-- what entries are below in a wide and in a narrow record
abbrev pub entry_limit : Bool → ℕ
entry_limit true = 65535
entry_limit false = 255

-- all entries are below a limit
abbrev pub AreBelow : ℕ → Lists → Type 0
AreBelow limit lists = All (λ us. All (λ u. u < limit) us) lists

-- whether lists are too many for a narrow record
abbrev pub is_wide : Lists → Bool
is_wide lists = nat_lt 255 (length lists)

-- the bytes of the record of some lists: narrow for at most 255, and wide for more
abbrev pub record_bytes : Lists → List ℕ
record_bytes lists =
    if is_wide lists then 0 ∷ flat_map two_bytes (length lists ∷ record_numbers lists) else length lists ∷ record_numbers lists

-- the byte with which a wide record begins, and a narrow one does not
abbrev pub first_bytes : Bool → List ℕ
first_bytes true = 0 ∷ []
first_bytes false = []

-- What a byte does to a reader of records.
use Rattle.std.specs.Prelude.{ℕ, ◌≡◌, [], IsTrue, IsFalse}
use Rattle.map_lists.specs.Lists.{Lists}
use Rattle.planar_code.specs.Reading.{IsRecord, is_bad_count}
use Rattle.planar_code.specs.State.{State, with_byte, after_more, after_record}
use Rattle.planar_code.specs.declared.record_reader.Fed.{Fed}
use Rattle.planar_code.specs.declared.record_reader.Fed.TheVariants.{Bad, Record, More}

-- The first of three that applies: a bad count, a record that ends with the byte, whose lists are handed over, or
-- neither.
abbrev pub Feeds : State → ℕ → Fed → State → Type 0
Feeds old byte (Bad at) new = IsTrue (is_bad_count (with_byte old byte)) × (at ≡ old.start) × (new ≡ old)
Feeds old byte (Record lists) new =
    IsFalse (is_bad_count (with_byte old byte)) × IsRecord (with_byte old byte) lists
    × (new ≡ after_record old (with_byte old byte) [])
Feeds old byte More new =
    IsFalse (is_bad_count (with_byte old byte)) × ((lists : Lists) → ¬ IsRecord (with_byte old byte) lists)
    × (new ≡ after_more old (with_byte old byte))

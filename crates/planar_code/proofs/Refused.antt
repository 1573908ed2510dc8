-- Readings and records that wrong bodies would give.
use Rattle.std.proofs.Common.{◌≡◌, ℕ, List, [], ◌∷◌, ◌++◌, length, ap, ⊎_elim, arith}
use Rattle.std.specs.Prelude.{slice_index}
use Rattle.std.proofs.lemmas.List.{length-append}
use Rattle.map_lists.specs.Lists.{Lists}
use Rattle.planar_code.specs.Reading.{IsRecord, IsReading, header, end_in_record}
use Rattle.planar_code.specs.Step.{StandsAt}
use Rattle.planar_code.specs.declared.whole_input.Step.TheVariants.{Lists as Stands}

-- entries are as they are printed, from 1
entry_as_printed : IsRecord (2 ∷ 2 ∷ 0 ∷ 1 ∷ 0 ∷ []) ((2 ∷ []) ∷ (1 ∷ []) ∷ []) → ⊥
entry_as_printed r =
    ⊎_elim (λ n. omega (arith, ap (λ bytes. slice_index bytes 1) n.spelled)) (λ w. omega (arith, ap (λ bytes. slice_index bytes 0) w.spelled)) r

-- the header is kept as the front of a record
header_kept : IsReading header [] (end_in_record 0) → ⊥
header_kept r =
    omega (arith, length-append header (r.bytes ++ r.rest), length-append r.bytes r.rest, r.ends.2)

-- a record of more lists than the limit
no_limit_of_lists : (bytes : List ℕ) (lists : Lists) → length lists ≡ 4096 → IsRecord bytes lists → ⊥
no_limit_of_lists bytes lists e r = ⊎_elim (λ n. omega (arith, n.few_lists)) (λ w. omega (arith, w.few_lists)) r

-- a record ends a byte early
record_ends_a_byte_early : StandsAt (1 ∷ 0 ∷ []) 0 (Stands ([] ∷ []) 1) → ⊥
record_ends_a_byte_early s =
    ⊎_elim (λ n. omega (arith, ap length n.spelled)) (λ w. omega (arith, ap length w.spelled)) s.2

-- the first byte of a wide record is taken for a whole record
record_that_has_not_ended : (lists : Lists) → StandsAt (0 ∷ []) 0 (Stands lists 1) → ⊥
record_that_has_not_ended lists s =
    ⊎_elim (λ n. omega (arith, n.some_list, ap (λ bytes. slice_index bytes 0) n.spelled)) (λ w. omega (arith, ap length w.spelled)) s.2

-- Each input is read: the lists of a record are found in its bytes, so that a byte after the other is answered.
use Rattle.std.proofs.Common.{◌≡◌, ℕ, zero, suc, ◌+◌, ◌*◌, ◌/◌, ◌%◌, ◌<◌, ◌≤◌, Bool, true, false, List, [], ◌∷◌, ◌++◌, length, flat_map, All, refl, sym, ap, subst, ◌∙◌, ◌⊎◌, inl, inr, arith, append_assoc, Decides, ◌&&◌}
use Rattle.std.proofs.lemmas.List.{append-nil, length-append}
use Rattle.std.proofs.lemmas.Bool.{false≢true, cases_lt}
use Rattle.std.proofs.lemmas.Bool.Decides.{Decides-by_and, Decides-ltb}
use Rattle.std.proofs.lemmas.Slice.Eq.{bytes_eq-Decides}
use Rattle.std.specs.Prelude.{bytes_eq, nat_lt}
use Rattle.map_lists.specs.Lists.{Lists}
use Rattle.planar_code.specs.Reading.{list_numbers, record_numbers, two_bytes, IsNarrow, IsWide, IsRecord, is_bad_count, input_limit, IsReading, Ending, well, end_in_record, bad_count, too_long}
use Rattle.planar_code.specs.State.{State, at_front, with_byte, after_more, after_record}
use Rattle.planar_code.specs.Progress.{Progress}
use Rattle.planar_code.proofs.ProgressLemmas.{Progress-start, Progress-more, Progress-record, Progress-well, Progress-in_record, Progress-bad, Progress-too_long}

-- the lists that numbers close, with an entry in front of the first
in_front : ℕ → Lists → Lists
in_front u [] = []
in_front u (us ∷ lists) = (u ∷ us) ∷ lists

-- the lists that numbers close
closed_lists : List ℕ → Lists
closed_lists [] = []
closed_lists (zero ∷ xs) = [] ∷ closed_lists xs
closed_lists (suc u ∷ xs) = in_front u (closed_lists xs)

-- those of one list and more
closed-list : (us : List ℕ) (xs : List ℕ) → closed_lists (list_numbers us ++ xs) ≡ us ∷ closed_lists xs
unfolding closed_lists in_front
closed-list [] xs = refl
closed-list (u ∷ us) xs =
    let e : u + 1 ≡ suc u = omega arith in
    ap (λ (n : ℕ). closed_lists (n ∷ (list_numbers us ++ xs))) e ∙ ap (λ (l : Lists). in_front u l) (closed-list us xs)

-- the lists of a record are found in its numbers
closed-record : (lists : Lists) → closed_lists (record_numbers lists) ≡ lists
unfolding closed_lists
closed-record [] = refl
closed-record (us ∷ lists) = closed-list us (record_numbers lists) ∙ ap (λ (l : Lists). us ∷ l) (closed-record lists)

-- a test decides
decided : {P : Type 0} (b : Bool) → Decides b P → P ⊎ (P → ⊥)
decided true d = inl (d.0 refl)
decided false d = inr (λ p. false≢true (d.1 p))

-- whether the entries of a list are below a limit
below_all : ℕ → List ℕ → Bool
below_all limit [] = true
below_all limit (u ∷ us) = nat_lt u limit && below_all limit us

below_all-Decides : (limit : ℕ) (us : List ℕ) → Decides (below_all limit us) (All (λ u. u < limit) us)
unfolding below_all
below_all-Decides limit us = Decides-by_and (λ u. nat_lt u limit) (λ u. u < limit) (below_all limit) (λ u. Decides-ltb u limit) refl (λ u vs. refl) us

-- and those of all lists
all_below : ℕ → Lists → Bool
all_below limit [] = true
all_below limit (us ∷ lists) = below_all limit us && all_below limit lists

all_below-Decides : (limit : ℕ) (lists : Lists) → Decides (all_below limit lists) (All (λ us. All (λ u. u < limit) us) lists)
unfolding all_below
all_below-Decides limit lists = Decides-by_and (below_all limit) (λ us. All (λ u. u < limit) us) (all_below limit) (below_all-Decides limit) refl (λ us vss. refl) lists

-- the lists of a narrow record with these bytes, if they are one
narrow_lists : List ℕ → Lists
narrow_lists [] = []
narrow_lists (count ∷ xs) = closed_lists xs

narrow-lists : (bytes : List ℕ) (lists : Lists) → IsNarrow bytes lists → lists ≡ narrow_lists bytes
unfolding narrow_lists
narrow-lists bytes lists is = sym (closed-record lists) ∙ sym (ap narrow_lists is.spelled)

-- the numbers of pairs of bytes
numbers_of_pairs : List ℕ → List ℕ
numbers_of_pairs [] = []
numbers_of_pairs (high ∷ []) = []
numbers_of_pairs (high ∷ low ∷ xs) = (256 * high + low) ∷ numbers_of_pairs xs

pairs-of-numbers : (xs : List ℕ) → numbers_of_pairs (flat_map two_bytes xs) ≡ xs
unfolding numbers_of_pairs
pairs-of-numbers [] = refl
pairs-of-numbers (x ∷ xs) =
    let whole : 256 * (x / 256) + x % 256 ≡ x = omega arith in
    ap (λ (n : ℕ). n ∷ numbers_of_pairs (flat_map two_bytes xs)) whole ∙ ap (λ (l : List ℕ). x ∷ l) (pairs-of-numbers xs)

-- the lists of a wide record with these bytes, if they are one
wide_lists : List ℕ → Lists
wide_lists [] = []
wide_lists (first ∷ bytes) = narrow_lists (numbers_of_pairs bytes)

wide-lists : (bytes : List ℕ) (lists : Lists) → IsWide bytes lists → lists ≡ wide_lists bytes
unfolding wide_lists narrow_lists
wide-lists bytes lists is =
    sym (closed-record lists) ∙ sym (ap narrow_lists (pairs-of-numbers (length lists ∷ record_numbers lists))) ∙ sym (ap wide_lists is.spelled)

-- whether the bytes are a narrow record with these lists
narrow-with : (bytes : List ℕ) (lists : Lists) → IsNarrow bytes lists ⊎ (IsNarrow bytes lists → ⊥)
narrow-with bytes lists =
    elim (decided (nat_lt 0 (length lists)) (Decides-ltb 0 (length lists))) [
      | inr not ↦ inr (λ is. not is.some_list)
      | inl some ↦ elim (decided (nat_lt (length lists) 256) (Decides-ltb (length lists) 256)) [
        | inr not ↦ inr (λ is. not is.few_lists)
        | inl few ↦ elim (decided (all_below 255 lists) (all_below-Decides 255 lists)) [
          | inr not ↦ inr (λ is. not is.small)
          | inl small ↦ elim (decided (bytes_eq bytes (length lists ∷ record_numbers lists)) (bytes_eq-Decides bytes (length lists ∷ record_numbers lists))) [
            | inr not ↦ inr (λ is. not is.spelled)
            | inl spelled ↦ inl (record { some_list = some; few_lists = few; small = small; spelled = spelled })
          ]
        ]
      ]
    ]

wide-with : (bytes : List ℕ) (lists : Lists) → IsWide bytes lists ⊎ (IsWide bytes lists → ⊥)
wide-with bytes lists =
    elim (decided (nat_lt 0 (length lists)) (Decides-ltb 0 (length lists))) [
      | inr not ↦ inr (λ is. not is.some_list)
      | inl some ↦ elim (decided (nat_lt (length lists) 4096) (Decides-ltb (length lists) 4096)) [
        | inr not ↦ inr (λ is. not is.few_lists)
        | inl few ↦ elim (decided (all_below 65535 lists) (all_below-Decides 65535 lists)) [
          | inr not ↦ inr (λ is. not is.small)
          | inl small ↦ elim (decided (bytes_eq bytes (0 ∷ flat_map two_bytes (length lists ∷ record_numbers lists))) (bytes_eq-Decides bytes (0 ∷ flat_map two_bytes (length lists ∷ record_numbers lists)))) [
            | inr not ↦ inr (λ is. not is.spelled)
            | inl spelled ↦ inl (record { some_list = some; few_lists = few; small = small; spelled = spelled })
          ]
        ]
      ]
    ]

neither : (bytes : List ℕ) → (IsNarrow bytes (narrow_lists bytes) → ⊥) → (IsWide bytes (wide_lists bytes) → ⊥) → (lists : Lists) → IsRecord bytes lists → ⊥
neither bytes narrow wide lists x4 = grind (arith, Lists, IsNarrow, narrow-lists, IsWide, wide-lists)

-- bytes are a record with some lists, or with none
record-or-none : (bytes : List ℕ) → ((lists : Lists) × IsRecord bytes lists) ⊎ ((lists : Lists) → ¬ IsRecord bytes lists)
record-or-none bytes =
    elim (narrow-with bytes (narrow_lists bytes)) [
      | inl is ↦ inl (narrow_lists bytes, inl is)
      | inr narrow ↦ elim (wide-with bytes (wide_lists bytes)) [
        | inl is ↦ inl (wide_lists bytes, inr is)
        | inr wide ↦ inr (neither bytes narrow wide)
      ]
    ]

-- an input is read
abbrev Reads : List ℕ → Type 0
Reads input = (records : List Lists) × (ending : Ending) × IsReading input records ending

-- at its end
end-reads : (consumed : List ℕ) (records : List Lists) (state : State) (pending : List ℕ) → state.pending ≡ pending → Progress consumed records state → length consumed ≤ input_limit → Reads consumed
end-reads consumed records state [] e p within = (records, well, Progress-well consumed records state p e within)
end-reads consumed records state (b ∷ pending) e p within =
    (records, end_in_record state.start, Progress-in_record consumed records state p (rw e (omega arith)) within)

-- with a byte more, where the rest is read behind it
byte-reads : (consumed : List ℕ) (records : List Lists) (state : State) (b : ℕ) (rest : List ℕ) (bad : Bool) → is_bad_count (with_byte state b) ≡ bad → Progress consumed records state → length consumed < input_limit → ((records' : List Lists) (state' : State) → Progress (consumed ++ b ∷ []) records' state' → Reads ((consumed ++ b ∷ []) ++ rest)) → Reads (consumed ++ b ∷ rest)
byte-reads consumed records state b rest true e p within next = (records, bad_count state.start, Progress-bad consumed records state b rest p e within)
byte-reads consumed records state b rest false e p within next =
    let P : List ℕ → Type 0 = λ x. Reads x in
    subst P (append_assoc consumed (b ∷ []) rest)
    (elim (record-or-none (with_byte state b)) [
      | inl found ↦ next (records ++ found.0 ∷ []) (after_record state (with_byte state b) []) (Progress-record {lent = []} consumed records state b found.0 p found.1)
      | inr none ↦ next records (after_more state (with_byte state b)) (Progress-more consumed records state b p e none)
    ])

rest-reads : (rest consumed : List ℕ) (records : List Lists) (state : State) → Progress consumed records state → length consumed ≤ input_limit → Reads (consumed ++ rest)
rest-reads [] consumed records state p within =
    let P : List ℕ → Type 0 = λ x. Reads x in
    subst P (sym (append-nil consumed)) (end-reads consumed records state state.pending refl p within)
rest-reads (b ∷ rest) consumed records state p within =
    elim (cases_lt (length consumed) input_limit) [
      | inl less ↦ byte-reads consumed records state b rest (is_bad_count (with_byte state b)) refl p less
          (λ records' state' p'. rest-reads rest (consumed ++ b ∷ []) records' state' p' (omega (arith, length-append consumed (b ∷ []))))
      | inr full ↦ (records, too_long, Progress-too_long consumed records state b rest p (omega arith))
    ]

-- Each input is read.
pub each-reads : (input : List ℕ) → Reads input
each-reads input = rest-reads input [] [] at_front Progress-start (omega arith)

-- Lists stored as their joined entries and their ends: how the two are cut into the lists again, and what
-- they are after a list more, an entry more, or lists fewer.
use Rattle.std.proofs.Common.{ℕ, zero, suc, ◌+◌, ◌-◌, ◌<◌, ◌≤◌, ◌≡◌, List, [], ◌∷◌, ◌++◌, length, get_or, set, take, drop, slice_range, sum_by, refl, sym, ap, ap₂, ◌∙◌, subst, arith, append_assoc, append-nil}
use Rattle.std.proofs.lemmas.List.{length-append, length-drop, length-take-le, take_at, drop_at, drop-drop, take-append-drop, set-append_right}
use Rattle.std.proofs.lemmas.List.Sums.{sum_by-cons}
use Rattle.std.proofs.Math.Seq.{take-append-add}
use Rattle.map_lists.specs.Cuts.{cut, joined, AreCuts, ends_from}

-- these entries and ends stand for these lists
pub record IsStored {A : Type 0} (lists : List (List A)) (entries : List A) (ends : List ℕ) : Type 0 where
  pub entries_are : entries ≡ joined lists
  pub ends_are : ends ≡ ends_from 0 lists

pub length-cut : {A : Type 0} (from : ℕ) (ends : List ℕ) (entries : List A) → length (cut from ends entries) ≡ length ends
length-cut from [] entries = refl
length-cut from (end ∷ ends) entries = ap suc (length-cut end ends entries)

pub get_or-cut : {A : Type 0} (from : ℕ) (ends : List ℕ) (entries : List A) (i : ℕ) → i < length ends → get_or (cut from ends entries) i [] ≡ slice_range entries (get_or (from ∷ ends) i 0) (get_or ends i 0)
get_or-cut from [] entries i h = absurd (omega (arith, h))
get_or-cut from (end ∷ ends) entries zero h = refl
get_or-cut from (end ∷ ends) entries (suc i) h = get_or-cut end ends entries i (omega (arith, h))

pub AreCuts-le : (from : ℕ) (ends : List ℕ) (total : ℕ) → AreCuts from ends total → from ≤ total
AreCuts-le from [] total h = omega (arith, h)
AreCuts-le from (end ∷ ends) total h = omega (arith, h.0, AreCuts-le end ends total h.1)

-- a piece begins before it ends, within the list
pub AreCuts-at : (from : ℕ) (ends : List ℕ) (total i : ℕ) → AreCuts from ends total → i < length ends → (get_or (from ∷ ends) i 0 ≤ get_or ends i 0) × (get_or ends i 0 ≤ total)
AreCuts-at from [] total i h l = absurd (omega (arith, l))
AreCuts-at from (end ∷ ends) total zero h l = (h.0, AreCuts-le end ends total h.1)
AreCuts-at from (end ∷ ends) total (suc i) h l = AreCuts-at end ends total i h.1 (omega (arith, l))

-- the pieces, joined, are the list again
joined-cut : {A : Type 0} (from : ℕ) (ends : List ℕ) (entries : List A) → AreCuts from ends (length entries) → joined (cut from ends entries) ≡ drop from entries
joined-cut from [] entries h = sym (drop_at entries [] from (sym h)) ∙ ap (λ us. drop from us) (append-nil entries)
joined-cut from (end ∷ ends) entries h =
    ap (λ us. slice_range entries from end ++ us) (joined-cut end ends entries h.1)
    ∙ ap (λ k. slice_range entries from end ++ drop k entries) (omega (arith, h.0))
    ∙ ap (λ us. slice_range entries from end ++ us) (sym (drop-drop (end - from) from entries))
    ∙ take-append-drop (end - from) (drop from entries)

-- the ends of the pieces are where the list was cut
ends_from-cut : {A : Type 0} (from : ℕ) (ends : List ℕ) (entries : List A) → AreCuts from ends (length entries) → ends_from from (cut from ends entries) ≡ ends
ends_from-cut from [] entries h = refl
ends_from-cut from (end ∷ ends) entries h =
    let size : length (slice_range entries from end) ≡ end - from = length-take-le (end - from) (drop from entries) (omega (arith, length-drop from entries, AreCuts-le end ends (length entries) h.1)) in
    let e : from + length (slice_range entries from end) ≡ end = omega (arith, size, h.0) in
    ap (λ k. k ∷ ends_from k (cut end ends entries)) e ∙ ap (λ ks. end ∷ ks) (ends_from-cut end ends entries h.1)

-- what is cut is stored as its pieces
pub stored : {A : Type 0} (ends : List ℕ) (entries : List A) → AreCuts 0 ends (length entries) → IsStored (cut 0 ends entries) entries ends
stored ends entries cuts = record { entries_are = sym (joined-cut 0 ends entries cuts); ends_are = sym (ends_from-cut 0 ends entries cuts) }

length-joined : {A : Type 0} (lists : List (List A)) → length (joined lists) ≡ sum_by length lists
length-joined [] = refl
length-joined {A = A} (us ∷ lists) = length-append us (joined lists) ∙ omega (arith, length-joined lists, sum_by-cons (length {A = A}) us lists)

-- joined lists are cut at their ends
AreCuts-joined : {A : Type 0} (from : ℕ) (lists : List (List A)) (total : ℕ) → total ≡ from + length (joined lists) → AreCuts from (ends_from from lists) total
AreCuts-joined from [] total e = omega (arith, e)
AreCuts-joined from (us ∷ lists) total e = (omega arith, AreCuts-joined (from + length us) lists total (omega (arith, e, length-append us (joined lists))))

-- and the pieces are the lists, whatever stands before
pub cut-joined : {A : Type 0} (from : ℕ) (before : List A) (lists : List (List A)) → length before ≡ from → cut from (ends_from from lists) (before ++ joined lists) ≡ lists
cut-joined from before [] e = refl
cut-joined from before (us ∷ lists) e =
    let rest : drop from (before ++ (us ++ joined lists)) ≡ us ++ joined lists = drop_at before (us ++ joined lists) from e in
    let first : take (from + length us - from) (us ++ joined lists) ≡ us = take_at us (joined lists) (from + length us - from) (omega arith) in
    ap₂ (λ vs vss. vs ∷ vss)
    (ap (λ vs. take (from + length us - from) vs) rest ∙ first)
    (ap (λ vs. cut (from + length us) (ends_from (from + length us) lists) vs) (sym (append_assoc before us (joined lists)))
    ∙ cut-joined (from + length us) (before ++ us) lists (length-append before us ∙ ap (λ k. k + length us) e))

-- the two facts of what is stored
module _ {A : Type 0} (lists : List (List A)) (entries : List A) (ends : List ℕ) (is : IsStored lists entries ends) where
  pub IsStored-cuts : AreCuts 0 ends (length entries)
  IsStored-cuts = rw (is.ends_are, is.entries_are) (AreCuts-joined 0 lists (length (joined lists)) (omega arith))

  pub IsStored-cut : cut 0 ends entries ≡ lists
  IsStored-cut = rw (is.ends_are, is.entries_are) (cut-joined 0 [] lists refl)

  pub IsStored-total : length entries ≡ sum_by length lists
  IsStored-total = ap length is.entries_are ∙ length-joined lists

-- lists that are not none have a last one
pub some_last : {A : Type 0} (lists : List (List A)) → 0 < length lists → (before : List (List A)) × (last : List A) × (lists ≡ before ++ last ∷ [])
some_last [] h = absurd (omega (arith, h))
some_last (us ∷ []) h = ([], us, refl)
some_last (us ∷ vs ∷ lists) h = let (before, last, e) = some_last (vs ∷ lists) (omega arith) in (us ∷ before, last, ap (λ wss. us ∷ wss) e)

joined-push : {A : Type 0} (lists : List (List A)) (us : List A) → joined (lists ++ us ∷ []) ≡ joined lists ++ us
joined-push [] us = append-nil us
joined-push (vs ∷ lists) us = ap (λ ws. vs ++ ws) (joined-push lists us) ∙ sym (append_assoc vs (joined lists) us)

ends_from-push : {A : Type 0} (from : ℕ) (lists : List (List A)) (us : List A) → ends_from from (lists ++ us ∷ []) ≡ ends_from from lists ++ (from + length (joined lists) + length us) ∷ []
ends_from-push from [] us = ap (λ k. k ∷ []) (omega arith)
ends_from-push from (vs ∷ lists) us =
    ap (λ ks. (from + length vs) ∷ ks)
    (ends_from-push (from + length vs) lists us
    ∙ ap (λ k. ends_from (from + length vs) lists ++ k ∷ []) (omega (arith, length-append vs (joined lists))))

-- a list more
pub IsStored-push : {A : Type 0} (lists : List (List A)) (entries : List A) (ends : List ℕ) (us : List A) → IsStored lists entries ends → IsStored (lists ++ us ∷ []) (entries ++ us) (ends ++ (length entries + length us) ∷ [])
IsStored-push lists entries ends us is = record {
  entries_are = ap (λ vs. vs ++ us) is.entries_are ∙ sym (joined-push lists us);
  ends_are =
      ap₂ (λ ks k. ks ++ k ∷ []) is.ends_are (omega (arith, ap length is.entries_are))
      ∙ sym (ends_from-push 0 lists us);
}

-- more entries in the last list
pub IsStored-append : {A : Type 0} (before : List (List A)) (last entries : List A) (ends : List ℕ) (us : List A) → IsStored (before ++ last ∷ []) entries ends → IsStored (before ++ (last ++ us) ∷ []) (entries ++ us) (set ends (length ends - 1) (length entries + length us))
IsStored-append before last entries ends us is =
    let joined_are : entries ≡ joined before ++ last = is.entries_are ∙ joined-push before last in
    let ends_are : ends ≡ ends_from 0 before ++ (0 + length (joined before) + length last) ∷ [] = is.ends_are ∙ ends_from-push 0 before last in
    let count : length ends ≡ length (ends_from 0 before) + 1 = ap length ends_are ∙ length-append (ends_from 0 before) ((0 + length (joined before) + length last) ∷ []) in
    record {
      entries_are =
          ap (λ vs. vs ++ us) joined_are
          ∙ append_assoc (joined before) last us
          ∙ sym (joined-push before (last ++ us));
      ends_are =
          ap₂ (λ ks k. set ks k (length entries + length us)) ends_are (omega (arith, count))
          ∙ set-append_right (ends_from 0 before) _ (length (ends_from 0 before)) (length (ends_from 0 before)) (length entries + length us) refl (omega arith)
          ∙ ap (λ k. ends_from 0 before ++ set ((0 + length (joined before) + length last) ∷ []) k (length entries + length us)) (let e : length (ends_from 0 before) - length (ends_from 0 before) ≡ 0 = omega arith in e)
          ∙ ap (λ k. ends_from 0 before ++ k ∷ []) (let e : length entries + length us ≡ 0 + length (joined before) + length (last ++ us) = omega (arith, ap length joined_are, length-append (joined before) last, length-append last us) in e)
          ∙ sym (ends_from-push 0 before (last ++ us));
    }

ends_from-le : {A : Type 0} (from : ℕ) (lists : List (List A)) (count : ℕ) → count < length lists → from ≤ get_or (from ∷ ends_from from lists) count 0
ends_from-le from [] count h = absurd (omega (arith, h))
ends_from-le from (us ∷ lists) zero h = omega arith
ends_from-le from (us ∷ []) (suc count) h = absurd (omega (arith, h))
ends_from-le from (us ∷ vs ∷ lists) (suc count) h = omega (arith, ends_from-le (from + length us) (vs ∷ lists) count (omega (arith, h)))

-- where the lists from number `count` on begin
joined-take : {A : Type 0} (from : ℕ) (lists : List (List A)) (count : ℕ) → count < length lists → joined (take count lists) ≡ take (get_or (from ∷ ends_from from lists) count 0 - from) (joined lists)
joined-take from [] count h = absurd (omega (arith, h))
joined-take from (us ∷ lists) zero h = ap (λ k. take k (us ++ joined lists)) (let e : 0 ≡ from - from = omega arith in e)
joined-take from (us ∷ lists) (suc count) h =
    let start = get_or ((from + length us) ∷ ends_from (from + length us) lists) count 0 in
    let below : count < length lists = omega (arith, h) in
    ap (λ vs. us ++ vs) (joined-take (from + length us) lists count below)
    ∙ sym (take-append-add us (joined lists) (start - (from + length us)))
    ∙ ap (λ k. take k (us ++ joined lists)) (let e : length us + (start - (from + length us)) ≡ start - from = omega (arith, ends_from-le (from + length us) lists count below) in e)

ends_from-take : {A : Type 0} (from : ℕ) (lists : List (List A)) (count : ℕ) → ends_from from (take count lists) ≡ take count (ends_from from lists)
ends_from-take from lists zero = refl
ends_from-take from [] (suc count) = refl
ends_from-take from (us ∷ lists) (suc count) = ap (λ ks. (from + length us) ∷ ks) (ends_from-take (from + length us) lists count)

-- lists fewer
pub IsStored-take : {A : Type 0} (lists : List (List A)) (entries : List A) (ends : List ℕ) (count : ℕ) → count < length lists → IsStored lists entries ends → IsStored (take count lists) (take (get_or (0 ∷ ends) count 0) entries) (take count ends)
IsStored-take lists entries ends count h is = record {
  entries_are =
      ap₂ (λ ks us. take (get_or (0 ∷ ks) count 0) us) is.ends_are is.entries_are
      ∙ ap (λ k. take k (joined lists)) (omega arith)
      ∙ sym (joined-take 0 lists count h);
  ends_are = ap (λ ks. take count ks) is.ends_are ∙ sym (ends_from-take 0 lists count);
}

-- the entries and ends after a list more, as they were pushed
pub pushed : {A : Type 0} (ends new_ends : List ℕ) (entries new_entries us : List A) {end : ℕ} → AreCuts 0 ends (length entries) → new_entries ≡ entries ++ us → new_ends ≡ ends ++ end ∷ [] → end ≡ length new_entries → IsStored (cut 0 ends entries ++ us ∷ []) new_entries new_ends
pushed ends new_ends entries new_entries us cuts grown added total =
    let is = IsStored-push (cut 0 ends entries) entries ends us (stored ends entries cuts) in
    let e : length entries + length us ≡ _ = sym (total ∙ ap length grown ∙ length-append entries us) in
    record { entries_are = grown ∙ is.entries_are; ends_are = added ∙ ap (λ k. ends ++ k ∷ []) (sym e) ∙ is.ends_are }

-- the entries and ends after an entry more in the last list
pub appended : {A : Type 0} (ends new_ends : List ℕ) (entries new_entries : List A) (x : A) (before : List (List A)) (last : List A) → AreCuts 0 ends (length entries) → cut 0 ends entries ≡ before ++ last ∷ [] → new_entries ≡ entries ++ x ∷ [] → new_ends ≡ set ends (length ends - 1) (length new_entries) → IsStored (before ++ (last ++ x ∷ []) ∷ []) new_entries new_ends
appended ends new_ends entries new_entries x before last cuts split grown ended =
    let was : IsStored (before ++ last ∷ []) entries ends = subst (λ lists. IsStored lists entries ends) split (stored ends entries cuts) in
    let is = IsStored-append before last entries ends (x ∷ []) was in
    let e : length new_entries ≡ length entries + 1 = ap length grown ∙ length-append entries (x ∷ []) in
    record { entries_are = grown ∙ is.entries_are; ends_are = ended ∙ ap (λ k. set ends (length ends - 1) k) e ∙ is.ends_are }

-- and where no split of the lists is named
pub AreCuts-appended : {A : Type 0} (ends new_ends : List ℕ) (entries new_entries : List A) (x : A) → 0 < length ends → AreCuts 0 ends (length entries) → new_entries ≡ entries ++ x ∷ [] → new_ends ≡ set ends (length ends - 1) (length new_entries) → AreCuts 0 new_ends (length new_entries)
AreCuts-appended ends new_ends entries new_entries x some cuts grown ended =
    let (before, last, split) = some_last (cut 0 ends entries) (omega (arith, length-cut 0 ends entries)) in
    IsStored-cuts _ _ _ (appended ends new_ends entries new_entries x before last cuts split grown ended)

-- the entries and ends of the first lists
pub cut_short : {A : Type 0} (ends new_ends : List ℕ) (entries new_entries : List A) (count : ℕ) {start : ℕ} → AreCuts 0 ends (length entries) → count < length ends → start ≡ get_or (0 ∷ ends) count 0 → new_entries ≡ take start entries → new_ends ≡ take count ends → IsStored (take count (cut 0 ends entries)) new_entries new_ends
cut_short ends new_ends entries new_entries count cuts below at fewer ended =
    let is = IsStored-take (cut 0 ends entries) entries ends count (omega (arith, below, length-cut 0 ends entries)) (stored ends entries cuts) in
    record { entries_are = fewer ∙ ap (λ k. take k entries) at ∙ is.entries_are; ends_are = ended ∙ is.ends_are }

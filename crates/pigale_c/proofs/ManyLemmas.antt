-- Calls answered one after another, each with its own part of the arrays.
use Rattle.std.proofs.Common.{ℕ, zero, suc, ◌-◌, ◌+◌, ◌<◌, ◌≤◌, ◌≡◌, ◌≢◌, ◌⊎◌, inl, inr, ⊎_elim, List, [], ◌∷◌, ◌++◌, length, get_or, take, drop, slice_range, refl, sym, ap, ◌∙◌, subst, arith, below_more}
use Rattle.std.proofs.lemmas.List.{drop-drop, length-take-le, length-drop, length-append, take-take, get_or-take, get_or-drop, get_or_default, get_or-set_same, get_or-set_other}
use Rattle.std.proofs.lemmas.Slice.{between_is, between-put_mid, take-put_mid_below, drop-put_mid}
use borrow.Rule.Slice.PartMut.{put_mid}
use Rattle.std.proofs.Math.ListN.{set}
use Rattle.map_lists.specs.Cuts.{AreCuts}
use Rattle.pigale_c.specs.ManyMaps.{AreGivenMaps, AreAnsweredTo, IsChangedWithin, begin_of, part_of, entry_of_map}
use Rattle.pigale_c.specs.Numbers.{none, Reports}
use Rattle.pigale_c.specs.declared.outcome.Numbers.{Numbers}
use Rattle.pigale_c.specs.declared.outcome.Outcome.{Outcome}

-- where each begins, with where the first one does in front
begin_is : (ends : List ℕ) (i : ℕ) → begin_of ends i ≡ get_or (0 ∷ ends) i 0
begin_is ends zero = refl
begin_is ends (suc i) = refl

-- cuts rise
rise : (s : ℕ) (ends : List ℕ) (total i j : ℕ) → AreCuts s ends total → i ≤ j → j < suc (length ends) → (get_or (s ∷ ends) i 0 ≤ get_or (s ∷ ends) j 0) × (get_or (s ∷ ends) j 0 ≤ total)
rise s [] total zero zero cuts l m = (omega arith, omega (arith, cuts))
rise s [] total (suc i) zero cuts l m = absurd (omega (arith, l))
rise s [] total i (suc j) cuts l m = absurd (omega (arith, m))
rise s (end ∷ ends) total zero zero cuts l m =
    let r = rise end ends total zero zero cuts.1 (omega arith) (omega arith) in
    (omega arith, omega (arith, cuts.0, r.1))
rise s (end ∷ ends) total zero (suc j) cuts l m =
    let r = rise end ends total zero j cuts.1 (omega arith) (omega (arith, m)) in
    (omega (arith, cuts.0, r.0), r.1)
rise s (end ∷ ends) total (suc i) zero cuts l m = absurd (omega (arith, l))
rise s (end ∷ ends) total (suc i) (suc j) cuts l m = rise end ends total i j cuts.1 (omega (arith, l)) (omega (arith, m))

pub begins_rise : (ends : List ℕ) (total i j : ℕ) → AreCuts 0 ends total → i ≤ j → j ≤ length ends → (begin_of ends i ≤ begin_of ends j) × (begin_of ends j ≤ total)
begins_rise ends total i j cuts l m =
    let r = rise 0 ends total i j cuts l (omega (arith, m)) in
    (omega (arith, r.0, begin_is ends i, begin_is ends j), omega (arith, r.1, begin_is ends j))

-- a part begins before it ends, and ends within the row
pub part_within : (ends : List ℕ) (total i : ℕ) → AreCuts 0 ends total → i < length ends → (begin_of ends i ≤ begin_of ends (suc i)) × (begin_of ends (suc i) ≤ total)
part_within ends total i cuts l = begins_rise ends total i (suc i) cuts (omega arith) (omega (arith, l))

-- the neighbours of a map begin before they end, and where those of one end those of the later ones have not begun
pub entries_rise : (map_ends ends neighbours : List ℕ) (i j : ℕ) → AreGivenMaps map_ends ends neighbours → i ≤ j → j ≤ length map_ends → (entry_of_map map_ends ends i ≤ entry_of_map map_ends ends j) × (entry_of_map map_ends ends j ≤ length neighbours)
entries_rise map_ends ends neighbours i j given l m =
    let r = begins_rise map_ends (length ends) i j given.maps l m in
    begins_rise ends (length neighbours) (begin_of map_ends i) (begin_of map_ends j) given.lists r.0 r.1

-- no list of a part ends before the part begins
pub ends_behind : (ends : List ℕ) (total from to k d : ℕ) → AreCuts 0 ends total → from ≤ to → to ≤ length ends → k < to - from → begin_of ends from ≤ get_or (slice_range ends from to) k d
ends_behind ends total from to k d cuts l m n =
    let r = begins_rise ends total from (suc (from + k)) cuts (omega arith) (omega (arith, m, n)) in
    let e : get_or (slice_range ends from to) k d ≡ get_or ends (from + k) 0 = get_or-take (to - from) (drop from ends) k d n ∙ get_or-drop from ends k d ∙ get_or_default ends (from + k) d 0 (omega (arith, m, n)) in
    omega (arith, r.0, e)

-- what is written to a part of a row
pub changed : {A : Type 0} (from to : ℕ) (xs ys : List A) → from ≤ to → to ≤ length xs → length ys ≡ length (take (to - from) (drop from xs)) → IsChangedWithin from to xs (put_mid from (to - from) xs ys)
changed from to xs ys l m n =
    let size : length ys ≡ to - from = n ∙ length-take-le (to - from) (drop from xs) (omega (arith, length-drop from xs, m)) in
    record {
      long = omega (arith, length-append (take from xs) (ys ++ drop (to - from) (drop from xs)), length-append ys (drop (to - from) (drop from xs)), length-take-le from xs (omega (arith, l, m)), length-drop (to - from) (drop from xs), length-drop from xs, size, l, m);
      before = take-put_mid_below from (to - from) xs ys from (omega arith) (omega (arith, l, m));
      behind = drop-put_mid from (to - from) xs ys to (omega (arith, l)) (omega (arith, l, m)) size;
    }

-- and what stands there then
pub part_put : {A : Type 0} (from to : ℕ) (xs ys : List A) → from ≤ to → to ≤ length xs → length ys ≡ length (take (to - from) (drop from xs)) → slice_range (put_mid from (to - from) xs ys) from to ≡ ys
part_put from to xs ys l m n = between-put_mid from (to - from) xs ys to (omega (arith, l, m)) (n ∙ length-take-le (to - from) (drop from xs) (omega (arith, length-drop from xs, m)))

-- a part apart from what has changed is as it was
pub kept_apart : {A : Type 0} (from to a b : ℕ) (xs ys : List A) → IsChangedWithin from to xs ys → (b ≤ from) ⊎ (to ≤ a) → slice_range ys a b ≡ slice_range xs a b
kept_apart {A} from to a b xs ys h apart = ⊎_elim
    (λ low.
    between_is ys a b
    ∙ ap (λ (zs : List A). drop a zs) (sym (take-take b from ys low) ∙ ap (λ (zs : List A). take b zs) h.before ∙ take-take b from xs low)
    ∙ sym (between_is xs a b))
    (λ high.
    let e : to + (a - to) ≡ a = omega (arith, high) in
    ap (λ (zs : List A). take (b - a) zs)
    (ap (λ (k : ℕ). drop k ys) (sym e) ∙ sym (drop-drop (a - to) to ys) ∙ ap (λ (zs : List A). drop (a - to) zs) h.behind ∙ drop-drop (a - to) to xs ∙ ap (λ (k : ℕ). drop k xs) e))
    apart

-- one of two numbers is less
pub less_or_more : (i k : ℕ) → i ≢ k → (suc i ≤ k) ⊎ (suc k ≤ i)
less_or_more zero zero n = absurd (n refl)
less_or_more zero (suc k) n = inl (omega arith)
less_or_more (suc i) zero n = inr (omega arith)
less_or_more (suc i) (suc k) n = ⊎_elim (λ m. inl (omega (arith, m))) (λ m. inr (omega (arith, m))) (less_or_more i k (λ e. n (ap suc e)))

-- what one number writes to its part of a row leaves the parts of the others
pub part_kept : {A : Type 0} (ends : List ℕ) (total i k from to : ℕ) (xs ys : List A) → AreCuts 0 ends total → i ≢ k → i < length ends → k < length ends → from ≡ begin_of ends k → to ≡ begin_of ends (suc k) → IsChangedWithin from to xs ys → part_of ends ys i ≡ part_of ends xs i
part_kept ends total i k from to xs ys cuts other l m begins end h =
    kept_apart from to (begin_of ends i) (begin_of ends (suc i)) xs ys h
    (⊎_elim
    (λ less. inl (omega (arith, (begins_rise ends total (suc i) k cuts less (omega (arith, m))).0, begins)))
    (λ more. inr (omega (arith, (begins_rise ends total (suc k) i cuts more (omega (arith, l))).0, end)))
    (less_or_more i k other))

-- what is said of two lists and two numbers, of others that are the same
pub along : (Q : List ℕ → List ℕ → ℕ → ℕ → Type 0) (us us' vs vs' : List ℕ) (a a' b b' : ℕ) → us ≡ us' → vs ≡ vs' → a ≡ a' → b ≡ b' → Q us vs a b → Q us' vs' a' b'
along Q us us' vs vs' a a' b b' e f g h q =
    subst (λ (x : List ℕ). Q x vs' a' b') e (subst (λ (x : List ℕ). Q us x a' b') f (subst (λ (x : ℕ). Q us vs x b') g (subst (λ (x : ℕ). Q us vs a x) h q)))

-- a row and a table as long as they were
pub record AreLong (row row' : List ℕ) (table table' : List Numbers) : Type 0 where
  pub statuses : length row' ≡ length row
  pub found : length table' ≡ length table

-- nothing is answered yet
pub none_answered : (P : Type 0) (Right : ℕ → P → P → Outcome → Type 0) (old : ℕ → P) (row : List ℕ) (table : List Numbers) → AreAnsweredTo P Right old old row row table table 0
none_answered P Right old row table = record { answered = λ i l. absurd (omega (arith, l)); kept = λ i l m. (refl, refl, refl) }

-- a call more is answered, which leaves the parts of the others
module _ (P : Type 0) (Right : ℕ → P → P → Outcome → Type 0) (old new new' : ℕ → P) (row row' : List ℕ) (table table' : List Numbers) (k status : ℕ) (found : Numbers)
    (h : AreAnsweredTo P Right old new row row' table table' k) (inside : k < length row) (long : AreLong row row' table table') (same : length table ≡ length row)
    (others : (i : ℕ) → i ≢ k → i < length row → new' i ≡ new i) (answer : Reports (Right k (new k) (new' k)) status found) where
  -- an answer with other names for what it has
  renamed : (i : ℕ) (p p' q q' : P) (s s' : ℕ) (f f' : Numbers) → p ≡ p' → q ≡ q' → s ≡ s' → f ≡ f' → Reports (Right i p q) s f → Reports (Right i p' q') s' f'
  renamed i p p' q q' s s' f f' a b c d r =
      subst (λ (x : P). Reports (Right i x q') s' f') a
      (subst (λ (x : P). Reports (Right i p x) s' f') b
      (subst (λ (x : ℕ). Reports (Right i p q) x f') c
      (subst (λ (x : Numbers). Reports (Right i p q) s x) d r)))

  -- the new one
  here : Reports (Right k (old k) (new' k)) (get_or (set row' k status) k 0) (get_or (set table' k found) k none)
  here =
      renamed k (new k) (old k) (new' k) (new' k) status (get_or (set row' k status) k 0) found (get_or (set table' k found) k none)
      (h.kept k (omega arith) inside).0 refl (sym (get_or-set_same row' k status 0 (omega (arith, long.statuses, inside)))) (sym (get_or-set_same table' k found none (omega (arith, long.found, same, inside)))) answer

  -- those before it
  earlier : (i : ℕ) → i < k → Reports (Right i (old i) (new' i)) (get_or (set row' k status) i 0) (get_or (set table' k found) i none)
  earlier i l =
      let other : i ≢ k = λ e. omega (arith, l, e) in
      renamed i (old i) (old i) (new i) (new' i) (get_or row' i 0) (get_or (set row' k status) i 0) (get_or table' i none) (get_or (set table' k found) i none)
      refl (sym (others i other (omega (arith, l, inside)))) (sym (get_or-set_other row' k i status 0 other)) (sym (get_or-set_other table' k i found none other)) (h.answered i l)

  each : (i : ℕ) → i < k + 1 → Reports (Right i (old i) (new' i)) (get_or (set row' k status) i 0) (get_or (set table' k found) i none)
  each = below_more (λ (i : ℕ). Reports (Right i (old i) (new' i)) (get_or (set row' k status) i 0) (get_or (set table' k found) i none)) k earlier here

  later : (i : ℕ) → k + 1 ≤ i → i < length row → (new' i ≡ old i) × (get_or (set row' k status) i 0 ≡ get_or row i 0) × (get_or (set table' k found) i none ≡ get_or table i none)
  later i l m =
      let other : i ≢ k = λ e. omega (arith, l, e) in
      let b = h.kept i (omega (arith, l)) m in
      (others i other m ∙ b.0, get_or-set_other row' k i status 0 other ∙ b.1, get_or-set_other table' k i found none other ∙ b.2)

  pub more_answered : AreAnsweredTo P Right old new' row (set row' k status) table (set table' k found) (k + 1)
  more_answered = record { answered = each; kept = later }

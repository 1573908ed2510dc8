-- The ends of rows, by darts.
use Rattle.std.proofs.Common.{Bool, IsTrue, ◌↔◌, ◌≡◌, ℕ, ◌+◌, ◌-◌, ◌<◌, ◌≤◌, ◌⊎◌, List, length, get_or, Option, Some, option_map, unwrap_or, sym, ap, ◌∙◌, subst, inl, inr, arith, AllPairs, ◌≢◌, Contains}
use Rattle.plane_drawings.proofs.FreshLemmas.{head-is}
use Rattle.std.proofs.lemmas.List.Elements.{Contains-get_or}
use Rattle.std.proofs.lemmas.List.{get_or_default}
use Rattle.map_lists.specs.Lists.{Lists}
use Rattle.map_theory.specs.Maps.{Dart, HasDart, IsSimpleMap, list_of, follows, entry_after}
use Rattle.map_theory.proofs.DartLemmas.{HasDart-follows, entry_after-injective, entry_after-place, place_after, place_of-get_or}
use Rattle.half_edges.specs.Map.{Map, IsHalfMap, IsLive, dart_at, next_dart}
use Rattle.half_edges.proofs.ArenaLemmas.{entry_after-next, entry_before}
use Rattle.euler_faces.proofs.NumberLemmas.{some_of}
use Rattle.fpp_shift.specs.ShiftTreesRows.{IsListOf, IsEarlier, IsLater, BeginsRow, EndsRow}
use Rattle.std.proofs.lemmas.Bool.{cases_lt}
use Rattle.canon_order.specs.Orders.{IsRankOf}
use Rattle.std.proofs.lemmas.Bool.Decides.{nat_tests}

-- a dart leads to a vertex
pub head-within : (map : Map) (d r : ℕ) → IsHalfMap map → IsLive map d → option_map (λ (e : Dart). e.1) (dart_at map d) ≡ Some r → r < length map.lists
head-within map d r known live e =
    let y = some_of (dart_at map d) live in
    omega (arith, known.simple.in_range y.0.0 y.0.1 (known.is_dart d y.0.0 y.0.1 y.1), head-is map d y.0.0 y.0.1 r y.1 e)

-- the dart before another
before-is : (map : Map) (d e v u : ℕ) → IsLive map e → option_map (next_dart map.lists) (dart_at map e) ≡ dart_at map d → dart_at map d ≡ Some (v, u) → (w : ℕ) × (dart_at map e ≡ Some (v, w)) × (follows map.lists v w ≡ u)
before-is map d e v u live step is = grind (arith, some_of, dart_at, Some, next_dart, option_map, Option, Dart, unwrap_or, follows)

module _ (lists : Lists) (simple : IsSimpleMap lists) (ranks : List ℕ) (k v u r b : ℕ) (dart : HasDart lists v u) (rank : r ≡ get_or ranks u 0) where
  -- where a row begins, by the ranks of a neighbour and the next
  BeginsRow-iff : b ≡ get_or ranks (follows lists v u) 0 → (((r < k) × ((r ≡ 0) ⊎ (k ≤ b))) → BeginsRow lists ranks k v u) × (BeginsRow lists ranks k v u → ((r < k) × ((r ≡ 0) ⊎ (k ≤ b))))
  BeginsRow-iff next = grind arith

  -- where a row ends, by the ranks of a neighbour and the one before it, w
  EndsRow-iff : (w : ℕ) → HasDart lists v w → follows lists v w ≡ u → b ≡ get_or ranks w 0 → (((r < k) × ((r ≡ 1) ⊎ (k ≤ b))) → EndsRow lists ranks k v u) × (EndsRow lists ranks k v u → ((r < k) × ((r ≡ 1) ⊎ (k ≤ b))))
  EndsRow-iff w has turns before = grind (arith, turns, entry_after-injective, list_of, get_or)

-- and by a test of the ranks that calls answer at darts
module _ (map : Map) (known : IsHalfMap map) (ranks : List ℕ) (k v u d e r b : ℕ) (test : Bool) (is : dart_at map d ≡ Some (v, u)) (rank : (v u : ℕ) → dart_at map d ≡ Some (v, u) → r ≡ get_or ranks u 0) (beside : (v u : ℕ) → dart_at map e ≡ Some (v, u) → b ≡ get_or ranks u 0) where
  pub BeginsRow-tested : dart_at map e ≡ option_map (next_dart map.lists) (dart_at map d) → IsTrue test ↔ ((r < k) × ((r ≡ 0) ⊎ (k ≤ b))) → IsTrue test ↔ BeginsRow map.lists ranks k v u
  BeginsRow-tested after law =
      let next = after ∙ ap (option_map (next_dart map.lists)) is in
      let iff = BeginsRow-iff map.lists known.simple ranks k v u r b (known.is_dart d v u is) (rank v u is) (beside v (follows map.lists v u) next) in
      (λ t. iff.0 (law.0 t), λ s. law.1 (iff.1 s))

  pub EndsRow-tested : IsLive map e → option_map (next_dart map.lists) (dart_at map e) ≡ dart_at map d → IsTrue test ↔ ((r < k) × ((r ≡ 1) ⊎ (k ≤ b))) → IsTrue test ↔ EndsRow map.lists ranks k v u
  EndsRow-tested live step law =
      let before = before-is map d e v u live step is in
      let w = before.0 in
      let iff = EndsRow-iff map.lists known.simple ranks k v u r b (known.is_dart d v u is) (rank v u is) w (known.is_dart e v w before.1) before.2 (beside v w before.1) in
      (λ t. iff.0 (law.0 t), λ s. law.1 (iff.1 s))

-- where a row begins and ends, by which entries of a list are earlier than k and which are later
module _ (lists : Lists) (v : ℕ) (list ranks : List ℕ) (is : IsListOf lists v list) (k : ℕ) where
  entry-dart : (i : ℕ) → i < length list → HasDart lists v (get_or list i 0)
  entry-dart i l = (is.vertex, subst (λ us. Contains us (get_or list i 0)) is.list_is (Contains-get_or list i 0 l))

  entries-apart : AllPairs ◌≢◌ list
  entries-apart = subst (λ us. AllPairs ◌≢◌ us) (sym is.list_is) (is.simple.no_repeat v is.vertex)

  turns : (i : ℕ) → i + 1 < length list → follows lists v (get_or list i 0) ≡ get_or list (i + 1) 0
  turns i l = ap (entry_after (get_or list i 0)) (sym is.list_is) ∙ entry_after-next list i entries-apart l

  -- the first entry comes after the last
  last-turns : (i : ℕ) → i + 1 ≡ length list → follows lists v (get_or list i 0) ≡ get_or list 0 0
  last-turns i l =
      let place = place_of-get_or list i 0 entries-apart (omega arith) in
      ap (entry_after (get_or list i 0)) (sym is.list_is)
      ∙ entry_after-place (get_or list i 0) list 0 (omega (arith, place))
      ∙ ap (λ p. get_or list (place_after (length list) p) 0) place
      ∙ ap (λ p. get_or list p 0) (round (length list) i l)
    where
      round : (n i : ℕ) → i + 1 ≡ n → place_after n i ≡ 0
      round n i l = grind (arith, nat_tests)

  BeginsRow-at : (i : ℕ) → i < length list → IsEarlier ranks k list i → (i + 1 < length list → IsLater ranks k list (i + 1)) → (i + 1 ≡ length list → IsLater ranks k list 0) → BeginsRow lists ranks k v (get_or list i 0)
  BeginsRow-at i l low next round = record {
    dart = entry-dart i l;
    earlier = low;
    begins = inr (elim (cases_lt (i + 1) (length list)) [
      | inl m ↦ subst (λ u. k ≤ get_or ranks u 0) (sym (turns i m)) (next m)
      | inr m ↦ let e : i + 1 ≡ length list = omega arith in subst (λ u. k ≤ get_or ranks u 0) (sym (last-turns i e)) (round e)
    ]);
  }

  BeginsRow-before : (i e : ℕ) → i + 1 ≡ e → e ≤ length list → IsEarlier ranks k list i → (e < length list → IsLater ranks k list e) → (e ≡ length list → IsLater ranks k list 0) → BeginsRow lists ranks k v (get_or list i 0)
  BeginsRow-before i e is_next l low next round = BeginsRow-at i (omega (arith, l, is_next)) low (λ m. subst (λ e. IsLater ranks k list e) (sym is_next) (next (omega (arith, m, is_next)))) (λ m. round (omega (arith, m, is_next)))

  EndsRow-at : (i j : ℕ) → i < length list → j < length list → IsEarlier ranks k list i → IsLater ranks k list j → follows lists v (get_or list j 0) ≡ get_or list i 0 → EndsRow lists ranks k v (get_or list i 0)
  EndsRow-at i j l m low late after = record {
    dart = entry-dart i l;
    earlier = low;
    ends = inr (λ w on f.
        let same = entry_after-injective (list_of lists v) w (get_or list j 0) (is.simple.no_repeat v is.vertex) on.1 (entry-dart j m).1 (f ∙ sym after) in
        subst (λ u. k ≤ get_or ranks u 0) (sym same) late);
  }

  EndsRow-after : (i e : ℕ) → i + 1 ≡ e → e < length list → IsLater ranks k list i → IsEarlier ranks k list e → EndsRow lists ranks k v (get_or list e 0)
  EndsRow-after i e is_next l late low =
      let m : i + 1 < length list = omega (arith, l, is_next) in
      EndsRow-at e i l (omega (arith, m)) low late (turns i m ∙ ap (λ p. get_or list p 0) is_next)

  -- the last of some entries that are earlier
  lowest : (first end : ℕ) → first + 1 ≤ end → IsEarlier ranks k list first → ((i : ℕ) → first + 1 ≤ i → i < end → IsEarlier ranks k list i) → IsEarlier ranks k list (end - 1)
  lowest first end m low lows = elim (cases_lt first (end - 1)) [
    | inl b ↦ lows (end - 1) (omega (arith, b)) (omega (arith, m))
    | inr b ↦ let e : first ≡ end - 1 = omega (arith, b, m) in subst (λ i. IsEarlier ranks k list i) e low
  ]

  -- an entry later than k stands first
  pub row-within : (first end : ℕ) → 0 < first → first < length list → ((i : ℕ) → 0 ≤ i → i < first → IsLater ranks k list i) → (first < length list → IsEarlier ranks k list first) → first + 1 ≤ end → end ≤ length list → ((i : ℕ) → first + 1 ≤ i → i < end → IsEarlier ranks k list i) → (end < length list → IsLater ranks k list end) → BeginsRow lists ranks k v (get_or list (end - 1) 0) × EndsRow lists ranks k v (get_or list first 0)
  row-within first end some l late low m n lows next = (
    BeginsRow-before (end - 1) end (omega (arith, m)) n (lowest first end m (low l) lows) next (λ e. late 0 (omega arith) some),
    EndsRow-after (first - 1) first (omega (arith, some)) l (late (first - 1) (omega arith) (omega (arith, some))) (low l),
  )

  -- one that is earlier stands first, and one that is later behind it
  row-round : (end : ℕ) → (0 < length list → IsEarlier ranks k list 0) → end < length list → 1 ≤ end → ((i : ℕ) → 1 ≤ i → i < end → IsEarlier ranks k list i) → (end < length list → IsLater ranks k list end) → BeginsRow lists ranks k v (get_or list (end - 1) 0)
  row-round end low l some lows next =
      BeginsRow-before (end - 1) end (omega (arith, some)) (omega (arith, l)) (lowest 0 end some (low (omega (arith, l))) lows) next (λ e. absurd (omega (arith, e, l)))

  -- by the first place of all where an entry is earlier
  pub row-round-first : (first end : ℕ) → first ≡ 0 → (first < length list → IsEarlier ranks k list first) → first + 1 ≤ end → end ≤ length list → end ≢ length list → ((i : ℕ) → first + 1 ≤ i → i < end → IsEarlier ranks k list i) → (end < length list → IsLater ranks k list end) → BeginsRow lists ranks k v (get_or list (end - 1) 0)
  row-round-first first end none low m n ne lows next =
      let l : end < length list = elim (cases_lt end (length list)) [ inl l ↦ l | inr o ↦ absurd (ne (omega (arith, n, o))) ] in
      row-round end (λ some. subst (λ (i : ℕ). IsEarlier ranks k list i) none (low (omega (arith, none, some)))) l (omega (arith, m)) (λ i a b. lows i (omega (arith, a, none)) b) next

  -- the row ends where entries are earlier again, or at the first
  pub row-again : (end again : ℕ) → end < length list → (end < length list → IsLater ranks k list end) → end ≤ again → again < length list → ((i : ℕ) → end ≤ i → i < again → IsLater ranks k list i) → (again < length list → IsEarlier ranks k list again) → 0 < end → EndsRow lists ranks k v (get_or list again 0)
  row-again end again l next m n lates there some =
      let more : end < again = behind (cases_lt end again) in
      EndsRow-after (again - 1) again (omega (arith, some, m)) n (lates (again - 1) (omega (arith, more)) (omega (arith, more))) (there n)
    where
      behind : (end < again) ⊎ (again ≤ end) → end < again
      behind (inl b) = b
      behind (inr b) =
          let e : again ≡ end = omega (arith, b, m) in
          absurd (omega (arith, next l, subst (λ i. IsEarlier ranks k list i) e (there n)))

  pub row-first : (0 < length list → IsEarlier ranks k list 0) → 0 < length list → IsLater ranks k list (length list - 1) → EndsRow lists ranks k v (get_or list 0 0)
  row-first low l late =
      let last : length list - 1 + 1 ≡ length list = omega (arith, l) in
      EndsRow-at 0 (length list - 1) l (omega (arith, l)) (low l) late (last-turns (length list - 1) last)

  -- each neighbour is an entry
  entry-of : (u : ℕ) → HasDart lists v u → (i : ℕ) × (i < length list) × (get_or list i 0 ≡ u)
  entry-of u dart = let on = subst (λ us. Contains us u) (sym is.list_is) dart.1 in (on.0, on.1, get_or_default list on.0 0 u on.1 ∙ on.2)

  -- no neighbour is earlier
  pub none-earlier : (first u : ℕ) → first ≡ length list → ((i : ℕ) → 0 ≤ i → i < first → IsLater ranks k list i) → HasDart lists v u → get_or ranks u 0 < k → ⊥
  none-earlier first u e lates dart low =
      let at = entry-of u dart in
      omega (arith, ap (λ u. get_or ranks u 0) at.2, lates at.0 (omega arith) (omega (arith, at.1, e)), low)

  -- none is later
  none-later : (first end u : ℕ) → first ≤ 0 → (first < length list → IsEarlier ranks k list first) → end ≡ length list → ((i : ℕ) → first + 1 ≤ i → i < end → IsEarlier ranks k list i) → HasDart lists v u → k ≤ get_or ranks u 0 → ⊥
  none-later first end u z low e lows dart late =
      let at = entry-of u dart in
      let under : IsEarlier ranks k list at.0 = elim (cases_lt first at.0) [
        | inl b ↦ lows at.0 (omega (arith, b)) (omega (arith, at.1, e))
        | inr b ↦ let same : first ≡ at.0 = omega (arith, b, z) in subst (λ i. IsEarlier ranks k list i) same (low (omega (arith, at.1, same)))
      ] in
      omega (arith, ap (λ u. get_or ranks u 0) at.2, under, late)

  pub begin-alone : (first end p : ℕ) → first ≤ 0 → (first < length list → IsEarlier ranks k list first) → end ≡ length list → ((i : ℕ) → first + 1 ≤ i → i < end → IsEarlier ranks k list i) → BeginsRow lists ranks k v p → get_or ranks p 0 ≡ 0
  begin-alone first end p z low e lows b = elim b.begins [ inl is_zero ↦ is_zero | inr late ↦ absurd (none-later first end (follows lists v p) z low e lows (HasDart-follows lists v p b.dart) late) ]

  pub end-alone : (first end q : ℕ) → first ≤ 0 → (first < length list → IsEarlier ranks k list first) → end ≡ length list → ((i : ℕ) → first + 1 ≤ i → i < end → IsEarlier ranks k list i) → EndsRow lists ranks k v q → get_or ranks q 0 ≡ 1
  end-alone first end q z low e lows b = elim b.ends [
    | inl is_one ↦ is_one
    | inr late ↦
        let before = entry_before (list_of lists v) q (is.simple.no_repeat v is.vertex) b.dart.1 in
        let dart : HasDart lists v before.0 = (is.vertex, before.1) in
        absurd (none-later first end before.0 z low e lows dart (late before.0 dart before.2))
  ]

-- the vertex of a rank
pub only-rank : (ranks at : List ℕ) → IsRankOf ranks at → (u r s : ℕ) → u < length at → get_or at r 0 ≡ s → get_or ranks u 0 ≡ r → u ≡ s
only-rank ranks at rank u r s l is_at is_rank = sym (rank.of_vertex u l) ∙ ap (λ (i : ℕ). get_or at i 0) is_rank ∙ is_at

-- a search of a list comes to what stands in it
pub not-none : (P : ℕ → Type 0) (us : List ℕ) (n u : ℕ) → length us ≤ n → Contains us u → P u → ((j : ℕ) → j < n → ¬ P (get_or us j 0)) → ⊥
not-none P us n u all on p none = none on.0 (omega arith) (subst P (sym (get_or_default us on.0 0 u on.1 ∙ on.2)) p)

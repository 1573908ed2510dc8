-- The steps of a search in tables.
use Rattle.std.proofs.Common.{◌≡◌, ◌≢◌, ℕ, ◌+◌, ◌<◌, ◌≤◌, true, false, ltb, ltb-true, List, length, get_or, set, replicate, refl, sym, ap, ◌∙◌, subst, inl, inr, arith, length-set, get_or-set_other, get_or-set_same}
use Rattle.std.proofs.lemmas.Bool.{cases_eq, cases_lt, le-ltb}
use Rattle.std.proofs.lemmas.List.{get_or_default, length-replicate, get_or-replicate}
use Rattle.classes.specs.Classes.{count_below}
use Rattle.classes.proofs.Counting.{count_below-le, count_below_all, count_below_same, count_below_none, weaker_test_back}
use Rattle.map_lists.specs.Lists.{Lists}
use Rattle.map_theory.specs.Maps.{HasDart, list_of}
use Rattle.graph_search.specs.Forests.{IsForestOf}
use Rattle.graph_search.specs.UnderWay.{work_in, IsSearching, KeepsNumbers}
use Rattle.graph_search.proofs.StepLemmas.{IsPut-set, IsUnderWay-room, IsUnderWay-seen, IsUnderWay-done, work_left-seen, work_left-done, IsForest-finished}

-- before the first step
pub IsSearching-none : (lists : Lists) (order number last parent cursor : List ℕ) → length order ≡ length lists → length number ≡ length lists → length last ≡ length lists → length parent ≡ length lists → length cursor ≡ length lists → ((v : ℕ) → v < length lists → get_or number v 0 ≡ length lists) → ((v : ℕ) → v < length lists → get_or last v 0 ≡ 0) → ((v : ℕ) → v < length lists → get_or cursor v 0 ≡ 0) → IsSearching lists order number last parent cursor 0 (length lists)
IsSearching-none lists order number last parent cursor orders numbers lasts parents cursors unseen open_all unread =
    let n = length lists in
    record {
      orders = orders;
      numbers = numbers;
      lasts = lasts;
      parents = parents;
      cursors = cursors;
      state = record {
        counted = sym (count_below_same (λ v. ltb (get_or number v 0) n) (λ v. false) n (λ i m. le-ltb (get_or number i 0) n (omega (arith, unseen i m))) ∙ count_below_none n);
        most = λ v m. omega (arith, unseen v m);
        numbered = λ v m s. absurd (omega (arith, unseen v m));
        own = λ v m s. absurd (omega (arith, unseen v m));
        vertex = λ k m. absurd (omega arith);
        place = λ k m. absurd (omega arith);
        ends_after = λ v m d. absurd (omega (arith, open_all v m));
        ends_within = λ v m. omega (arith, open_all v m);
        nested_done = λ u v m k a b. absurd (omega (arith, open_all u m));
        nested = λ u v m k a b. absurd (omega (arith, open_all u m));
        edges = λ u v has d. absurd (let l = has.0 in omega (arith, open_all u l));
        adjacent = λ v m s p. absurd (omega (arith, unseen v m));
        held = λ v m s p. absurd (omega (arith, unseen v m));
        has_parent = λ u v m k s f. absurd (omega (arith, unseen v k));
        nearest = λ u v m k s f. absurd (omega (arith, unseen v k));
        current_seen = λ m. absurd (omega arith);
        current_open = λ m. absurd (omega arith);
        some_current = λ u m s d. absurd (omega (arith, unseen u m));
        top_most = λ u m s d. absurd (omega (arith, unseen u m));
      };
      read = record {
        within = λ v m. omega (arith, unread v m);
        seen = λ v i m l. absurd (omega (arith, unread v m));
      };
    }

-- before the first step, in tables that are filled
pub IsSearching-filled : (lists : Lists) (n : ℕ) (order number last parent cursor : List ℕ) → n ≡ length lists → length order ≡ n → number ≡ replicate n n → last ≡ replicate n 0 → length parent ≡ n → cursor ≡ replicate n 0 → IsSearching lists order number last parent cursor 0 n
IsSearching-filled lists n order number last parent cursor all o u l p c =
    let size : (xs : List ℕ) (x : ℕ) → xs ≡ replicate n x → length xs ≡ length lists = λ xs x e. ap length e ∙ (length-replicate {A = ℕ} n x ∙ all) in
    let entry : (xs : List ℕ) (x : ℕ) → xs ≡ replicate n x → (v : ℕ) → v < length lists → get_or xs v 0 ≡ x = λ xs x e v m. ap (λ (ys : List ℕ). get_or ys v 0) e ∙ get_or-replicate {A = ℕ} n v x 0 (omega (arith, m, all)) in
    subst (λ (x : ℕ). IsSearching lists order number last parent cursor 0 x) (sym all)
    (IsSearching-none lists order number last parent cursor (o ∙ all) (size number n u) (size last 0 l) (p ∙ all) (size cursor 0 c) (λ v m. entry number n u v m ∙ all) (entry last 0 l) (entry cursor 0 c))

module _ (lists : Lists) (order number last parent cursor : List ℕ) (count current : ℕ) (h : IsSearching lists order number last parent cursor count current) where
  -- an unseen vertex has the number of all
  unseen_number : (w : ℕ) → w < length lists → length lists ≤ get_or number w 0 → get_or number w 0 ≡ length lists
  unseen_number w l unseen = omega (arith, h.state.most w l)

  pub IsSearching-room : (w : ℕ) → w < length lists → length lists ≤ get_or number w 0 → count < length lists
  IsSearching-room w l unseen = IsUnderWay-room lists _ _ _ _ count current h.state w l (unseen_number w l unseen)

  -- a vertex is seen
  pub IsSearching-seen : (w : ℕ) → w < length lists → length lists ≤ get_or number w 0 → (current < length lists → HasDart lists current w) → IsSearching lists (set order count w) (set number w count) last (set parent w current) cursor (count + 1) w
  IsSearching-seen w l unseen dart =
      let room = IsSearching-room w l unseen in
      let put = IsPut-set number w count (omega arith) in
      record {
        orders = length-set order count w ∙ h.orders;
        numbers = length-set number w count ∙ h.numbers;
        lasts = h.lasts;
        parents = length-set parent w current ∙ h.parents;
        cursors = h.cursors;
        state = IsUnderWay-seen lists _ _ _ _ count current h.state _ _ _ w l (unseen_number w l unseen) dart (IsPut-set order count w (omega arith)) put (IsPut-set parent w current (omega arith));
        read = record {
          within = h.read.within;
          seen = λ v i m k. elim (cases_eq (get_or (list_of lists v) i 0) w) [
            | inl e ↦ omega (arith, ap (λ x. get_or (set number w count) x 0) e, put.here)
            | inr ne ↦ omega (arith, put.elsewhere (get_or (list_of lists v) i 0) ne, h.read.seen v i m k)
          ];
        };
      }

  pub work_in-seen : (w : ℕ) → w < length lists → length lists ≤ get_or number w 0 → (current < length lists → HasDart lists current w) → work_in (set number w count) last < work_in number last
  work_in-seen w l unseen dart =
      let room = IsSearching-room w l unseen in
      let less = work_left-seen lists _ _ _ _ count current h.state _ _ _ w l (unseen_number w l unseen) dart (IsPut-set order count w (omega arith)) (IsPut-set number w count (omega arith)) (IsPut-set parent w current (omega arith)) in
      rw (length-set, h.numbers) less

  -- entries of the current vertex are read
  pub IsSearching-read : (place : ℕ) → current < length lists → place ≤ length (list_of lists current) → ((i : ℕ) → get_or cursor current 0 ≤ i → i < place → get_or number (get_or (list_of lists current) i 0) 0 < length lists) → IsSearching lists order number last parent (set cursor current place) count current
  IsSearching-read place c_in within seen =
      let put = IsPut-set cursor current place (omega arith) in
      record {
        orders = h.orders;
        numbers = h.numbers;
        lasts = h.lasts;
        parents = h.parents;
        cursors = length-set cursor current place ∙ h.cursors;
        state = h.state;
        read = record {
          within = λ v m. elim (cases_eq v current) [
            | inl e ↦ omega (arith, ap (λ x. get_or (set cursor current place) x 0) e, put.here, ap (λ x. length (list_of lists x)) e)
            | inr ne ↦ omega (arith, put.elsewhere v ne, h.read.within v m)
          ];
          seen = λ v i m k. elim (cases_eq v current) [
            | inl e ↦ grind (arith, get_or, set, list_of, cases_lt)
            | inr ne ↦ h.read.seen v i m (omega (arith, put.elsewhere v ne))
          ];
        };
      }

  -- where as many were seen as there are, each was
  pub all_seen : length lists ≤ count → (v : ℕ) → v < length lists → get_or number v 0 < length lists
  all_seen most v l =
      let n = length lists in
      let counted : count_below (λ v. ltb (get_or number v 0) n) n ≡ count_below (λ v. true) n = omega (arith, h.state.counted, count_below-le (λ v. ltb (get_or number v 0) n) n, count_below_all n) in
      ltb-true (get_or number v 0) n (weaker_test_back (λ v. ltb (get_or number v 0) n) (λ v. true) n (λ i m p. refl) counted v l refl)

  module _ (in_range : (v u : ℕ) → HasDart lists v u → u < length lists) (c_in : current < length lists) (all : get_or cursor current 0 ≡ length (list_of lists current)) where
    -- all neighbours of the current vertex were seen
    seen_all : (v : ℕ) → HasDart lists current v → get_or number v 0 < length lists
    seen_all v has =
        let s = h.read.seen current has.1.0 c_in (let k = has.1.1 in omega arith) in
        subst (λ x. get_or number x 0 < length lists) (get_or_default (list_of lists current) has.1.0 0 v has.1.1 ∙ has.1.2) s

    -- the current vertex is done
    pub IsSearching-done : IsSearching lists order number (set last current count) parent cursor count (get_or parent current 0)
    IsSearching-done =
        record {
          orders = h.orders;
          numbers = h.numbers;
          lasts = length-set last current count ∙ h.lasts;
          parents = h.parents;
          cursors = h.cursors;
          state = IsUnderWay-done lists _ _ _ _ count current h.state _ c_in seen_all in_range (IsPut-set last current count (omega arith));
          read = h.read;
        }

    pub work_in-done : work_in number (set last current count) < work_in number last
    work_in-done =
        rw h.numbers (work_left-done lists _ _ _ _ count current h.state _ c_in seen_all in_range (IsPut-set last current count (omega arith)))

-- where none is open and all were seen, the search is finished
pub IsForestOf-finished : (lists : Lists) (order number last parent cursor : List ℕ) (count : ℕ) → IsSearching lists order number last parent cursor count (length lists) → ((v : ℕ) → v < length lists → get_or number v 0 < length lists) → IsForestOf lists order number last parent
IsForestOf-finished lists order number last parent cursor count h all = record {
  orders = h.orders;
  numbers = h.numbers;
  lasts = h.lasts;
  parents = h.parents;
  forest = IsForest-finished lists _ _ _ _ count (length lists) h.state all (omega arith);
}

-- which number past the vertices stands for none does not matter
pub IsSearching-at_none : (lists : Lists) (order number last parent cursor : List ℕ) (count current : ℕ) → length lists ≤ current → IsSearching lists order number last parent cursor count current → IsSearching lists order number last parent cursor count (length lists)
IsSearching-at_none lists order number last parent cursor count current none h = grind arith

-- Numbers are kept where a vertex that was not seen gets one.
pub KeepsNumbers-set : (old new : List ℕ) (v count : ℕ) → new ≡ set old v count → length old ≤ get_or old v 0 → KeepsNumbers old new
KeepsNumbers-set old new v count e unseen = λ u l s. elim (cases_eq u v) [
  | inl q ↦ absurd (omega (arith, s, unseen, ap (λ x. get_or old x 0) q))
  | inr ne ↦ ap (λ (xs : List ℕ). get_or xs u 0) e ∙ get_or-set_other old v u count 0 ne
]

-- numbers that are kept, kept further
pub KeepsNumbers-chained : (one two three : List ℕ) → length two ≡ length one → KeepsNumbers one two → KeepsNumbers two three → KeepsNumbers one three
KeepsNumbers-chained one two three same h k = λ v m s.
    k v (omega arith) (omega arith) ∙ (h v m s)

-- the numbers of the first two vertices, which are kept
module _ (n s t zero_count one_count : ℕ) (blank one two now : List ℕ) (z : zero_count ≡ 0) (k : one_count ≡ zero_count + 1) (b : blank ≡ replicate n n) (o : one ≡ set blank s zero_count) (w : two ≡ set one t one_count) (s_in : s < n) (t_in : t < n) (ne : s ≢ t) (keeps : KeepsNumbers two now) where
  size : length two ≡ n
  size = ap length w ∙ (length-set one t one_count ∙ (ap length o ∙ (length-set blank s zero_count ∙ (ap length b ∙ length-replicate {A = ℕ} n n))))

  some : 1 < n
  some = elim (cases_lt 1 n) [ inl l ↦ l | inr m ↦ absurd (ne (omega arith)) ]

  first_of_two : get_or two s 0 ≡ zero_count
  first_of_two = ap (λ (xs : List ℕ). get_or xs s 0) w ∙ (get_or-set_other one t s one_count 0 ne ∙ (ap (λ (xs : List ℕ). get_or xs s 0) o ∙ get_or-set_same blank s zero_count 0 (omega (arith, s_in, ap length b, length-replicate {A = ℕ} n n))))

  second_of_two : get_or two t 0 ≡ one_count
  second_of_two = ap (λ (xs : List ℕ). get_or xs t 0) w ∙ get_or-set_same one t one_count 0 (omega (arith, t_in, ap length w, size, length-set one t one_count))

  pub first_kept : get_or now s 0 ≡ 0
  first_kept = keeps s (omega (arith, size)) (omega (arith, size, some, first_of_two, z)) ∙ (first_of_two ∙ z)

  pub second_kept : get_or now t 0 ≡ 1
  second_kept = keeps t (omega (arith, size)) (omega (arith, size, some, second_of_two, z, k)) ∙ (second_of_two ∙ (k ∙ omega (arith, z)))

-- a second vertex is not seen when the first one is
pub second_unseen : (n s t zero_count : ℕ) (blank one : List ℕ) → blank ≡ replicate n n → one ≡ set blank s zero_count → t < n → s ≢ t → get_or one t 0 ≡ n
second_unseen n s t zero_count blank one b o t_in ne =
    ap (λ (xs : List ℕ). get_or xs t 0) o ∙ (get_or-set_other blank s t zero_count 0 (λ e. ne (sym e)) ∙ (ap (λ (xs : List ℕ). get_or xs t 0) b ∙ get_or-replicate {A = ℕ} n t n 0 t_in))

-- Runs over arcs: their beginning, one arc more, the next vertex, and their end.
use Rattle.std.proofs.Common.{◌≡◌, ◌≢◌, ◌⊎◌, ℕ, zero, suc, ◌+◌, ◌<◌, ◌≤◌, true, false, cond, eqb, List, [], ◌∷◌, ◌++◌, length, get_or, take, Contains, AllPairs, Bool, append_assoc, append-nil, set, length-set, get_or-set_same, get_or-set_other, refl, sym, ap, ◌∙◌, subst, inl, inr, arith, eq-eqb, ne_eqb}
use Rattle.std.proofs.Math.Path.{fun_ext}
use Rattle.std.proofs.Math.Seq.{take-length, get_or-append_seam}
use Rattle.std.proofs.lemmas.Bool.{cases_eq, cases_lt}
use Rattle.std.proofs.lemmas.List.{length-append, get_or_append_left, get_or_default}
use Rattle.std.proofs.lemmas.List.Elements.{Contains-get_or, Contains-append_left, Contains-push, Contains-push_cases}
use Rattle.std.proofs.lemmas.List.Quantifiers.{all_pairs_push}
use Rattle.std.proofs.lemmas.List.Sums.{count_by_more_yes, count_by_more_no, sum_by-take-le}
use Rattle.classes.proofs.Counting.{count_below_all, count_below_into}
use Rattle.map_theory.specs.Maps.{place_of}
use Rattle.map_theory.proofs.DartCounts.{sum_below-same, sum_below}
use Rattle.map_theory.proofs.DartLemmas.{get_or-place_of, place_of-lt-length}
use Rattle.map_theory.proofs.EntryLemmas.{count_of, Contains-counted, Contains-from_count_of}
use Rattle.graph_search.specs.Arcs.{arcs_of, HasArc, IsAcyclic, AreLongest, IsTopological}
use Rattle.graph_search.specs.Progress.{IsRaised, all_into}
use Rattle.graph_search.proofs.Sums.{sum_below-less, sum_below-but, sum_below-none, sum_below-term}
use Rattle.std.specs.Prelude.{◌==◌, if◌then◌else◌, slice_index, count_by}

-- `r` was put at the end of the queue, if nothing waits for it
pub record IsPut (waiting : ℕ) (r : ℕ) (old new : List ℕ) : Type 0 where
  pub put : waiting ≡ 0 → new ≡ old ++ r ∷ []
  pub kept : waiting ≢ 0 → new ≡ old

-- What is changed when the arc from e to r is used.
pub record IsUsed (base e r : ℕ) (number waiting queue number' waiting' queue' : List ℕ) : Type 0 where
  pub numbers : length number' ≡ length number
  pub counters : length waiting' ≡ length waiting
  pub less : slice_index waiting' r + 1 ≡ slice_index waiting r
  pub others : (x : ℕ) → x ≢ r → slice_index waiting' x ≡ slice_index waiting x
  pub at_base : r ≡ base → (number' ≡ number) × (queue' ≡ queue)
  pub raised : r ≢ base → IsRaised number number' e r
  pub put : r ≢ base → IsPut (slice_index waiting' r) r queue queue'

-- how many arcs lead to r, of the first `used e` of each e
abbrev pub used_into : List (List ℕ) → (ℕ → ℕ) → ℕ → ℕ
used_into arcs used r = sum_below (λ e. count_by (λ u. u == r) (take (used e) (arcs_of arcs e))) (length arcs)

-- no arc into r is left, or r is the base
abbrev pub IsFree : ℕ → List ℕ → ℕ → Type 0
IsFree base waiting r = (r ≡ base) ⊎ (slice_index waiting r ≡ 0)

-- The first `used e` arcs of each e have been used.
pub record IsProgress (arcs : List (List ℕ)) (base : ℕ) (used : ℕ → ℕ) (number waiting queue : List ℕ) : Type 0 where
  pub numbers : length number ≡ length arcs
  pub counters : length waiting ≡ length arcs
  pub limits : (e : ℕ) → e < length arcs → used e ≤ length (arcs_of arcs e)
  pub first : slice_index number base ≡ 0
  pub counted : (r : ℕ) → r < length arcs → slice_index waiting r + used_into arcs used r ≡ all_into arcs r
  pub raised : (e i : ℕ) → e < length arcs → i < used e → slice_index (arcs_of arcs e) i ≢ base → slice_index number e < slice_index number (slice_index (arcs_of arcs e) i)
  pub tight : (r : ℕ) → r < length arcs → r ≢ base → (slice_index number r ≡ 0) ⊎ ((e : ℕ) × (i : ℕ) × (e < length arcs) × (i < used e) × (slice_index (arcs_of arcs e) i ≡ r) × (slice_index number r ≡ slice_index number e + 1))
  pub begun : (e : ℕ) → e < length arcs → 0 < used e → Contains queue e
  pub queued : (r : ℕ) → Contains queue r → (r < length arcs) × IsFree base waiting r
  pub all : (r : ℕ) → r < length arcs → IsFree base waiting r → Contains queue r
  pub distinct : AllPairs ◌≢◌ queue
  pub begin : (0 < length queue) × (slice_index queue 0 ≡ base)
  pub earlier : (e r j : ℕ) → HasArc arcs e r → r ≢ base → j < length queue → slice_index queue j ≡ r → (i : ℕ) × (i < j) × (slice_index queue i ≡ e)

-- `used` with another number at e
abbrev pub used_at : (ℕ → ℕ) → ℕ → ℕ → ℕ → ℕ
used_at used e k x = if x == e then k else used x

-- All arcs of the first `head` vertices of the queue have been used, and no others.
pub record IsAt (arcs : List (List ℕ)) (base head : ℕ) (used : ℕ → ℕ) (number waiting queue : List ℕ) : Type 0 where
  pub run : IsProgress arcs base used number waiting queue
  pub done : (j : ℕ) → j < head → j < length queue → used (slice_index queue j) ≡ length (arcs_of arcs (slice_index queue j))
  pub fresh : (e : ℕ) → e < length arcs → 0 < used e → (j : ℕ) × (j < head) × (j < length queue) × (slice_index queue j ≡ e)
  pub low : (x : ℕ) → slice_index number x ≤ head

pub used_at-here : (used : ℕ → ℕ) (e k : ℕ) → used_at used e k e ≡ k
used_at-here used e k = rw (eq-eqb e e refl) refl

pub used_at-other : (used : ℕ → ℕ) (e k x : ℕ) → x ≢ e → used_at used e k x ≡ used x
used_at-other used e k x ne = rw (ne_eqb x e ne) refl

used_at-twice : (used : ℕ → ℕ) (e j k : ℕ) → used_at (used_at used e j) e k ≡ used_at used e k
used_at-twice used e j k = fun_ext (λ x. twice (eqb x e) (used x))
  where
    twice : (b : Bool) (u : ℕ) → cond b k (cond b j u) ≡ cond b k u
    twice true u = refl
    twice false u = refl

-- an entry of a list at a place, as one that the list has
entry_in : (us : List ℕ) (k x : ℕ) → k < length us → get_or us k 0 ≡ x → Contains us x
entry_in us k x l e = subst (Contains us) e (Contains-get_or us k 0 l)

place_in : (us : List ℕ) (x : ℕ) → Contains us x → (k : ℕ) × (k < length us) × (get_or us k 0 ≡ x)
place_in us x c = (c.0, c.1, get_or_default us c.0 0 x c.1 ∙ c.2)

-- fewer are counted in the front of a list
take_fewer : (us : List ℕ) (r k : ℕ) → count_of r (take k us) ≤ count_of r us
take_fewer us r k = sum_by-take-le (λ u. cond (eqb u r) 1 0) us k

entry_counted : (us : List ℕ) (k : ℕ) → k < length us → count_of (get_or us k 0) (take (k + 1) us) ≡ count_of (get_or us k 0) (take k us) + 1
entry_counted us k l = count_by_more_yes (λ u. eqb u (get_or us k 0)) us k 0 l (eq-eqb (get_or us k 0) (get_or us k 0) refl)

other_counted : (us : List ℕ) (k r : ℕ) → k < length us → get_or us k 0 ≢ r → count_of r (take (k + 1) us) ≡ count_of r (take k us)
other_counted us k r l ne = count_by_more_no (λ u. eqb u r) us k 0 l (ne_eqb (get_or us k 0) r ne)

-- an arc is used: one fewer waits at its end, which has a greater number and may be in the queue, if it is not the base
module _ (base e r left : ℕ) (n w q : List ℕ) (r_in : r < length w) (one : left + 1 ≡ get_or w r 0) where
  pub IsUsed-at_base : r ≡ base → IsUsed base e r n w q n (set w r left) q
  IsUsed-at_base b = grind (arith, length-set, get_or-set_same, get_or-set_other)

  pub IsUsed-raised : (n' q' : List ℕ) → r ≢ base → IsRaised n n' e r → IsPut left r q q' → IsUsed base e r n w q n' (set w r left) q'
  IsUsed-raised n' q' nb raised put = grind (arith, length-set, get_or-set_same, get_or-set_other)

-- The first k arcs of e were used since the numbers, counts and queue were n, w and q.
pub record IsVisited (arcs : List (List ℕ)) (base e k : ℕ) (n w q n' w' q' : List ℕ) : Type 0 where
  pub run : (used : ℕ → ℕ) → IsProgress arcs base used n w q → used e ≡ 0 → IsProgress arcs base (used_at used e k) n' w' q'
  pub same : get_or n' e 0 ≡ get_or n e 0
  pub low : (b : ℕ) → ((x : ℕ) → get_or n x 0 ≤ b) → (x : ℕ) → get_or n' x 0 ≤ b + 1
  pub rest : List ℕ
  pub grown : q' ≡ q ++ rest

pub IsVisited-none : (arcs : List (List ℕ)) (base e : ℕ) (n w q : List ℕ) → IsVisited arcs base e 0 n w q n w q
IsVisited-none arcs base e n w q = record {
  run = λ used run z. subst (λ u. IsProgress arcs base u n w q) (fun_ext (λ x. elim (cases_eq x e) [
    | inl s ↦ ap used s ∙ (z ∙ sym (ap (used_at used e 0) s ∙ used_at-here used e 0))
    | inr ne ↦ sym (used_at-other used e 0 x ne)
  ])) run;
  same = refl;
  low = λ b low x. omega (arith, low x);
  rest = [];
  grown = sym (append-nil q);
}

module _ (arcs : List (List ℕ)) (base : ℕ) (a : IsAcyclic arcs base) where
  -- an arc that is left is waited for
  pub some_waits : (used : ℕ → ℕ) (n w q : List ℕ) → IsProgress arcs base used n w q → (e k : ℕ) → e < length arcs → used e ≡ k → k < length (arcs_of arcs e) → 0 < get_or w (get_or (arcs_of arcs e) k 0) 0
  some_waits used n w q run e k le at lk =
      let us = arcs_of arcs e in
      let r = get_or us k 0 in
      let here : count_of r (take (used e) us) < count_of r us =
      omega (arith, ap (λ z. count_of r (take z us)) at, entry_counted us k lk, take_fewer us r (k + 1)) in
      let less = sum_below-less (λ x. count_of r (take (used x) (arcs_of arcs x))) (λ x. count_of r (arcs_of arcs x)) (length arcs) e le (λ x l. take_fewer (arcs_of arcs x) r (used x)) here in
      omega (arith, less, run.counted r (a.within e r (le, Contains-get_or us k 0 lk)))

  pub used_same : (e r : ℕ) → HasArc arcs e r → r ≢ base → e ≢ r
  used_same e r has nb s = let h = a.rising e r has nb in absurd (omega (arith, h, ap a.height s))

  -- the queue grew by r, or stayed
  queue_is : (r : ℕ) (n w q n' w' q' : List ℕ) (e : ℕ) → IsUsed base e r n w q n' w' q' → ((q' ≡ q) × (r ≢ base → get_or w' r 0 ≢ 0)) ⊎ ((q' ≡ q ++ r ∷ []) × (r ≢ base) × (get_or w' r 0 ≡ 0))
  queue_is r n w q n' w' q' e u =
      elim (cases_eq r base) [
        | inl s ↦ inl ((u.at_base s).1, λ nb. absurd (nb s))
        | inr nb ↦ elim (cases_eq (get_or w' r 0) 0) [ inl z ↦ inr ((u.put nb).put z, nb, z) | inr nz ↦ inl ((u.put nb).kept nz, λ d. nz) ]
      ]

  -- one arc more is used
  pub IsProgress-more : (used : ℕ → ℕ) (n w q n' w' q' : List ℕ) (e k : ℕ) → e < length arcs → used e ≡ k → k < length (arcs_of arcs e) → Contains q e → IsProgress arcs base used n w q → IsUsed base e (get_or (arcs_of arcs e) k 0) n w q n' w' q' → IsProgress arcs base (used_at used e (k + 1)) n' w' q'
  IsProgress-more used n w q n' w' q' e k le at lk queued run u =
      let us = arcs_of arcs e in
      let r = get_or us k 0 in
      let lr = a.within e r ((le, Contains-get_or us k 0 lk)) in
      let waits = some_waits used n w q run e k le at lk in
      let now : ℕ → ℕ = used_at used e (k + 1) in
      let here : now e ≡ k + 1 = used_at-here used e (k + 1) in
      let there : (x : ℕ) → x ≢ e → now x ≡ used x = used_at-other used e (k + 1) in
      let more : (x : ℕ) → used x ≤ now x = λ x. elim (cases_eq x e) [ inl s ↦ omega (arith, ap now s, ap used s, here, at) | inr ne ↦ omega (arith, there x ne) ] in
      let begun : (x : ℕ) → x < length arcs → 0 < now x → Contains q x =
      λ x l some. elim (cases_eq x e) [ inl s ↦ subst (Contains q) (sym s) queued | inr ne ↦ run.begun x l (omega (arith, some, there x ne)) ] in
      let left_kept : (x : ℕ) → x < length arcs → 0 < now x → get_or n' x 0 ≡ get_or n x 0 = grind (arith, cases_eq, get_or) in
      let rises : (x : ℕ) → get_or n x 0 ≤ get_or n' x 0 = grind (arith, cases_eq, get_or) in
      let e_kept = left_kept e le (omega (arith, here)) in
      let grown : (x : ℕ) → Contains q x → Contains q' x =
      λ x c. elim (queue_is r n w q n' w' q' e u) [ inl s ↦ subst (λ z. Contains z x) (sym s.0) c | inr s ↦ subst (λ z. Contains z x) (sym s.0) (Contains-append_left q (r ∷ []) x c) ] in
      let free_kept : (x : ℕ) → x ≢ r → get_or w' x 0 ≡ get_or w x 0 = u.others in
      let counted_now : (z : ℕ) → z < length arcs → get_or w' z 0 + used_into arcs now z ≡ all_into arcs z =
      λ z l.
      let f : ℕ → ℕ = λ x. count_of z (take (now x) (arcs_of arcs x)) in
      let g : ℕ → ℕ = λ x. count_of z (take (used x) (arcs_of arcs x)) in
      let sum = sum_below-but f g (length arcs) e le (λ x m ne. ap (λ y. count_of z (take y (arcs_of arcs x))) (there x ne)) in
      let fe : f e ≡ count_of z (take (k + 1) us) = ap (λ y. count_of z (take y us)) here in
      let ge : g e ≡ count_of z (take k us) = ap (λ y. count_of z (take y us)) at in
      let old = run.counted z l in
      elim (cases_eq r z) [
        | inl s ↦ omega (arith, sum, fe, ge, old, subst (λ y. count_of y (take (k + 1) us) ≡ count_of y (take k us) + 1) s (entry_counted us k lk), u.less, ap (λ y. get_or w y 0) s, ap (λ y. get_or w' y 0) s)
        | inr ne ↦ omega (arith, sum, fe, ge, old, other_counted us k z lk ne, u.others z (λ s. ne (sym s)))
      ] in
      let before_new : (x : ℕ) → HasArc arcs x r → get_or w' r 0 ≡ 0 → (i : ℕ) × (i < length q) × (get_or q i 0 ≡ x) =
      λ x has_x z. elim (cases_lt 0 (now x)) [
        | inl some ↦ place_in q x (begun x has_x.0 some)
        | inr none ↦
            let nothing : now x ≡ 0 = omega arith in
            let here_none : count_of r (take (now x) (arcs_of arcs x)) ≡ 0 = ap (λ k. count_of r (take k (arcs_of arcs x))) nothing in
            let less = sum_below-less (λ y. count_of r (take (now y) (arcs_of arcs y))) (λ y. count_of r (arcs_of arcs y)) (length arcs) x has_x.0 (λ y l. take_fewer (arcs_of arcs y) r (now y)) (omega (arith, here_none, Contains-counted r (arcs_of arcs x) has_x.1)) in
            absurd (omega (arith, less, counted_now r lr, z))
      ] in
      record {
        numbers = u_numbers r n n' w w' q q' e u ∙ run.numbers;
        counters = u.counters ∙ run.counters;
        limits = λ x l. elim (cases_eq x e) [ inl s ↦ omega (arith, ap now s, here, lk, ap (λ z. length (arcs_of arcs z)) s) | inr ne ↦ omega (arith, there x ne, run.limits x l) ];
        first = elim (cases_eq r base) [ inl s ↦ ap (λ z. get_or z base 0) (u.at_base s).0 ∙ run.first | inr nb ↦ (u.raised nb).elsewhere base (λ s. nb (sym s)) ∙ run.first ];
        counted = counted_now;
        raised = λ x i l li nb.
            let kept = left_kept x l (omega (arith, li)) in
            let target = get_or (arcs_of arcs x) i 0 in
            grind (arith, cases_lt, cases_eq, get_or, arcs_of);
        tight = λ z l nb.
            let old : get_or n' z 0 ≡ get_or n z 0 → (get_or n' z 0 ≡ 0) ⊎ ((x : ℕ) × (i : ℕ) × (x < length arcs) × (i < now x) × (get_or (arcs_of arcs x) i 0 ≡ z) × (get_or n' z 0 ≡ get_or n' x 0 + 1)) =
            λ s. elim (run.tight z l nb) [
              | inl zero_now ↦ inl (s ∙ zero_now)
              | inr t ↦ inr (t.0, t.1, t.2, omega (arith, t.3, more t.0), t.4, omega (arith, s, t.5, left_kept t.0 t.2 (omega (arith, t.3, more t.0))))
            ] in
            elim (cases_eq r base) [
              | inl s ↦ old (ap (λ y. get_or y z 0) (u.at_base s).0)
              | inr rb ↦ elim (cases_eq z r) [
                | inr ne ↦ old ((u.raised rb).elsewhere z ne)
                | inl s ↦ elim (u.raised rb).here [
                  | inl h ↦ old (omega (arith, h.0, ap (λ y. get_or n y 0) s, ap (λ y. get_or n' y 0) s))
                  | inr h ↦ inr (e, k, le, omega (arith, here), sym s, omega (arith, h.0, e_kept, ap (λ y. get_or n' y 0) s))
                ]
              ]
            ];
        begun = λ x l some. grown x (begun x l some);
        queued = λ x c.
            let of_old : Contains q x → (x < length arcs) × IsFree base w' x =
            λ c'.
            let was = run.queued x c' in (
              was.0,
              elim was.1 [
                | inl b ↦ inl b
                | inr z ↦ elim (cases_eq x r) [ inl s ↦ absurd (omega (arith, waits, z, ap (λ y. get_or w y 0) s)) | inr ne ↦ inr (free_kept x ne ∙ z) ]
              ],
            ) in
            elim (queue_is r n w q n' w' q' e u) [
              | inl s ↦ of_old (subst (λ z. Contains z x) s.0 c)
              | inr s ↦ elim (Contains-push_cases q r x (subst (λ z. Contains z x) s.0 c)) [
                | inl c' ↦ of_old c'
                | inr same ↦ (omega (arith, lr, same), inr (ap (λ y. get_or w' y 0) (sym same) ∙ s.2))
              ]
            ];
        all = λ x l free. elim free [
          | inl b ↦ grown x (run.all x l (inl b))
          | inr z ↦ elim (cases_eq x r) [
            | inr ne ↦ grown x (run.all x l (inr (sym (free_kept x ne) ∙ z)))
            | inl s ↦ elim (queue_is r n w q n' w' q' e u) [
              | inr put ↦ subst (λ y. Contains y x) (sym put.0) (subst (Contains (q ++ r ∷ [])) (sym s) (Contains-push q r))
              | inl kept ↦ elim (cases_eq r base) [ inl b ↦ grown x (run.all x l (inl (s ∙ b))) | inr nb ↦ absurd (kept.1 nb (ap (λ y. get_or w' y 0) (sym s) ∙ z)) ]
            ]
          ]
        ];
        distinct = elim (queue_is r n w q n' w' q' e u) [
          | inl s ↦ subst (AllPairs ◌≢◌) (sym s.0) run.distinct
          | inr s ↦ subst (AllPairs ◌≢◌) (sym s.0) (all_pairs_push ◌≢◌ q r run.distinct (λ j d l same.
              elim (run.queued r (subst (Contains q) same (Contains-get_or q j d l))).1 [ inl b ↦ s.1 b | inr z ↦ absurd (omega (arith, waits, z)) ]))
        ];
        begin = elim (queue_is r n w q n' w' q' e u) [
          | inl s ↦ subst (λ y. (0 < length y) × (get_or y 0 0 ≡ base)) (sym s.0) run.begin
          | inr s ↦ subst (λ y. (0 < length y) × (get_or y 0 0 ≡ base)) (sym s.0) (omega (arith, length-append q (r ∷ [])), get_or_append_left q (r ∷ []) 0 0 run.begin.0 ∙ run.begin.1)
        ];
        earlier = λ x y j has_x nb lj at_j. elim (queue_is r n w q n' w' q' e u) [
          | inl s ↦
              let old = run.earlier x y j has_x nb (omega (arith, lj, ap length s.0)) (ap (λ z. get_or z j 0) (sym s.0) ∙ at_j) in
              (old.0, old.1, ap (λ z. get_or z old.0 0) s.0 ∙ old.2)
          | inr s ↦
              let front : (i : ℕ) → i < length q → get_or q' i 0 ≡ get_or q i 0 = λ i li. ap (λ z. get_or z i 0) s.0 ∙ get_or_append_left q (r ∷ []) 0 i li in
              elim (cases_lt j (length q)) [
                | inl m ↦
                    let old = run.earlier x y j has_x nb m (sym (front j m) ∙ at_j) in
                    (old.0, old.1, front old.0 (omega arith) ∙ old.2)
                | inr m ↦
                    let end : j ≡ length q = omega (arith, lj, m, ap length s.0, length-append q (r ∷ [])) in
                    let is_r : r ≡ y = sym (get_or-append_seam q r [] 0) ∙ (ap (λ z. get_or z (length q) 0) (sym s.0) ∙ (ap (λ k. get_or q' k 0) (sym end) ∙ at_j)) in
                    let old = before_new x (subst (HasArc arcs x) (sym is_r) has_x) s.2 in
                    (old.0, omega (arith, old.1, end), front old.0 old.1 ∙ old.2)
              ]
        ];
      }
    where
      u_numbers : (r : ℕ) (n n' w w' q q' : List ℕ) (e : ℕ) → IsUsed base e r n w q n' w' q' → length n' ≡ length n
      u_numbers r n n' w w' q q' e u = u.numbers

  IsRun-step : (used : ℕ → ℕ) (n w q n' w' q' : List ℕ) (e k : ℕ) → e < length arcs → k < length (arcs_of arcs e) → Contains q e → IsProgress arcs base (used_at used e k) n w q → IsUsed base e (get_or (arcs_of arcs e) k 0) n w q n' w' q' → IsProgress arcs base (used_at used e (k + 1)) n' w' q'
  IsRun-step used n w q n' w' q' e k le lk queued run u =
      subst (λ z. IsProgress arcs base z n' w' q') (used_at-twice used e k (k + 1)) (IsProgress-more (used_at used e k) n w q n' w' q' e k le (used_at-here used e k) lk queued run u)

  -- what one arc does to the number of e, and to the greatest
  IsUsed-same : (n w q n' w' q' : List ℕ) (e r : ℕ) → HasArc arcs e r → IsUsed base e r n w q n' w' q' → get_or n' e 0 ≡ get_or n e 0
  IsUsed-same n w q n' w' q' e r has u =
      elim (cases_eq r base) [
        | inl s ↦ ap (λ z. get_or z e 0) (u.at_base s).0
        | inr nb ↦ (u.raised nb).elsewhere e (used_same e r has nb)
      ]

  IsUsed-low : (n w q n' w' q' : List ℕ) (e r b : ℕ) → IsUsed base e r n w q n' w' q' → get_or n e 0 ≤ b → ((x : ℕ) → get_or n x 0 ≤ b + 1) → (x : ℕ) → get_or n' x 0 ≤ b + 1
  IsUsed-low n w q n' w' q' e r b u le low x = grind (arith, cases_eq, get_or)

  IsUsed-grown : (n w q n' w' q' : List ℕ) (e r : ℕ) → IsUsed base e r n w q n' w' q' → (first : List ℕ) → ((rest : List ℕ) × (q ≡ first ++ rest)) → (rest : List ℕ) × (q' ≡ first ++ rest)
  IsUsed-grown n w q n' w' q' e r u first old =
      elim (queue_is r n w q n' w' q' e u) [
        | inl s ↦ (old.0, s.0 ∙ old.1)
        | inr s ↦ (old.0 ++ r ∷ [], s.0 ∙ (ap (λ z. z ++ r ∷ []) old.1 ∙ append_assoc first old.0 (r ∷ [])))
      ]

  pub IsVisited-more : (n w q n' w' q' n'' w'' q'' : List ℕ) (e k : ℕ) → e < length arcs → k < length (arcs_of arcs e) → Contains q e → IsVisited arcs base e k n w q n' w' q' → IsUsed base e (get_or (arcs_of arcs e) k 0) n' w' q' n'' w'' q'' → IsVisited arcs base e (k + 1) n w q n'' w'' q''
  IsVisited-more n w q n' w' q' n'' w'' q'' e k le lk queued h u =
      let r = get_or (arcs_of arcs e) k 0 in
      let still : Contains q' e = subst (λ z. Contains z e) (sym h.grown) (Contains-append_left q h.rest e queued) in
      let more = IsUsed-grown n' w' q' n'' w'' q'' e r u q (h.rest, h.grown) in
      record {
        run = λ used run z. IsRun-step used n' w' q' n'' w'' q'' e k le lk still (h.run used run z) u;
        same = IsUsed-same n' w' q' n'' w'' q'' e r ((le, Contains-get_or (arcs_of arcs e) k 0 lk)) u ∙ h.same;
        low = λ b low. IsUsed-low n' w' q' n'' w'' q'' e r b u (omega (arith, h.same, low e)) (h.low b low);
        rest = more.0;
        grown = more.1;
      }

  -- nothing is used
  pub IsAt-none : (n w : List ℕ) → length n ≡ length arcs → length w ≡ length arcs → ((x : ℕ) → get_or n x 0 ≡ 0) → ((x : ℕ) → x < length arcs → get_or w x 0 ≡ all_into arcs x) → IsAt arcs base 0 (λ e. 0) n w (base ∷ [])
  IsAt-none n w ln lw zeros all = record {
    run = record {
      numbers = ln;
      counters = lw;
      limits = λ e l. omega arith;
      first = zeros base;
      counted = λ r l. omega (arith, all r l, sum_below-none (λ e. count_of r (take 0 (arcs_of arcs e))) (length arcs) (λ i m. refl));
      raised = λ e i l li nb. absurd (omega arith);
      tight = λ r l nb. inl (zeros r);
      begun = λ e l some. absurd (omega arith);
      queued = λ r c. in_one r c;
      all = λ r l free. elim (cases_eq r base) [
        | inl s ↦ (0, omega arith, sym s)
        | inr nb ↦ elim free [
          | inl s ↦ absurd (nb s)
          | inr z ↦
              let e = a.reached r l nb in
              let term = sum_below-term (λ x. count_of r (arcs_of arcs x)) (length arcs) e.0 e.1.0 in
              absurd (omega (arith, z, all r l, term, Contains-counted r (arcs_of arcs e.0) e.1.1))
        ]
      ];
      distinct = λ i j d less l e. absurd (omega arith);
      begin = (omega arith, refl);
      earlier = λ e r j has nb l at. absurd (nb (sym at ∙ ap (λ j. get_or (base ∷ []) j 0) (let z : j ≡ 0 = omega arith in z)));
    };
    done = λ j less l. absurd (omega arith);
    fresh = λ e l some. absurd (omega arith);
    low = λ x. omega (arith, zeros x);
  }
    where
      in_one : (r : ℕ) → Contains (base ∷ []) r → (r < length arcs) × IsFree base w r
      in_one r (zero, l, e) = (omega (arith, e, a.base_in), inl (sym e))
      in_one r (suc i, l, e) = absurd (omega arith)

  -- the vertex at the head of the queue is not begun
  head_fresh : (head : ℕ) (used : ℕ → ℕ) (n w q : List ℕ) → IsAt arcs base head used n w q → head < length q → used (get_or q head 0) ≡ 0
  head_fresh head used n w q at l =
      let e = get_or q head 0 in
      elim (cases_lt 0 (used e)) [
        | inl some ↦ (let j = at.fresh e ((at.run.queued e (Contains-get_or q head 0 l)).0) some in absurd (at.run.distinct j.0 head 0 j.1 l j.3))
        | inr none ↦ omega arith
      ]

  -- the next vertex is used
  IsAt-more : (head : ℕ) (used : ℕ → ℕ) (n w q n' w' q' : List ℕ) → IsAt arcs base head used n w q → head < length q → IsProgress arcs base (used_at used (get_or q head 0) (length (arcs_of arcs (get_or q head 0)))) n' w' q' → (rest : List ℕ) → q' ≡ q ++ rest → ((x : ℕ) → get_or n' x 0 ≤ head + 1) → IsAt arcs base (head + 1) (used_at used (get_or q head 0) (length (arcs_of arcs (get_or q head 0)))) n' w' q'
  IsAt-more head used n w q n' w' q' at l run rest grown low = grind (arith, get_or, length, arcs_of, length-append, get_or_append_left, cases_eq, used_at, used_at-here, used_at-other)

  -- the vertex e at the head of the queue has all its arcs used next
  module _ (head : ℕ) (used : ℕ → ℕ) (n w q : List ℕ) (at : IsAt arcs base head used n w q) (l : head < length q) (e : ℕ) (is : e ≡ get_or q head 0) where
    pub head_queued : Contains q e
    head_queued = subst (Contains q) (sym is) (Contains-get_or q head 0 l)

    pub head_in : e < length arcs
    head_in = (at.run.queued e head_queued).0

    pub head_run : (k : ℕ) (n' w' q' : List ℕ) → IsVisited arcs base e k n w q n' w' q' → IsProgress arcs base (used_at used e k) n' w' q'
    head_run k n' w' q' h = h.run used at.run (ap used is ∙ head_fresh head used n w q at l)

    pub IsAt-visited : (n' w' q' : List ℕ) → IsVisited arcs base e (length (arcs_of arcs e)) n w q n' w' q' → (now : ℕ → ℕ) × IsAt arcs base (head + 1) now n' w' q'
    IsAt-visited n' w' q' h = (
      used_at used (get_or q head 0) (length (arcs_of arcs (get_or q head 0))),
      IsAt-more head used n w q n' w' q' at l (subst (λ z. IsProgress arcs base (used_at used z (length (arcs_of arcs z))) n' w' q') is (head_run (length (arcs_of arcs e)) n' w' q' h)) h.rest h.grown (h.low head at.low),
    )

  -- no vertex is left at the head of the queue
  pub IsAt-passed : (head : ℕ) (used : ℕ → ℕ) (n w q : List ℕ) → length q ≤ head → IsAt arcs base head used n w q → IsAt arcs base (head + 1) used n w q
  IsAt-passed head used n w q past at = grind arith

  -- the end: all arcs are used
  module _ (used : ℕ → ℕ) (n w q : List ℕ) (at : IsAt arcs base (length arcs) used n w q) where
    few_queued : length q ≤ length arcs
    few_queued =
        let into = count_below_into (λ i. get_or q i 0) (λ i. true) (λ i. true) (length q) (length arcs)
        (λ i l t. ((at.run.queued (get_or q i 0) (Contains-get_or q i 0 l)).0, refl))
        (λ i j l m t t' e. elim (cases_lt i j) [
          | inl less ↦ absurd (at.run.distinct i j 0 less m e)
          | inr most ↦ elim (cases_lt j i) [ inl less ↦ absurd (at.run.distinct j i 0 less l (sym e)) | inr most' ↦ omega arith ]
        ]) in
        omega (arith, into, count_below_all (length q), count_below_all (length arcs))

    free_done : (e : ℕ) → e < length arcs → IsFree base w e → used e ≡ length (arcs_of arcs e)
    free_done e l free =
        let j = place_in q e (at.run.all e l free) in
        subst (λ z. used z ≡ length (arcs_of arcs z)) j.2 (at.done j.0 (omega (arith, j.1, few_queued)) j.1)

    -- by height, each vertex is done
    all_done : (bound e : ℕ) → e < length arcs → a.height e < bound → used e ≡ length (arcs_of arcs e)
    all_done zero e l less = absurd (omega arith)
    all_done (suc bound) e l less =
        elim (cases_eq e base) [
          | inl s ↦ free_done e l (inl s)
          | inr nb ↦
              let same = sum_below-same (λ x. count_of e (take (used x) (arcs_of arcs x))) (λ x. count_of e (arcs_of arcs x)) (length arcs)
              (λ x lx. elim (cases_lt 0 (count_of e (arcs_of arcs x))) [
                | inl some ↦
                    let done = all_done bound x lx (omega (arith, less, a.rising x e ((lx, Contains-from_count_of e (arcs_of arcs x) some)) nb)) in
                    ap (count_of e) (ap (λ k. take k (arcs_of arcs x)) done ∙ take-length (arcs_of arcs x))
                | inr none ↦ omega (arith, none, take_fewer (arcs_of arcs x) e (used x))
              ]) in
              free_done e l (inr (omega (arith, same, at.run.counted e l)))
        ]

    pub AreLongest-from : AreLongest arcs base n
    AreLongest-from =
        let more : (e r : ℕ) → HasArc arcs e r → r ≢ base → get_or n e 0 < get_or n r 0 =
        λ e r has nb.
        let k = place_in (arcs_of arcs e) r has.1 in
        let done = all_done (a.height e + 1) e has.0 (omega arith) in
        omega (arith, at.run.raised e k.0 has.0 (omega (arith, k.1, done)) (λ s. nb (sym k.2 ∙ s)), ap (λ z. get_or n z 0) k.2) in
        record {
          count = at.run.numbers;
          first = at.run.first;
          greatest = more;
          one_more = λ r l nb. elim (at.run.tight r l nb) [
            | inl z ↦ (let e = a.reached r l nb in absurd (omega (arith, z, more e.0 r e.1 nb)))
            | inr t ↦ (t.0, (t.2, entry_in (arcs_of arcs t.0) t.1 r (omega (arith, t.3, at.run.limits t.0 t.2)) t.4), t.5)
          ];
        }

    -- nothing is left into any vertex, so each is in the queue
    all_queued : (e : ℕ) → e < length arcs → Contains q e
    all_queued e l = grind (arith, cases_eq, sum_below-same, count_of, take, arcs_of, length, all_done, take-length)

    many_queued : length arcs ≤ length q
    many_queued =
        let into = count_below_into (λ e. place_of e q) (λ i. true) (λ i. true) (length arcs) (length q)
        (λ e l t. (place_of-lt-length e q (all_queued e l), refl))
        (λ e r l m t t' same. sym (get_or-place_of e q 0 (place_of-lt-length e q (all_queued e l))) ∙ (ap (λ k. get_or q k 0) same ∙ get_or-place_of r q 0 (place_of-lt-length r q (all_queued r m)))) in
        omega (arith, into, count_below_all (length q), count_below_all (length arcs))

    pub IsTopological-from : IsTopological arcs base q
    IsTopological-from = record {
      count = omega (arith, few_queued, many_queued);
      vertices = λ k d l. (at.run.queued (get_or q k d) (Contains-get_or q k d l)).0;
      once = at.run.distinct;
      first = at.run.begin.1;
      before = λ e r has nb.
          let j = place_in q r (all_queued r (a.within e r has)) in
          let i = at.run.earlier e r j.0 has nb j.1 j.2 in
          (i.0, j.0, i.1, j.1, i.2, j.2);
    }

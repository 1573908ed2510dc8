-- Marks that are set and taken away, the counts of marked neighbours, and what a mark puts on the stack.
use Rattle.std.proofs.Common.{◌≡◌, ◌≢◌, ◌⊎◌, ◌↔◌, ◌&&◌, ℕ, ◌+◌, ◌-◌, ◌<◌, ◌≤◌, Bool, true, false, not, cond, eqb, List, [], ◌∷◌, length, get_or, take, set, count_by, filter, Contains, All, AllPairs, refl, sym, ap, ap₂, ◌∙◌, subst, inl, inr, arith, ltb, lt-ltb, ltb-true, eq-eqb, ne_eqb, length-set, get_or-set_same, get_or-set_other, Result, Ok, Err, IfOk}
use Rattle.std.proofs.Math.Seq.{take-length}
use Rattle.std.proofs.lemmas.Bool.{cases_eq, cases_lt, cases_Bool, true≢false, false≢true, and_parts, and_from, and_right, not-true}
use Rattle.std.proofs.lemmas.List.{get_or_past, get_or_default, take_more, length-take-le, get_or-take}
use Rattle.std.proofs.lemmas.List.Sums.{sum_by-cons, count_by-le-length}
use Rattle.std.proofs.lemmas.List.Elements.{Contains-append_left, Contains-append_right, Contains-append_cases, Contains-get_or}
use Rattle.std.proofs.Math.Bool.{and-true}
use Rattle.map_lists.specs.Lists.{Lists}
use Rattle.map_theory.specs.Maps.{IsSimpleMap, list_of}
use Rattle.map_theory.proofs.DartCounts.{length-le-below}
use Rattle.map_theory.proofs.EntryLemmas.{count_of, count_of-le-one, Contains-from_count_of, Contains-counted, Contains-here, Contains-filter, Contains-from_filter}
use Rattle.plane_peeling.specs.Restricted.{kept_but}
use Rattle.plane_peeling.proofs.RestrictedMaps.{cases_Contains, restricted-old, restricted-new, kept_but-itself}
use Rattle.plane_peeling.proofs.Rings.{each_of_one, each_of_three}
use Rattle.canon_order.specs.Marks.{is_set, is_untouched, kept_of, IsTally, IsUnmarked, IsNoted, IsTaken}
use Rattle.canon_order.specs.Lefts.{IsCycleAfter}
use Rattle.canon_order.proofs.Counters.{counted_before}

-- four facts on a success make a fifth
pub IfOk-of_noted : {T E : Type 0} (r : Result T E) (P Q R S U : T → Type 0) → ((x : T) → P x → Q x → R x → S x → U x) → IfOk r P → IfOk r Q → IfOk r R → IfOk r S → IfOk r U
IfOk-of_noted (Ok x) P Q R S U f p q r s = f x p q r s
IfOk-of_noted (Err e) P Q R S U f p q r s = tt

-- a test that passes at one number more counts that number too
count_by-more : (p q : ℕ → Bool) (v : ℕ) → p v ≡ false → q v ≡ true → ((u : ℕ) → u ≢ v → q u ≡ p u) → (us : List ℕ) → count_by q us ≡ count_by p us + count_of v us
count_by-more p q v fails passes same [] = refl
count_by-more p q v fails passes same (x ∷ us) =
    let rest = count_by-more p q v fails passes same us in
    let sp = sum_by-cons (λ u. cond (p u) 1 0) x us in
    let sq = sum_by-cons (λ u. cond (q u) 1 0) x us in
    let sv = sum_by-cons (λ u. cond (eqb u v) 1 0) x us in
    elim (cases_eq x v) [
      | inl e ↦
          omega (arith, rest, sp, sq, sv, ap {B = ℕ} (λ b. cond b 1 0) (ap p e ∙ fails), ap {B = ℕ} (λ b. cond b 1 0) (ap q e ∙ passes), ap {B = ℕ} (λ b. cond b 1 0) (eq-eqb x v e))
      | inr ne ↦ omega (arith, rest, sp, sq, sv, ap {B = ℕ} (λ b. cond b 1 0) (same x ne), ap {B = ℕ} (λ b. cond b 1 0) (ne_eqb x v ne))
    ]

-- marks after one was written
pub is_set-here : (marks : List Bool) (v : ℕ) (b : Bool) → v < length marks → is_set (set marks v b) v ≡ b
is_set-here marks v b l = get_or-set_same marks v b false l

pub is_set-other : (marks : List Bool) (v u : ℕ) (b : Bool) → u ≢ v → is_set (set marks v b) u ≡ is_set marks u
is_set-other marks v u b ne = get_or-set_other marks v u b false ne

-- what is marked is among what has marks
pub is_set-lt : (marks : List Bool) (v : ℕ) → is_set marks v ≡ true → v < length marks
is_set-lt marks v t = elim (cases_lt v (length marks)) [ inl l ↦ l | inr l ↦ absurd (false≢true (sym (get_or_past marks v false l) ∙ t)) ]

-- no marks
count_by-none : (p : ℕ → Bool) → ((u : ℕ) → p u ≡ false) → (us : List ℕ) → count_by p us ≡ 0
count_by-none p none [] = refl
count_by-none p none (x ∷ us) = omega (arith, count_by-none p none us, sum_by-cons (λ u. cond (p u) 1 0) x us, ap {B = ℕ} (λ b. cond b 1 0) (none x))

pub IsTally-none : (lists : Lists) (marks : List Bool) (counts : List ℕ) → IsUnmarked lists marks counts → IsTally lists marks counts
IsTally-none lists marks counts h = record {
  marks_of_all = h.marks_of_all;
  counts_of_all = h.counts_of_all;
  counted = λ v l. h.zeros v l ∙ sym (count_by-none (is_set marks) h.none (list_of lists v));
}

module _ (lists : Lists) (simple : IsSimpleMap lists) where
  -- v stands in w's list as often as w in v's
  counted_both : (v w : ℕ) → v < length lists → w < length lists → count_of v (list_of lists w) ≡ count_of w (list_of lists v)
  counted_both v w l m =
      let one = count_of-le-one v (list_of lists w) (simple.no_repeat w m) in
      let other = count_of-le-one w (list_of lists v) (simple.no_repeat v l) in
      elim (cases_lt (count_of v (list_of lists w)) 1) [
        | inl none ↦ elim (cases_lt (count_of w (list_of lists v)) 1) [
          | inl none' ↦ omega arith
          | inr some ↦
              absurd (omega (arith, none, Contains-counted v (list_of lists w) (simple.both_ways v w (l, Contains-from_count_of w (list_of lists v) some)).1))
        ]
        | inr some ↦ omega (arith, one, other, some, Contains-counted w (list_of lists v) (simple.both_ways w v (m, Contains-from_count_of v (list_of lists w) some)).1)
      ]

  -- the neighbours of a vertex are vertices
  pub list_within : (v : ℕ) → v < length lists → All (λ u. u < length lists) (list_of lists v)
  list_within v l = λ k d m. simple.in_range v (get_or (list_of lists v) k d) (l, Contains-get_or (list_of lists v) k d m)

  module _ (marks : List Bool) (counts : List ℕ) (v : ℕ) (l : v < length lists) (h : IsTally lists marks counts) where
    -- no count is too great for one more
    pub room : length lists < 4096 → (w : ℕ) → get_or counts w 0 + count_of w (list_of lists v) < 65536
    room few w =
        let one = count_of-le-one w (list_of lists v) (simple.no_repeat v l) in
        elim (cases_lt w (length lists)) [
          | inl m ↦
              let short = length-le-below (list_of lists w) (length lists) (λ u c. simple.in_range w u (m, c)) (simple.no_repeat w m) in
              omega (arith, count_by-le-length (is_set marks) (list_of lists w), h.counted w m)
          | inr past ↦ let n = h.counts_of_all in omega (arith, get_or_past counts w 0 (omega arith))
        ]

    -- each neighbour of a marked vertex counts it
    pub some : is_set marks v ≡ true → (w : ℕ) → w < length counts → count_of w (list_of lists v) ≤ get_or counts w 0
    some passes w k =
        let k' : w < length lists = omega arith in
        let count = count_by-more (is_set (set marks v false)) (is_set marks) v (is_set-here marks v false (omega arith)) passes (λ u ne. sym (is_set-other marks v u false ne)) (list_of lists w) in
        omega (arith, count, counted_both v w l k', h.counted w k')

    module _ (counts' : List ℕ) (n : length counts' ≡ length counts) where
      -- one is marked
      pub IsTally-marked : is_set marks v ≡ false → ((w : ℕ) → w < length counts → get_or counts' w 0 ≡ get_or counts w 0 + count_of w (list_of lists v)) → IsTally lists (set marks v true) counts'
      IsTally-marked fails more =
          let m = h.marks_of_all in
          let c = h.counts_of_all in
          record {
            marks_of_all = length-set marks v true ∙ m;
            counts_of_all = n ∙ c;
            counted = λ w k.
                let count = count_by-more (is_set marks) (is_set (set marks v true)) v fails (is_set-here marks v true (omega arith)) (λ u ne. is_set-other marks v u true ne) (list_of lists w) in
                omega (arith, count, counted_both v w l k, more w (omega arith), h.counted w k);
          }

      -- one loses its mark
      pub IsTally-unmarked : is_set marks v ≡ true → ((w : ℕ) → w < length counts → get_or counts' w 0 + count_of w (list_of lists v) ≡ get_or counts w 0) → IsTally lists (set marks v false) counts'
      IsTally-unmarked passes less =
          let m = h.marks_of_all in
          let c = h.counts_of_all in
          record {
            marks_of_all = length-set marks v false ∙ m;
            counts_of_all = n ∙ c;
            counted = λ w k.
                let count = count_by-more (is_set (set marks v false)) (is_set marks) v (is_set-here marks v false (omega arith)) passes (λ u ne. sym (is_set-other marks v u false ne)) (list_of lists w) in
                omega (arith, count, counted_both v w l k, less w (omega arith), h.counted w k);
          }

      -- what is no neighbour keeps its count
      not_counted : (u : ℕ) → ¬ Contains (list_of lists v) u → count_of u (list_of lists v) ≡ 0
      not_counted u none = elim (cases_lt (count_of u (list_of lists v)) 1) [ inl z ↦ omega arith | inr some ↦ absurd (none (Contains-from_count_of u (list_of lists v) some)) ]

      pub elsewhere-marked : ((w : ℕ) → w < length counts → get_or counts' w 0 ≡ get_or counts w 0 + count_of w (list_of lists v)) → (u : ℕ) → ¬ Contains (list_of lists v) u → get_or counts' u 0 ≡ get_or counts u 0
      elsewhere-marked more u none = elim (cases_lt u (length counts)) [
        | inl m ↦ omega (arith, more u m, not_counted u none)
        | inr past ↦ get_or_past counts' u 0 (omega arith) ∙ sym (get_or_past counts u 0 past)
      ]

      pub elsewhere-unmarked : ((w : ℕ) → w < length counts → get_or counts' w 0 + count_of w (list_of lists v) ≡ get_or counts w 0) → (u : ℕ) → ¬ Contains (list_of lists v) u → get_or counts' u 0 ≡ get_or counts u 0
      elsewhere-unmarked less u none = elim (cases_lt u (length counts)) [
        | inl m ↦ omega (arith, less u m, not_counted u none)
        | inr past ↦ get_or_past counts' u 0 (omega arith) ∙ sym (get_or_past counts u 0 past)
      ]

-- one mark
pub IsNoted-marked : (lists : Lists) (marked : List Bool) (near stack : List ℕ) (v : ℕ) (marked' : List Bool) (near' stack' : List ℕ) → marked' ≡ set marked v true → IsTally lists marked' near' → ((u : ℕ) → ¬ Contains (list_of lists v) u → get_or near' u 0 ≡ get_or near u 0) → All (λ u. u < length lists) stack' → ((u : ℕ) → Contains stack u → Contains stack' u) → (get_or near' v 0 ≡ 2 → Contains stack' v) → ((u : ℕ) → Contains (list_of lists v) u → is_set marked' u ≡ true → get_or near' u 0 ≡ 2 → Contains stack' u) → IsNoted lists marked near stack marked' near' stack'
IsNoted-marked lists marked near stack v marked' near' stack' e tally elsewhere vertices kept own neighbours = record {
  tally = tally;
  vertices = vertices;
  kept = kept;
  noted = λ u on two. elim (cases_eq u v) [
    | inl q ↦ inl (subst (Contains stack') (sym q) (own (subst (λ z. get_or near' z 0 ≡ 2) q two)))
    | inr ne ↦ elim (cases_Contains (list_of lists v) u) [
      | inl c ↦ inl (neighbours u c on two)
      | inr none ↦ inr (sym (ap (λ m. is_set m u) e ∙ is_set-other marked v u true ne) ∙ on, elsewhere u none)
    ]
  ];
}

-- one mark less
pub IsNoted-unmarked : (lists : Lists) (marked : List Bool) (near stack : List ℕ) (v : ℕ) (marked' : List Bool) (near' stack' : List ℕ) → v < length marked → marked' ≡ set marked v false → IsTally lists marked' near' → ((u : ℕ) → ¬ Contains (list_of lists v) u → get_or near' u 0 ≡ get_or near u 0) → All (λ u. u < length lists) stack' → ((u : ℕ) → Contains stack u → Contains stack' u) → ((u : ℕ) → Contains (list_of lists v) u → is_set marked' u ≡ true → get_or near' u 0 ≡ 2 → Contains stack' u) → IsNoted lists marked near stack marked' near' stack'
IsNoted-unmarked lists marked near stack v marked' near' stack' l e tally elsewhere vertices kept neighbours = record {
  tally = tally;
  vertices = vertices;
  kept = kept;
  noted = λ u on two. elim (cases_Contains (list_of lists v) u) [
    | inl c ↦ inl (neighbours u c on two)
    | inr none ↦
        let on' : is_set (set marked v false) u ≡ true = sym (ap (λ m. is_set m u) e) ∙ on in
        let ne : u ≢ v = λ z. true≢false (sym on' ∙ (ap (is_set (set marked v false)) z ∙ is_set-here marked v false l)) in
        inr (sym (is_set-other marked v u false ne) ∙ on', elsewhere u none)
  ];
}

-- the vertex v has no mark any more, and one was taken away for each entry of its list
pub IsNoted-lowered : (lists : Lists) → IsSimpleMap lists → (marked : List Bool) (near stack : List ℕ) (v : ℕ) → v < length lists → IsTally lists marked near → All (λ u. u < length lists) stack → is_set marked v ≡ true → (list : List ℕ) → list ≡ list_of lists v → (near' stack' : List ℕ) → length near' ≡ length near → ((w : ℕ) → w < length near → get_or near' w 0 + count_of w list ≡ get_or near w 0) → ((w : ℕ) → Contains stack w → Contains stack' w) → ((n : ℕ) → All (λ w. w < n) list → All (λ w. w < n) stack → All (λ w. w < n) stack') → ((w : ℕ) → Contains list w → is_set (set marked v false) w ≡ true → get_or near' w 0 ≡ 2 → Contains stack' w) → IsNoted lists marked near stack (set marked v false) near' stack'
IsNoted-lowered lists simple marked near stack v vertex tally vertices on list is near' stack' same counts kept below noted =
    let own = subst (λ (us : List ℕ). (w : ℕ) → w < length near → get_or near' w 0 + count_of w us ≡ get_or near w 0) is counts in
    IsNoted-unmarked lists marked near stack v _ near' stack' (let m = tally.marks_of_all in omega arith) refl
    (IsTally-unmarked lists simple marked near v vertex tally near' same on own)
    (elsewhere-unmarked lists simple marked near v vertex tally near' same own)
    (below (length lists) (subst (λ (us : List ℕ). All (λ u. u < length lists) us) (sym is) (list_within lists simple v vertex)) vertices)
    kept
    (λ u has alive two. noted u (subst (λ (us : List ℕ). Contains us u) (sym is) has) alive two)

-- nothing changed
pub IsNoted-none : (lists : Lists) (marked : List Bool) (near stack : List ℕ) → IsTally lists marked near → All (λ u. u < length lists) stack → IsNoted lists marked near stack marked near stack
IsNoted-none lists marked near stack tally vertices = record { tally = tally; vertices = vertices; kept = λ u c. c; noted = λ u on two. inr (on, refl) }

-- one after another
pub IsNoted-chained : (lists : Lists) (m0 : List Bool) (n0 s0 : List ℕ) (m1 : List Bool) (n1 s1 : List ℕ) (m2 : List Bool) (n2 s2 : List ℕ) → IsNoted lists m0 n0 s0 m1 n1 s1 → IsNoted lists m1 n1 s1 m2 n2 s2 → IsNoted lists m0 n0 s0 m2 n2 s2
IsNoted-chained lists m0 n0 s0 m1 n1 s1 m2 n2 s2 one two = grind arith

-- one more entry counted and noted
pub noted-more : (marked : List Bool) (us near near' stack stack' : List ℕ) (i : ℕ) → i < length us → ((w : ℕ) → w ≢ get_or us i 0 → get_or near' w 0 ≡ get_or near w 0) → ((w : ℕ) → Contains stack w → Contains stack' w) → (is_set marked (get_or us i 0) ≡ true → get_or near' (get_or us i 0) 0 ≡ 2 → Contains stack' (get_or us i 0)) → ((w : ℕ) → Contains (take i us) w → is_set marked w ≡ true → get_or near w 0 ≡ 2 → Contains stack w) → (w : ℕ) → Contains (take (i + 1) us) w → is_set marked w ≡ true → get_or near' w 0 ≡ 2 → Contains stack' w
noted-more marked us near near' stack stack' i l other kept own before w c on two =
    let x = get_or us i 0 in
    elim (cases_eq w x) [
      | inl q ↦ subst (Contains stack') (sym q) (own (subst (λ z. is_set marked z ≡ true) q on) (subst (λ z. get_or near' z 0 ≡ 2) q two))
      | inr ne ↦ elim (Contains-append_cases (take i us) (x ∷ []) w (subst (λ (vs : List ℕ). Contains vs w) (take_more us i 0 l) c)) [
        | inl c' ↦ kept w (before w c' on (sym (other w ne) ∙ two))
        | inr c' ↦ absurd (ne (each_of_one (λ z. z ≡ x) x refl w c'))
      ]
    ]

-- where all entries were noted
pub noted-all : (marked : List Bool) (us near stack : List ℕ) (i : ℕ) → i ≡ length us → ((w : ℕ) → Contains (take i us) w → is_set marked w ≡ true → get_or near w 0 ≡ 2 → Contains stack w) → (w : ℕ) → Contains us w → is_set marked w ≡ true → get_or near w 0 ≡ 2 → Contains stack w
noted-all marked us near stack i all h = subst (λ (vs : List ℕ). (w : ℕ) → Contains vs w → is_set marked w ≡ true → get_or near w 0 ≡ 2 → Contains stack w) (ap (λ k. take k us) all ∙ take-length us) h

-- what no entry of a list adds to some marks
pub marks-none : (p passes : ℕ → Type 0) (us : List ℕ) (u : ℕ) → p u ↔ (p u ⊎ (Contains (take 0 us) u × passes u))
marks-none p passes us u = (λ t. inl t, λ e. elim e [ inl t ↦ t | inr c ↦ absurd (omega (arith, c.0.1)) ])

-- one more of a list marked, if it passes
pub marks-more : (p0 p1 p2 passes : ℕ → Type 0) (us : List ℕ) (i : ℕ) → i < length us → ((u : ℕ) → p1 u ↔ (p0 u ⊎ (Contains (take i us) u × passes u))) → ((u : ℕ) → p2 u ↔ (p1 u ⊎ ((u ≡ get_or us i 0) × passes u))) → (u : ℕ) → p2 u ↔ (p0 u ⊎ (Contains (take (i + 1) us) u × passes u))
marks-more p0 p1 p2 passes us i l one two u =
    let more = take_more us i 0 l in
    let x = get_or us i 0 in (
      (λ t. elim ((two u).0 t) [
        | inl t' ↦ elim ((one u).0 t') [ inl t'' ↦ inl t'' | inr c ↦ inr (subst (λ (vs : List ℕ). Contains vs u) (sym more) (Contains-append_left (take i us) (x ∷ []) u c.0), c.1) ]
        | inr e ↦ inr (subst (λ (vs : List ℕ). Contains vs u) (sym more) (Contains-append_right (take i us) (x ∷ []) u (subst (λ z. Contains (x ∷ []) z) (sym e.0) (Contains-here x []))), e.1)
      ]),
      λ h. (two u).1 (elim h [
        | inl t ↦ inl ((one u).1 (inl t))
        | inr c ↦ elim (Contains-append_cases (take i us) (x ∷ []) u (subst (λ (vs : List ℕ). Contains vs u) more c.0)) [
          | inl c' ↦ inl ((one u).1 (inr (c', c.1)))
          | inr c' ↦ inr (each_of_one (λ z. z ≡ x) x refl u c', c.1)
        ]
      ]),
    )

-- one more marked, if it passes
pub marks-one : (marked marked' : List Bool) (v : ℕ) (passes : ℕ → Type 0) → v < length marked → marked' ≡ set marked v true → passes v → (u : ℕ) → (is_set marked' u ≡ true) ↔ ((is_set marked u ≡ true) ⊎ ((u ≡ v) × passes u))
marks-one marked marked' v passes l e p u = (
  λ t. elim (cases_eq u v) [
    | inl q ↦ inr (q, subst passes (sym q) p)
    | inr ne ↦ inl (sym (is_set-other marked v u true ne) ∙ (sym (ap (λ m. is_set m u) e) ∙ t))
  ],
  λ h. ap (λ m. is_set m u) e ∙ elim (cases_eq u v) [
    | inl q ↦ ap (is_set (set marked v true)) q ∙ is_set-here marked v true l
    | inr ne ↦ is_set-other marked v u true ne ∙ elim h [ inl t ↦ t | inr here ↦ absurd (ne here.0) ]
  ],
)

-- an entry of a list without repeats is not among those before it
pub not_before : (us : List ℕ) (i : ℕ) → i < length us → AllPairs ◌≢◌ us → ¬ Contains (take i us) (get_or us i 0)
not_before us i l distinct c =
    omega (arith, counted_before us i l, count_of-le-one (get_or us i 0) us distinct, Contains-counted (get_or us i 0) (take i us) c)

-- what is untouched has no mark
pub untouched-unmarked : (marked gone : List Bool) (u : ℕ) → is_untouched marked gone u ≡ true → is_set marked u ≡ false
untouched-unmarked marked gone u t = elim (cases_Bool (is_set marked u)) [
  | inl on ↦ absurd (false≢true (sym (ap (λ b. not b && not (is_set gone u)) on) ∙ t))
  | inr off ↦ off
]

-- and it is not gone
pub untouched-left : (marked gone : List Bool) (u : ℕ) → is_untouched marked gone u ≡ true → is_set gone u ≡ false
untouched-left marked gone u t = elim (cases_Bool (is_set gone u)) [
  | inl on ↦ absurd (false≢true (sym (ap₂ (λ a b. not a && not b) (untouched-unmarked marked gone u t) on) ∙ t))
  | inr off ↦ off
]

-- marking the untouched ones of a list is marking all of it that are not gone
pub marks-untouched : (marked gone : List Bool) (us fresh : List ℕ) (p : ℕ → Type 0) → fresh ≡ filter (is_untouched marked gone) us → ((u : ℕ) → p u ↔ ((is_set marked u ≡ true) ⊎ (Contains fresh u × (is_set gone u ≡ false)))) → (u : ℕ) → p u ↔ ((is_set marked u ≡ true) ⊎ (Contains us u × (is_set gone u ≡ false)))
marks-untouched marked gone us fresh p is h u = (
  λ t. elim ((h u).0 t) [
    | inl on ↦ inl on
    | inr c ↦ inr ((Contains-from_filter (is_untouched marked gone) us u (subst (λ (xs : List ℕ). Contains xs u) is c.0)).0, c.1)
  ],
  λ e. elim e [
    | inl on ↦ (h u).1 (inl on)
    | inr c ↦ elim (cases_Bool (is_set marked u)) [
      | inl on ↦ (h u).1 (inl on)
      | inr off ↦ (h u).1 (inr (subst (λ (xs : List ℕ). Contains xs u) (sym is) (Contains-filter (is_untouched marked gone) us u c.0 (ap₂ (λ a b. not a && not b) off c.1)), c.1))
    ]
  ],
)

-- all but the last entry of a stack
pub Contains-but_last : (us : List ℕ) (last u : ℕ) → last ≡ get_or us (length us - 1) last → Contains us u → u ≢ last → Contains (take (length us - 1) us) u
Contains-but_last us last u e c ne = grind (arith, cases_eq, length, get_or_default, get_or, length-take-le, get_or-take)

-- three marked
pub three_marked : (marked : List Bool) (s d t : ℕ) → ((u : ℕ) → is_set marked u ≡ false) → s < length marked → d < length marked → t < length marked → (u : ℕ) → (is_set (set (set (set marked s true) d true) t true) u ≡ true) ↔ Contains (s ∷ d ∷ t ∷ []) u
three_marked marked s d t none ls ld lt u = grind (arith, set, length-set, cases_eq, Contains, is_set, is_set-here, is_set-other, false≢true, each_of_three)

-- what is left
pub kept_of-parts : (gone : List Bool) (u : ℕ) → kept_of gone u ≡ true → (u < length gone) × (is_set gone u ≡ false)
kept_of-parts gone u e =
    let parts = and_parts (ltb u (length gone)) (not (is_set gone u)) e in
    (ltb-true u (length gone) parts.0, not-true (is_set gone u) parts.1)

pub kept_of-from : (gone : List Bool) (u : ℕ) → u < length gone → is_set gone u ≡ false → kept_of gone u ≡ true
kept_of-from gone u l e = and_from (ltb u (length gone)) (not (is_set gone u)) (lt-ltb u (length gone) l) (ap not e)

pub gone_of-false : (gone : List Bool) (u : ℕ) → u < length gone → kept_of gone u ≡ false → is_set gone u ≡ true
gone_of-false gone u l e = elim (cases_Bool (is_set gone u)) [ inl t ↦ t | inr f ↦ absurd (true≢false (sym (kept_of-from gone u l f) ∙ e)) ]

-- one vertex less
pub kept_of-set : (gone : List Bool) (v : ℕ) → v < length gone → kept_but (kept_of gone) v ≡ kept_of (set gone v true)
kept_of-set gone v l =
    let same : (u : ℕ) → kept_but (kept_of gone) v u ≡ kept_of (set gone v true) u = λ u.
    elim (cases_eq u v) [
      | inl e ↦
          ap (kept_but (kept_of gone) v) e ∙ (kept_but-itself (kept_of gone) v
          ∙ sym (ap (kept_of (set gone v true)) e ∙ and_right (ltb v (length (set gone v true))) (not (is_set (set gone v true) v)) (ap not (is_set-here gone v true l))))
      | inr ne ↦
          ap (λ b. kept_of gone u && not b) (ne_eqb u v ne) ∙ (and-true (kept_of gone u)
          ∙ sym (ap₂ (λ n b. ltb u n && not b) (length-set gone v true) (is_set-other gone v u true ne)))
    ] in
    λ i u. same u i

-- what is marked after a vertex is taken off
pub marks_after : (C : Lists) (gone marked : List Bool) (v : ℕ) (gone' marked' : List Bool) (ws after : List ℕ) → IsSimpleMap C → v < length C → length gone ≡ length C → length marked ≡ length C → kept_of gone v ≡ true → IsCycleAfter C (kept_of gone) v ws after → ((u : ℕ) → (is_set marked u ≡ true) ↔ Contains ws u) → IsTaken C v marked gone marked' gone' → (u : ℕ) → (is_set marked' u ≡ true) ↔ Contains after u
marks_after C gone marked v gone' marked' ws after simple l n m kept cycle marks taken u = (
  (λ e. (cycle u).1 (elim ((taken.marks u).0 e) [
    | inl old ↦
        let ne : u ≢ v = λ q. true≢false (sym old ∙ (ap (is_set (set marked v false)) q ∙ is_set-here marked v false (omega arith))) in
        inl ((marks u).0 (sym (is_set-other marked v u false ne) ∙ old), ne)
    | inr c ↦
        let left : is_set (set gone v true) u ≡ false = sym (ap (λ g. is_set g u) taken.gone_is) ∙ c.1 in
        let ne : u ≢ v = λ q. true≢false (sym (ap (is_set (set gone v true)) q ∙ is_set-here gone v true (omega arith)) ∙ left) in
        let in_u = simple.in_range v u (l, c.0) in
        inr (restricted-new C (kept_of gone) v u (l, c.0) kept (kept_of-from gone u (omega arith) (sym (is_set-other gone v u true ne) ∙ left)))
  ])),
  λ c. (taken.marks u).1 (elim ((cycle u).0 c) [
    | inl o ↦ inl (is_set-other marked v u false o.1 ∙ (marks u).1 o.0)
    | inr d ↦
        let old = restricted-old C (kept_of gone) v u d in
        inr (old.0.1, ap (λ g. is_set g u) taken.gone_is ∙ (is_set-other gone v u true (simple.no_loop v u old.0) ∙ (kept_of-parts gone u old.2).1))
  ]),
)

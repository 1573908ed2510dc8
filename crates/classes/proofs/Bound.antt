-- The Euler bound for two bijections: with f a bijection and g a pairing of the numbers below 2m, the orbits of f and of f after g are at most 2c + m, and differ from it by an even number; c counts the classes of the two together.
use Rattle.std.proofs.Common.{◌≡◌, ◌≢◌, ◌⊎◌, ℕ, zero, suc, ◌+◌, ◌*◌, ◌<◌, min, Bool, true, false, not, cond, eqb, ltb, List, length, refl, sym, ap, ◌∙◌, subst, inl, inr, arith}
use Rattle.std.proofs.lemmas.Bool.{cases_Bool, cases_eq, cases_lt, eq-eqb, ne_eqb, lt-ltb, le-ltb, true≢false}
use Rattle.classes.specs.Classes.{count_below, label, same_class, merge, merge_all, class_count, IsMerged}
use Rattle.classes.proofs.Counting.{count_below_all, count_below_same, count_below_more, count_below_weaker, count_below_not}
use Rattle.classes.proofs.Classes.{Together, IsLabels, Together-label, same_class-from, cases_Together, labels_same, length-merge, IsLabels-merge, merge-joined, merge-keeps, merge-same, joined-merge, merge-within, class_count-merge_apart, length-merge_all, IsLabels-merge_all, merge_all-keeps, merge_all-holds, merge_all-lies, PairsBelow}
use Rattle.classes.proofs.Orbits.{steps, All-steps, All-steps_at, StaysBelow, PairsBelow-steps, orbits_of, length-orbits_of, IsLabels-orbits_of, orbits_of-step, orbits_of-marked, IsPermuting, count_below-images}
use Rattle.classes.proofs.Swap.{swapped, exchange, swapped_first, swapped_second, swapped_other, IsPermuting-exchange, exchange_orbits, orbits_of-same}

-- ---- the classes of two functions together
abbrev pub joint : (ℕ → ℕ) → (ℕ → ℕ) → ℕ → List ℕ
joint f g k = merge_all (orbits_of f k) (steps g k)

module _ (f g : ℕ → ℕ) (k : ℕ) (stays : StaysBelow f k) (stays' : StaysBelow g k) where
  below : PairsBelow (length (orbits_of f k)) (steps g k)
  below = rw length-orbits_of (PairsBelow-steps g k k (omega arith) stays')

  pub length-joint : length (joint f g k) ≡ k
  length-joint = length-merge_all (orbits_of f k) (steps g k) ∙ length-orbits_of f k

  pub IsLabels-joint : IsLabels (joint f g k)
  IsLabels-joint = IsLabels-merge_all (orbits_of f k) (steps g k) (IsLabels-orbits_of f k stays) below

  -- an orbit of the first lies in one class
  pub joint-orbit : (i j : ℕ) → Together (orbits_of f k) i j → Together (joint f g k) i j
  joint-orbit i j t = merge_all-keeps (orbits_of f k) (steps g k) (IsLabels-orbits_of f k stays) below i j t

  -- a number and its images are in one class
  pub joint-first : (i : ℕ) → i < k → Together (joint f g k) i (f i)
  joint-first i l = joint-orbit i (f i) (orbits_of-step f k stays i l)

  pub joint-second : (i : ℕ) → i < k → Together (joint f g k) i (g i)
  joint-second = All-steps_at (Together (joint f g k)) g k (merge_all-holds (orbits_of f k) (steps g k) (IsLabels-orbits_of f k stays) below)

  -- what each number has in common with both its images is one on each class
  pub joint-marked : {X : Type 0} (mark : ℕ → X) → ((i : ℕ) → i < k → mark i ≡ mark (f i)) → ((i : ℕ) → i < k → mark i ≡ mark (g i)) → (i j : ℕ) → i < k → j < k → Together (joint f g k) i j → mark i ≡ mark j
  joint-marked mark h h' =
      merge_all-lies (λ i j. mark i ≡ mark j) k (record { itself = λ i l. refl; turned = λ i j l m e. sym e; chained = λ i j o l m n e e'. e ∙ e' })
      (orbits_of f k) (steps g k) (length-orbits_of f k) (IsLabels-orbits_of f k stays) below
      (orbits_of-marked mark f k stays h) (All-steps (λ i j. mark i ≡ mark j) g k h')

-- ---- pairings
-- a pairing of the numbers below k: each has another for its partner, and is the partner's partner
pub record IsPairing (g : ℕ → ℕ) (k : ℕ) : Type 0 where
  pub within : StaysBelow g k
  pub back : (i : ℕ) → i < k → g (g i) ≡ i
  pub other : (i : ℕ) → i < k → g i ≢ i

pub IsPermuting-pairing : (g : ℕ → ℕ) (k : ℕ) → IsPairing g k → IsPermuting g k
IsPermuting-pairing g k v = record { within = v.within; apart = λ i j l m e. sym (v.back i l) ∙ (ap g e ∙ v.back j m) }

-- f after g
abbrev pub after : (ℕ → ℕ) → (ℕ → ℕ) → ℕ → ℕ
after f g i = f (g i)

pub IsPermuting-after : (f g : ℕ → ℕ) (k : ℕ) → IsPermuting f k → IsPermuting g k → IsPermuting (after f g) k
IsPermuting-after f g k w v =
    record {
      within = λ i l. w.within (g i) (v.within i l);
      apart = λ i j l m e. v.apart i j l m (w.apart (g i) (g j) (v.within i l) (v.within j m) e);
    }

-- exchanging images of f at x and y exchanges those of f after g at their partners
pub after-exchange : (f g : ℕ → ℕ) (k x y : ℕ) → IsPairing g k → x < k → y < k → (i : ℕ) → i < k → after (exchange f x y) g i ≡ exchange (after f g) (g x) (g y) i
after-exchange f g k x y v lx ly i l = grind (arith, cases_eq, swapped, swapped_first, after, swapped_second, swapped_other)

-- a pairing of the numbers below 2m has m orbits
module _ (g : ℕ → ℕ) (k : ℕ) (v : IsPairing g k) where
  first_of : ℕ → Bool
  first_of i = ltb i (g i)

  halves : count_below first_of k + count_below first_of k ≡ k
  unfolding first_of
  halves =
      let turned = count_below_same (λ i. first_of (g i)) (λ i. not (first_of i)) k (λ i l.
      ap (ltb (g i)) (v.back i l) ∙ (elim (cases_lt i (g i)) [
        | inl s ↦ le-ltb (g i) i (omega arith) ∙ sym (ap not (lt-ltb i (g i) s))
        | inr s ↦ let d = v.other i l in lt-ltb (g i) i (omega arith) ∙ sym (ap not (le-ltb i (g i) s))
      ])) in
      omega (arith, count_below-images g k (IsPermuting-pairing g k v) first_of, turned, count_below_not first_of k)

  pub class_count-pairing : class_count (orbits_of g k) + class_count (orbits_of g k) ≡ k
  unfolding first_of
  class_count-pairing =
      let G = orbits_of g k in
      let w = IsLabels-orbits_of g k v.within in
      let lesser : (i j : ℕ) → i < k → j < k → Together G i j → min i (g i) ≡ min j (g j) =
      orbits_of-marked (λ i. min i (g i)) g k v.within (λ i l. let b = v.back i l in omega arith) in
      let own : (i : ℕ) → i < k → eqb (label G i) i ≡ first_of i = λ i l.
      elim (cases_lt i (g i)) [
        | inl s ↦
            eq-eqb (label G i) i (omega (arith, lesser i (label G i) l (omega arith) (Together-label G w i))) ∙ sym (lt-ltb i (g i) s)
        | inr s ↦
            let ne : label G i ≢ i = omega (arith, orbits_of-step g k v.within i l) in
            ne_eqb (label G i) i ne ∙ sym (le-ltb i (g i) s)
      ] in
      let same = count_below_same (λ i. eqb (label G i) i) first_of k own in
      omega (arith, ap (count_below (λ i. eqb (label G i) i)) (length-orbits_of g k) ∙ same, halves)

-- ---- one step
-- Let x and y lie in one orbit of f, which an exchange then cuts. The classes with g before it are those after it with x and y joined.
module _ (f g : ℕ → ℕ) (k x y : ℕ) (w : IsPermuting f k) (stays' : StaysBelow g k) (lx : x < k) (ly : y < k) (ne : x ≢ y) (one : Together (orbits_of f k) x y) where
  cut_w : IsPermuting (exchange f x y) k
  cut_w = IsPermuting-exchange f k x y lx ly w

  pub cut_orbits : IsMerged (orbits_of (exchange f x y) k) (orbits_of f k) x y
  cut_orbits = (exchange_orbits f k x y w lx ly ne).cut (same_class-from (orbits_of f k) x y one)

  pub joint-cut : joint f g k ≡ merge (joint (exchange f x y) g k) x y
  joint-cut =
      let h = exchange f x y in
      let P = orbits_of h k in
      let J = joint f g k in
      let K = joint h g k in
      let pw = IsLabels-orbits_of h k cut_w.within in
      let pn = length-orbits_of h k in
      let kw = IsLabels-joint h g k cut_w.within stays' in
      let kn = length-joint h g k cut_w.within stays' in
      let jn = length-joint f g k w.within stays' in
      let px : x < length P = omega arith in
      let py : y < length P = omega arith in
      let kx : x < length K = omega arith in
      let ky : y < length K = omega arith in
      let e = cut_orbits.joined in
      let up = joint-orbit h g k cut_w.within stays' in
      let into : (i : ℕ) → i < k → Together (merge K x y) i (f i) = λ i l.
      let t : Together (merge P x y) i (f i) = rw e at (orbits_of-step f k w.within i l) in
      joined-merge K x y kw kx ky i (f i) (elim (merge-joined P x y pw px py i (f i) t) [
        | inl q ↦ inl (up i (f i) q)
        | inr r ↦ elim r [ inl q ↦ inr (inl (up i x q.0, up y (f i) q.1)) | inr q ↦ inr (inr (up i y q.0, up x (f i) q.1)) ]
      ]) in
      let wide : (i j : ℕ) → Together P i j → Together J i j = λ i j t.
      joint-orbit f g k w.within stays' i j (rw e (merge-keeps P x y pw px py i j t)) in
      let within_J = joint-marked h g k cut_w.within stays' (label J) (λ i l. wide i (h i) (orbits_of-step h k cut_w.within i l)) (joint-second f g k w.within stays') in
      let over : Together J x y = joint-orbit f g k w.within stays' x y one in
      labels_same J (merge K x y) (IsLabels-joint f g k w.within stays') (IsLabels-merge K x y kw kx ky) (jn ∙ (sym kn ∙ sym (length-merge K x y)))
      (λ i j l m t. joint-marked f g k w.within stays' (label (merge K x y)) into (λ i l. merge-keeps K x y kw kx ky i (g i) (joint-second h g k cut_w.within stays' i l)) i j (omega arith) (omega arith) t)
      (λ i j l m t.
      let li : i < k = omega (arith, length-merge K x y) in
      let lj : j < k = omega (arith, length-merge K x y) in
      elim (merge-joined K x y kw kx ky i j t) [
        | inl q ↦ within_J i j li lj q
        | inr r ↦ elim r [
          | inl q ↦ within_J i x li lx q.0 ∙ (over ∙ within_J y j ly lj q.1)
          | inr q ↦ within_J i y li ly q.0 ∙ (sym over ∙ within_J x j lx lj q.1)
        ]
      ])

-- The numbers of orbits of f and of f after g, with twice d, make 2c + m.
abbrev pub Balances : (ℕ → ℕ) → (ℕ → ℕ) → ℕ → ℕ → ℕ → Type 0
Balances f g k m d =
    class_count (orbits_of f k) + class_count (orbits_of (after f g) k) + 2 * d ≡ 2 * class_count (joint f g k) + m

-- what balances after a cut balances before, with d the same or one more
pub Balances-cut : (f g : ℕ → ℕ) (k m x y : ℕ) → IsPermuting f k → IsPairing g k → x < k → y < k → x ≢ y → Together (orbits_of f k) x y → (d : ℕ) → Balances (exchange f x y) g k m d → Balances f g k m d ⊎ Balances f g k m (d + 1)
Balances-cut f g k m x y w v lx ly ne one d balance =
    let h = exchange f x y in
    let hw = IsPermuting-exchange f k x y lx ly w in
    let gw = IsPermuting-pairing g k v in
    let K = joint h g k in
    let kw = IsLabels-joint h g k hw.within v.within in
    let kn = length-joint h g k hw.within v.within in
    let kx : x < length K = omega arith in
    let ky : y < length K = omega arith in
    let joined = joint-cut f g k x y w v.within lx ly ne one in
    let fewer = (cut_orbits f g k x y w v.within lx ly ne one).fewer in
    let face = after f g in
    let F = orbits_of face k in
    let H = orbits_of (after h g) k in
    let turned : H ≡ orbits_of (exchange face (g x) (g y)) k = orbits_of-same (after h g) (exchange face (g x) (g y)) k (after-exchange f g k x y v lx ly) in
    let apart : g x ≢ g y = λ e. ne (gw.apart x y lx ly e) in
    let law = exchange_orbits face k (g x) (g y) (IsPermuting-after f g k w gw) (v.within x lx) (v.within y ly) apart in
    let second = joint-second h g k hw.within v.within in
    let faces_in : (i j : ℕ) → i < k → j < k → Together H i j → Together K i j =
    orbits_of-marked (label K) (after h g) k (IsPermuting-after h g k hw gw).within (λ i l. second i l ∙ joint-first h g k hw.within v.within (g i) (v.within i l)) in
    elim (cases_Bool (same_class F (g x) (g y))) [
      | inl t ↦
          let cut : class_count H ≡ class_count F + 1 = ap class_count turned ∙ (law.cut t).fewer in
          elim (cases_Together K x y) [
            | inl q ↦
                inr (omega (arith, ap class_count (joined ∙ merge-within K x y kw kx ky q)))
            | inr q ↦
                inl (omega (arith, class_count-merge_apart K x y kw kx ky q ∙ ap (λ l. class_count l + 1) (sym joined)))
          ]
      | inr t ↦ grind (arith, class_count, IsLabels-orbits_of, IsPermuting-after, length-orbits_of, Together, merge-same, merge-within)
    ]

-- ---- the bound
-- a number that f moves, or that there is none below n
first_moved : (f : ℕ → ℕ) (n : ℕ) → ((i : ℕ) → i < n → f i ≡ i) ⊎ ((x : ℕ) × (x < n) × (f x ≢ x))
first_moved f zero = inl (λ i l. absurd (omega arith))
first_moved f (suc n) =
    elim (cases_eq (f n) n) [
      | inl e ↦
          elim (first_moved f n) [
            | inl h ↦ inl (λ i l. elim (cases_eq i n) [ inl q ↦ ap f q ∙ (e ∙ sym q) | inr d ↦ h i (omega arith) ])
            | inr r ↦ inr (r.0, omega arith, r.2)
          ]
      | inr ne ↦ inr (n, omega arith, ne)
    ]

-- how many numbers below k a function moves
abbrev moved_count : (ℕ → ℕ) → ℕ → ℕ
moved_count f k = count_below (λ i. not (eqb (f i) i)) k

-- cutting y = f x off its orbit leaves fewer to move
moved_count-cut : (f : ℕ → ℕ) (k x : ℕ) → IsPermuting f k → x < k → f x ≢ x → moved_count (exchange f x (f x)) k < moved_count f k
moved_count-cut f k x w lx ne =
    let y = f x in
    let h = exchange f x y in
    let ly = w.within x lx in
    let moved : ℕ → Bool = λ i. not (eqb (f i) i) in
    let kept : ℕ → Bool = λ i. cond (eqb i y) false (moved i) in
    let y_moved : moved y ≡ true = ap not (ne_eqb (f y) y (λ e. ne (w.apart y x ly lx e))) in
    let y_kept : kept y ≡ false = rw (eq-eqb y y refl) refl in
    let step : (i : ℕ) → i < k → not (eqb (h i) i) ≡ true → kept i ≡ true = λ i l t.
    grind (arith, cases_eq, true≢false, not, eq-eqb, swapped_second, ne_eqb, eqb, swapped_other) in
    let less = count_below_weaker (λ i. not (eqb (h i) i)) kept k step in
    omega (arith, count_below_more kept moved k y ly y_kept y_moved (λ i l d. rw (ne_eqb i y d) refl))

-- where f moves nothing, each pair is a class of its own with two orbits of f and one of f after g
balances_identity : (f g : ℕ → ℕ) (m : ℕ) → IsPairing g (m + m) → ((i : ℕ) → i < m + m → f i ≡ i) → Balances f g (m + m) m 0
balances_identity f g m v fixed =
    let k = m + m in
    let stays : StaysBelow f k = λ i l. omega (arith, fixed i l) in
    let O = orbits_of f k in
    let w = IsLabels-orbits_of f k stays in
    let G = orbits_of g k in
    let J = joint f g k in
    let gn = length-orbits_of g k in
    let jn = length-joint f g k stays v.within in
    let own : (i : ℕ) → i < k → eqb (label O i) i ≡ true = λ i l.
    let alone = orbits_of-marked (λ (j : ℕ). j) f k stays (λ j m. sym (fixed j m)) i (label O i) l (omega (arith, w.low i)) (Together-label O w i) in
    eq-eqb (label O i) i (sym alone) in
    let each = count_below_same (λ i. eqb (label O i) i) (λ i. true) k own in
    let whole : class_count O ≡ k = ap (count_below (λ i. eqb (label O i) i)) (length-orbits_of f k) ∙ (each ∙ count_below_all k) in
    let joined : J ≡ G = labels_same J G (IsLabels-joint f g k stays v.within) (IsLabels-orbits_of g k v.within) (jn ∙ sym gn)
    (λ i j l m t. joint-marked f g k stays v.within (label G) (λ i l. ap (label G) (sym (fixed i l))) (orbits_of-step g k v.within) i j (omega arith) (omega arith) t)
    (λ i j l m t. orbits_of-marked (label J) g k v.within (joint-second f g k stays v.within) i j (omega arith) (omega arith) t) in
    let half = class_count-pairing g k v in
    omega (arith, whole, ap class_count (orbits_of-same (after f g) g k (λ i l. fixed (g i) (v.within i l))), ap class_count joined, half)

bound_by : (n : ℕ) (f g : ℕ → ℕ) (m : ℕ) → IsPermuting f (m + m) → IsPairing g (m + m) → moved_count f (m + m) < n → (d : ℕ) × Balances f g (m + m) m d
bound_by zero f g m w v l = absurd (omega arith)
bound_by (suc n) f g m w v l =
    let k = m + m in
    elim (first_moved f k) [
      | inl fixed ↦ (0, balances_identity f g m v fixed)
      | inr r ↦
          let x = r.0 in
          let y = f x in
          let ly = w.within x r.1 in
          let ne : x ≢ y = λ e. r.2 (sym e) in
          let one = orbits_of-step f k w.within x r.1 in
          let rest = bound_by n (exchange f x y) g m (IsPermuting-exchange f k x y r.1 ly w) v (omega (arith, moved_count-cut f k x w r.1 r.2)) in
          elim (Balances-cut f g k m x y w v r.1 ly ne one rest.0 rest.1) [ inl b ↦ (rest.0, b) | inr b ↦ (rest.0 + 1, b) ]
    ]

-- THE EULER BOUND: the orbits of f and of f after g are at most 2c + m, by an even difference.
pub euler_bound : (f g : ℕ → ℕ) (m : ℕ) → IsPermuting f (m + m) → IsPairing g (m + m) → (d : ℕ) × Balances f g (m + m) m d
euler_bound f g m w v = bound_by (suc (moved_count f (m + m))) f g m w v (omega arith)

-- the same for k that is m + m
pub euler_bound_at : (f g : ℕ → ℕ) (k m : ℕ) → k ≡ m + m → IsPermuting f k → IsPairing g k → (d : ℕ) × Balances f g k m d
euler_bound_at f g k m e w v =
    let found = euler_bound f g m (subst (IsPermuting f) e w) (subst (IsPairing g) e v) in
    (found.0, subst (λ n. Balances f g n m found.0) (sym e) found.1)

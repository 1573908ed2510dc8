-- A cover of a rotation and a pairing: two copies of each number, which the steps exchange where a test holds. Where the test is even round each vertex the cover of a plane connected map falls apart, by the Euler bound.
use Rattle.std.proofs.Common.{◌≡◌, ℕ, List, zero, suc, ◌+◌, ◌-◌, ◌<◌, ◌≤◌, Bool, true, false, not, ◌&&◌, eqb, ltb, cond, length, refl, sym, ap, ap₂, ◌∙◌, inl, inr, arith}
use Rattle.std.proofs.lemmas.Bool.{cases_lt, lt-ltb, le-ltb, eq-eqb, eqb-true, and_from, and_parts, cond-true, cond-false}
use Rattle.classes.specs.Classes.{count_below, label, class_count}
use Rattle.classes.proofs.Counting.{count_below_into, count_below_same, count_below_all}
use Rattle.classes.proofs.Classes.{Together, IsLabels, label-lt}
use Rattle.classes.proofs.Orbits.{StaysBelow, IsPermuting, orbits_of, length-orbits_of, IsLabels-orbits_of, orbits_of-step, orbits_of-marked}
use Rattle.classes.proofs.Bound.{joint, length-joint, IsLabels-joint, joint-first, joint-second, joint-marked, IsPairing, IsPermuting-pairing, IsPermuting-after, after, Balances, euler_bound_at}
use Rattle.plane_laws.proofs.EdgeBound.{one_class}
use Rattle.convex_laws.specs.Walks.{flipped}
use Rattle.convex_laws.proofs.Flips.{flipped_twice, flipped_cancel, flipped_both, pair_alike}

-- ---- the numbers of the two copies
abbrev pub copy : ℕ → ℕ → Bool → ℕ
copy k i b = cond b (i + k) i

-- of which number x is a copy, and which one
abbrev pub whose : ℕ → ℕ → ℕ
whose k x = cond (ltb x k) x (x - k)

abbrev pub which : ℕ → ℕ → Bool
which k x = not (ltb x k)

pub copy-lt : (k i : ℕ) (b : Bool) → i < k → copy k i b < k + k
copy-lt k i true l = omega arith
copy-lt k i false l = omega arith

pub whose-copy : (k i : ℕ) (b : Bool) → i < k → whose k (copy k i b) ≡ i
whose-copy k i true l = cond-false (ltb (i + k) k) (i + k) (i + k - k) (le-ltb (i + k) k (omega arith)) ∙ omega arith
whose-copy k i false l = cond-true (ltb i k) i (i - k) (lt-ltb i k l)

pub which-copy : (k i : ℕ) (b : Bool) → i < k → which k (copy k i b) ≡ b
which-copy k i true l = ap not (le-ltb (i + k) k (omega arith))
which-copy k i false l = ap not (lt-ltb i k l)

pub whose-lt : (k x : ℕ) → x < k + k → whose k x < k
whose-lt k x l = grind (arith, cases_lt, cond-true, ltb, lt-ltb, cond-false, le-ltb)

pub copy-own : (k x : ℕ) → copy k (whose k x) (which k x) ≡ x
copy-own k x = grind (arith, cases_lt, copy, cond, not, lt-ltb, le-ltb)

-- a step of each copy, to the other one where the test holds
abbrev pub lifted : (ℕ → ℕ) → (ℕ → Bool) → ℕ → ℕ → ℕ
lifted h test k x = copy k (h (whose k x)) (flipped (test (whose k x)) (which k x))

pub lifted-copy : (h : ℕ → ℕ) (test : ℕ → Bool) (k i : ℕ) (b : Bool) → i < k → lifted h test k (copy k i b) ≡ copy k (h i) (flipped (test i) b)
lifted-copy h test k i b l =
    ap₂ (λ j c. copy k (h j) (flipped (test j) c)) (whose-copy k i b l) (which-copy k i b l)

lifted-within : (h : ℕ → ℕ) (test : ℕ → Bool) (k : ℕ) → StaysBelow h k → StaysBelow (lifted h test k) (k + k)
lifted-within h test k stays x l = copy-lt k (h (whose k x)) (flipped (test (whose k x)) (which k x)) (stays (whose k x) (whose-lt k x l))

pub IsPermuting-lifted : (h : ℕ → ℕ) (test : ℕ → Bool) (k : ℕ) → IsPermuting h k → IsPermuting (lifted h test k) (k + k)
IsPermuting-lifted h test k w = grind (arith, lifted-within, whose, whose-lt, flipped, which, whose-copy, which-copy, flipped_cancel, copy-own, ap₂, copy)

pub IsPairing-lifted : (g : ℕ → ℕ) (test : ℕ → Bool) (k : ℕ) → IsPairing g k → ((i : ℕ) → i < k → test (g i) ≡ test i) → IsPairing (lifted g test k) (k + k)
IsPairing-lifted g test k v alike = grind (arith, lifted-within, whose, whose-lt, which, lifted-copy, flipped, ap₂, copy, flipped_twice, copy-own, whose-copy)

-- ---- counts
pub count_below-add : (p : ℕ → Bool) (k n : ℕ) → count_below p (k + n) ≡ count_below p k + count_below (λ i. p (k + i)) n
count_below-add p k zero = let e : k + 0 ≡ k = omega arith in ap (count_below p) e ∙ omega arith
count_below-add p k (suc n) = let e : k + suc n ≡ suc (k + n) = omega arith in ap (count_below p) e ∙ omega (arith, count_below-add p k n)

-- both copies of the numbers that pass a test
count_below-copies : (q : ℕ → Bool) (k : ℕ) → count_below (λ x. q (whose k x)) (k + k) ≡ count_below q k + count_below q k
count_below-copies q k =
    let high = count_below_same (λ i. q (whose k (k + i))) q k (λ i l. let e : k + i ≡ i + k = omega arith in ap (λ x. q (whose k x)) e ∙ ap q (whose-copy k i true l)) in
    omega (arith, count_below-add (λ x. q (whose k x)) k k, count_below_same (λ x. q (whose k x)) q k (λ i l. ap q (whose-copy k i false l)), high)

-- numbers that what each step keeps tells apart are no more than the orbits
pub told_apart : {X : Type 0} (mark : ℕ → X) (h : ℕ → ℕ) (n : ℕ) → StaysBelow h n → ((i : ℕ) → i < n → mark i ≡ mark (h i)) → (q : ℕ → Bool) → ((i j : ℕ) → i < n → j < n → q i ≡ true → q j ≡ true → mark i ≡ mark j → i ≡ j) → count_below q n ≤ class_count (orbits_of h n)
told_apart mark h n stays keeps q apart =
    let O = orbits_of h n in
    let w = IsLabels-orbits_of h n stays in
    count_below_into (label O) q (λ i. eqb (label O i) i) n (length O)
    (λ i l e. (label-lt O w i (omega (arith, length-orbits_of h n)), eq-eqb (label O (label O i)) (label O i) (w.own i)))
    (λ i j l m e e' s. apart i j l m e e' (orbits_of-marked mark h n stays keeps i j l m s))

-- one class where all are together
one_at_most : (labels : List ℕ) → IsLabels labels → ((i j : ℕ) → i < length labels → j < length labels → Together labels i j) → class_count labels ≤ 1
one_at_most labels w all =
    let into = count_below_into (λ i. 0) (λ i. eqb (label labels i) i) (λ i. true) (length labels) 1
    (λ i l e. (omega arith, refl))
    (λ i j l m e e' s. sym (eqb-true (label labels i) i e) ∙ (all i j l m ∙ eqb-true (label labels j) j e')) in
    omega arith

module _ (f g : ℕ → ℕ) (k m : ℕ) (two : k ≡ m + m) (w : IsPermuting f k) (v : IsPairing g k) (test : ℕ → Bool) (alike : (i : ℕ) → i < k → test (g i) ≡ test i) (side : ℕ → Bool) (turns : (i : ℕ) → i < k → side (f i) ≡ flipped (test i) (side i)) (flat : Balances f g k m 0) (one : class_count (joint f g k) ≡ 1) where
  abbrev pub F : ℕ → ℕ
  F = lifted f test k

  abbrev pub G : ℕ → ℕ
  G = lifted g test k

  pub W : IsPermuting F (k + k)
  W = IsPermuting-lifted f test k w

  pub V : IsPairing G (k + k)
  V = IsPairing-lifted g test k v alike

  abbrev pub J : List ℕ
  J = joint F G (k + k)

  -- twice as many vertices
  more_vertices : class_count (orbits_of f k) + class_count (orbits_of f k) ≤ class_count (orbits_of F (k + k))
  more_vertices =
      let O = orbits_of f k in
      let own : ℕ → Bool = λ i. eqb (label O i) i in
      let mark : ℕ → ℕ × Bool = λ x. (label O (whose k x), flipped (side (whose k x)) (which k x)) in
      let keeps : (x : ℕ) → x < k + k → mark x ≡ mark (F x) = λ x l.
      let i = whose k x in
      let li = whose-lt k x l in
      let b = which k x in
      let fi = w.within i li in
      let c = flipped (test i) b in
      ap₂ (λ (a : ℕ) (t : Bool). (a, t))
      (orbits_of-step f k w.within i li ∙ ap (label O) (sym (whose-copy k (f i) c fi)))
      (sym (flipped_both (test i) (side i) b) ∙ (ap (λ t. flipped t c) (sym (turns i li)) ∙ ap₂ (λ j t. flipped (side j) t) (sym (whose-copy k (f i) c fi)) (sym (which-copy k (f i) c fi)))) in
      let apart : (x y : ℕ) → x < k + k → y < k + k → own (whose k x) ≡ true → own (whose k y) ≡ true → mark x ≡ mark y → x ≡ y = λ x y l m e e' s.
      let i = whose k x in
      let j = whose k y in
      let same : i ≡ j = sym (eqb-true (label O i) i e) ∙ (ap (λ p. p.0) s ∙ eqb-true (label O j) j e') in
      let bits : which k x ≡ which k y = flipped_cancel (side i) (which k x) (which k y) (ap (λ p. p.1) s ∙ ap (λ z. flipped (side z) (which k y)) (sym same)) in
      sym (copy-own k x) ∙ (ap₂ (copy k) same bits ∙ copy-own k y) in
      let here : class_count O ≡ count_below own k = ap (count_below own) (length-orbits_of f k) in
      omega (arith, count_below-copies own k, told_apart mark F (k + k) W.within keeps (λ x. own (whose k x)) apart)

  -- and as many faces
  more_faces : class_count (orbits_of (after f g) k) + class_count (orbits_of (after f g) k) ≤ class_count (orbits_of (after F G) (k + k))
  more_faces =
      let h = after f g in
      let hw = IsPermuting-after f g k w (IsPermuting-pairing g k v) in
      let HW = IsPermuting-after F G (k + k) W (IsPermuting-pairing G (k + k) V) in
      let O = orbits_of h k in
      let own : ℕ → Bool = λ i. eqb (label O i) i in
      let mark : ℕ → ℕ × Bool = λ x. (label O (whose k x), which k x) in
      let keeps : (x : ℕ) → x < k + k → mark x ≡ mark (F (G x)) = λ x l.
      let i = whose k x in
      let li = whose-lt k x l in
      let b = which k x in
      let gi = v.within i li in
      let fi = w.within (g i) gi in
      let c = flipped (test i) b in
      let step : F (G x) ≡ copy k (f (g i)) b = lifted-copy f test k (g i) c gi ∙ ap (copy k (f (g i))) (ap (λ t. flipped t c) (alike i li) ∙ flipped_twice (test i) b) in
      ap₂ (λ (a : ℕ) (t : Bool). (a, t))
      (orbits_of-step h k hw.within i li ∙ ap (label O) (sym (whose-copy k (f (g i)) b fi) ∙ ap (whose k) (sym step)))
      (sym (which-copy k (f (g i)) b fi) ∙ ap (which k) (sym step)) in
      let apart : (x y : ℕ) → x < k + k → y < k + k → own (whose k x) ≡ true → own (whose k y) ≡ true → mark x ≡ mark y → x ≡ y = λ x y l m e e' s.
      let i = whose k x in
      let j = whose k y in
      let same : i ≡ j = sym (eqb-true (label O i) i e) ∙ (ap (λ p. p.0) s ∙ eqb-true (label O j) j e') in
      sym (copy-own k x) ∙ (ap₂ (copy k) same (ap (λ p. p.1) s) ∙ copy-own k y) in
      let here : class_count O ≡ count_below own k = ap (count_below own) (length-orbits_of h k) in
      omega (arith, count_below-copies own k, told_apart mark (after F G) (k + k) HW.within keeps (λ x. own (whose k x)) apart)

  -- so the cover has two parts
  two_parts : 2 ≤ class_count J
  two_parts =
      omega (arith, (euler_bound_at F G (k + k) k refl W V).1, more_vertices, more_faces, flat, one, two)

  -- the two copies of a number are in different parts
  pub copies_apart : (a : ℕ) → a < k → ¬ Together J (copy k a false) (copy k a true)
  copies_apart a la t =
      let L = label J in
      let r = L (copy k a false) in
      let mark : ℕ → Bool = λ i. eqb (L (copy k i false)) r && eqb (L (copy k i true)) r in
      let size = length-joint F G (k + k) W.within V.within in
      let over_f : (i : ℕ) → i < k → mark i ≡ mark (f i) = λ i l. pair_alike (test i) (λ b. L (copy k i b)) (λ b. L (copy k (f i) b)) r (λ b. joint-first F G (k + k) W.within V.within (copy k i b) (copy-lt k i b l) ∙ ap L (lifted-copy f test k i b l)) in
      let over_g : (i : ℕ) → i < k → mark i ≡ mark (g i) = λ i l. pair_alike (test i) (λ b. L (copy k i b)) (λ b. L (copy k (g i) b)) r (λ b. joint-second F G (k + k) W.within V.within (copy k i b) (copy-lt k i b l) ∙ ap L (lifted-copy g test k i b l)) in
      let start : mark a ≡ true = and_from (eqb r r) (eqb (L (copy k a true)) r) (eq-eqb r r refl) (eq-eqb (L (copy k a true)) r (sym t)) in
      let base_size = length-joint f g k w.within v.within in
      let base_labels = IsLabels-joint f g k w.within v.within in
      let all : (i : ℕ) → i < k → mark i ≡ true = λ i l.
      sym (joint-marked f g k w.within v.within mark over_f over_g a i la l (one_class (joint f g k) base_labels (omega (arith, one)) a i (omega arith) (omega arith))) ∙ start in
      let at : (i : ℕ) (b : Bool) → i < k → L (copy k i b) ≡ r = λ i b l. from_both (λ b. L (copy k i b)) b r (all i l) in
      let each : (x : ℕ) → x < k + k → L x ≡ r = λ x l. ap L (sym (copy-own k x)) ∙ at (whose k x) (which k x) (whose-lt k x l) in
      let most = one_at_most J (IsLabels-joint F G (k + k) W.within V.within) (λ x y l m. each x (omega arith) ∙ sym (each y (omega arith))) in
      absurd (omega (arith, most, two_parts))
    where
      from_both : (at : Bool → ℕ) (b : Bool) (r : ℕ) → (eqb (at false) r && eqb (at true) r) ≡ true → at b ≡ r
      from_both at true r e = eqb-true (at true) r (and_parts (eqb (at false) r) (eqb (at true) r) e).1
      from_both at false r e = eqb-true (at false) r (and_parts (eqb (at false) r) (eqb (at true) r) e).0

  -- what the steps join
  pub over_together : (i : ℕ) (b : Bool) → i < k → Together J (copy k i b) (copy k (g i) (flipped (test i) b))
  over_together i b l = joint-second F G (k + k) W.within V.within (copy k i b) (copy-lt k i b l) ∙ ap (label J) (lifted-copy g test k i b l)

  pub along_together : (i : ℕ) (b : Bool) → i < k → Together J (copy k i b) (copy k (f (g i)) b)
  along_together i b l =
      let gi = v.within i l in
      let c = flipped (test i) b in
      over_together i b l
      ∙ (joint-first F G (k + k) W.within V.within (copy k (g i) c) (copy-lt k (g i) c gi)
      ∙ ap (label J) (lifted-copy f test k (g i) c gi ∙ ap (copy k (f (g i))) (ap (λ t. flipped t c) (alike i l) ∙ flipped_twice (test i) b)))

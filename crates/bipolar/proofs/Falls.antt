-- Falls: darts that pass a test, whose images do not. Where an orbit has both kinds it has a fall, and where there are as few falls as orbits, each has one.
use Rattle.std.proofs.Common.{◌≡◌, ◌≢◌, ◌⊎◌, ℕ, zero, suc, ◌+◌, ◌<◌, ◌≤◌, Bool, true, false, not, ◌&&◌, cond, eqb, List, refl, sym, ap, ◌∙◌, inl, inr, arith}
use Rattle.std.proofs.lemmas.Bool.{cases_Bool, cases_eq, cases_lt, eq-eqb, eqb-true, ne_eqb, and_parts, and_from, false≢true, false_from_ne_true, not_from_true, not_from_false, not-false}
use Rattle.std.specs.Cmp.{both_ways}
use Rattle.classes.specs.Classes.{count_below, label, same_class, class_count}
use Rattle.classes.proofs.Counting.{one_if, count_below_same, count_below_more, count_below_not, count_below_into}
use Rattle.classes.proofs.Classes.{Together, Together-from, same_class-from, IsLabels}
use Rattle.classes.proofs.Orbits.{orbits_of, length-orbits_of, IsLabels-orbits_of, orbits_of-step, orbits_of-marked, IsPermuting, count_below-images, marks_back}
use Rattle.classes.proofs.Bound.{IsPairing, IsPermuting-pairing, after, IsPermuting-after}

-- the last number below n that passes, or 0
abbrev pub last_below : (ℕ → Bool) → ℕ → ℕ
last_below p zero = 0
last_below p (suc n) = cond (p n) n (last_below p n)

pub last_below-passes : (p : ℕ → Bool) (n i : ℕ) → i < n → p i ≡ true → (last_below p n < n) × (p (last_below p n) ≡ true)
last_below-passes p zero i l t = absurd (omega arith)
last_below-passes p (suc n) i l t =
    elim (cases_Bool (p n)) [
      | inl here ↦ rw here (omega arith, here)
      | inr off ↦
          let ne : i ≢ n = λ e. false≢true (sym off ∙ (ap p (sym e) ∙ t)) in
          let rest = last_below-passes p n i (omega arith) t in
          rw off (omega arith, rest.1)
    ]

-- some number below n passes, or none does
pub some_or_none : (p : ℕ → Bool) (n : ℕ) → ((i : ℕ) × (i < n) × (p i ≡ true)) ⊎ ((i : ℕ) → i < n → p i ≡ false)
some_or_none p zero = inr (λ i l. absurd (omega arith))
some_or_none p (suc n) =
    elim (some_or_none p n) [
      | inl found ↦ inl (found.0, omega (arith, found.1), found.2)
      | inr none ↦ elim (cases_Bool (p n)) [
        | inl here ↦ inl (n, omega arith, here)
        | inr off ↦ inr (λ i l. elim (cases_lt i n) [ inl less ↦ none i less | inr more ↦ (let e : i ≡ n = omega arith in ap p e ∙ off) ])
      ]
    ]

-- a test that passes at one number of an orbit and fails at another passes somewhere in it just before it fails
pub some_fall : (q : ℕ → ℕ) (k : ℕ) → IsPermuting q k → (p : ℕ → Bool) (a b : ℕ) → a < k → b < k → Together (orbits_of q k) a b → p a ≡ true → p b ≡ false → (i : ℕ) × (i < k) × Together (orbits_of q k) a i × (p i ≡ true) × (p (q i) ≡ false)
some_fall q k w p a b la lb same pa pb =
    let orbits = orbits_of q k in
    let falls : ℕ → Bool = λ i. same_class orbits a i && (p i && not (p (q i))) in
    elim (some_or_none falls k) [
      | inl found ↦
          let one = and_parts (same_class orbits a found.0) (p found.0 && not (p (q found.0))) found.2 in
          let two = and_parts (p found.0) (not (p (q found.0))) one.1 in
          (found.0, found.1, Together-from orbits a found.0 one.0, two.0, false_from_ne_true (p (q found.0)) (λ e. false≢true (sym (not_from_true (p (q found.0)) e) ∙ two.1)))
      | inr none ↦
          let mark : ℕ → Bool = λ i. same_class orbits a i && p i in
          let on : (i : ℕ) → i < k → mark i ≡ true → mark (q i) ≡ true = grind (arith, and_parts, same_class, same_class-from, Together-from, orbits_of-step, cases_Bool, and_from, falls, not, not_from_false, false≢true) in
          let back = marks_back q k w mark on in
          let same_mark = orbits_of-marked mark q k w.within (λ i l. both_ways (mark i) (mark (q i)) (on i l) (back i l)) a b la lb same in
          let there : mark a ≡ true = and_from (same_class orbits a a) (p a) (same_class-from orbits a a refl) pa in
          absurd (false≢true (sym pb ∙ (and_parts (same_class orbits a b) (p b) (sym same_mark ∙ there)).1))
    ]

-- where each class that passes a test, by its least number, has a number that is marked, at most as many classes pass as numbers are marked
pub classes_le : (labels : List ℕ) (p q : ℕ → Bool) (n : ℕ) → IsLabels labels → ((i : ℕ) → i < n → p i ≡ true → label labels i ≡ i) → ((i : ℕ) → i < n → p i ≡ true → (j : ℕ) × (j < n) × Together labels i j × (q j ≡ true)) → count_below p n ≤ count_below q n
classes_le labels p q n w own marked =
    let to : ℕ → ℕ = λ i. last_below (λ j. same_class labels i j && q j) n in
    let known : (i : ℕ) → i < n → p i ≡ true → (to i < n) × (Together labels i (to i)) × (q (to i) ≡ true) =
    λ i l t.
    let found = marked i l t in
    let at = last_below-passes (λ j. same_class labels i j && q j) n found.0 found.1 (and_from (same_class labels i found.0) (q found.0) (same_class-from labels i found.0 found.2) found.3) in
    let parts = and_parts (same_class labels i (to i)) (q (to i)) at.1 in
    (at.0, Together-from labels i (to i) parts.0, parts.1) in
    count_below_into to p q n n
    (λ i l t. let h = known i l t in (h.0, h.2))
    (λ i j l m t t' e. sym (own i l t) ∙ ((known i l t).1 ∙ (ap (label labels) e ∙ (sym (known j m t').1 ∙ own j m t'))))

-- a test without one number
abbrev pub but : (ℕ → Bool) → ℕ → ℕ → Bool
but p m i = cond (eqb i m) false (p i)

pub but-here : (p : ℕ → Bool) (m : ℕ) → but p m m ≡ false
but-here p m = rw (eq-eqb m m refl) refl

pub but-other : (p : ℕ → Bool) (m i : ℕ) → i ≢ m → but p m i ≡ p i
but-other p m i n = rw (ne_eqb i m n) refl

pub count_but : (p : ℕ → Bool) (n m : ℕ) → m < n → p m ≡ true → count_below p n ≡ count_below (but p m) n + 1
count_but p n m l e = count_below_more (but p m) p n m l (but-here p m) e (λ i h d. but-other p m i d)

pub count_but-le : (p : ℕ → Bool) (n m : ℕ) → count_below p n ≤ count_below (but p m) n + 1
count_but-le p zero m = omega arith
count_but-le p (suc n) m =
    elim (cases_eq n m) [
      | inl e ↦
          let off : but p m n ≡ false = ap (but p m) e ∙ but-here p m in
          let most = one_at_most (p n) in
          omega (arith, count_below_same p (but p m) n (λ i l. sym (but-other p m i (λ d. absurd (omega (arith, d, e))))), ap one_if off, most)
      | inr ne ↦ omega (arith, count_but-le p n m, ap one_if (but-other p m n ne))
    ]
  where
    one_at_most : (b : Bool) → one_if b ≤ 1
    one_at_most true = omega arith
    one_at_most false = omega arith

one_of : (x y : Bool) → one_if (x && not y) + one_if (not x && not y) ≡ one_if (not y)
one_of true true = omega arith
one_of true false = omega arith
one_of false true = omega arith
one_of false false = omega arith

sum_at : (p q r : ℕ → Bool) (n : ℕ) → ((i : ℕ) → i < n → one_if (p i) + one_if (q i) ≡ one_if (r i)) → count_below p n + count_below q n ≡ count_below r n
sum_at p q r zero h = refl
sum_at p q r (suc n) h = omega (arith, sum_at p q r n (λ i l. h i (omega arith)), h n (omega arith))

-- a dart that passes a test, whose image under q does not
abbrev pub falls : (ℕ → Bool) → (ℕ → ℕ) → ℕ → Bool
falls p q i = p i && not (p (q i))

pub falls-from : (p : ℕ → Bool) (q : ℕ → ℕ) (i : ℕ) → p i ≡ true → p (q i) ≡ false → falls p q i ≡ true
falls-from p q i t e = and_from (p i) (not (p (q i))) t (not_from_false (p (q i)) e)

-- The orbits of the rotation f but those of two numbers, and all those of f after the pairing g, have numbers that pass the test p and numbers that do not; of two partners just one passes; and there are as many orbits as Euler's formula says.
pub record IsMixed (k m : ℕ) (f g : ℕ → ℕ) (p : ℕ → Bool) (s t : ℕ) : Type 0 where
  pub rotates : IsPermuting f k
  pub pairs : IsPairing g k
  pub edges : k ≡ m + m
  pub plane : class_count (orbits_of f k) + class_count (orbits_of (after f g) k) ≡ m + 2
  pub partner : (i : ℕ) → i < k → p (g i) ≡ not (p i)
  pub face_passes : (i : ℕ) → i < k → (j : ℕ) × (j < k) × Together (orbits_of (after f g) k) i j × (p j ≡ true)
  pub face_fails : (i : ℕ) → i < k → (j : ℕ) × (j < k) × Together (orbits_of (after f g) k) i j × (p j ≡ false)
  pub vertex_passes : (i : ℕ) → i < k → (Together (orbits_of f k) s i → ⊥) → (Together (orbits_of f k) t i → ⊥) → (j : ℕ) × (j < k) × Together (orbits_of f k) i j × (p j ≡ true)
  pub vertex_fails : (i : ℕ) → i < k → (Together (orbits_of f k) s i → ⊥) → (Together (orbits_of f k) t i → ⊥) → (j : ℕ) × (j < k) × Together (orbits_of f k) i j × (p j ≡ false)

module _ (k m : ℕ) (f g : ℕ → ℕ) (p : ℕ → Bool) (s t : ℕ) (x : IsMixed k m f g p s t) where
  abbrev h : ℕ → ℕ
  h = after f g

  steps : IsPermuting h k
  steps = IsPermuting-after f g k x.rotates (IsPermuting-pairing g k x.pairs)

  half_fails : count_below (λ i. not (p i)) k ≡ m
  half_fails =
      let same = count_below_same (λ i. p (g i)) (λ i. not (p i)) k x.partner in
      omega (arith, count_below-images g k (IsPermuting-pairing g k x.pairs) p, same, count_below_not p k, x.edges)

  -- the falls of the rotation and of the face step are m together
  falls_are_m : count_below (falls p f) k + count_below (falls p h) k ≡ m
  falls_are_m =
      let known = count_below_same (λ i. falls p f (g i)) (λ i. not (p i) && not (p (h i))) k (λ i l. ap (λ b. b && not (p (h i))) (x.partner i l)) in
      let sum = sum_at (falls p h) (λ i. not (p i) && not (p (h i))) (λ i. not (p (h i))) k (λ i l. one_of (p i) (p (h i))) in
      let stepped = count_below-images h k steps (λ i. not (p i)) in
      omega (arith, count_below-images g k (IsPermuting-pairing g k x.pairs) (falls p f), known, sum, stepped, half_fails)

  abbrev faces : List ℕ
  faces = orbits_of h k

  abbrev vertices : List ℕ
  vertices = orbits_of f k

  own_face : ℕ → Bool
  own_face i = eqb (label faces i) i

  own_vertex : ℕ → Bool
  own_vertex i = eqb (label vertices i) i

  face_count : class_count faces ≡ count_below own_face k
  unfolding own_face
  face_count = ap (count_below (λ i. eqb (label faces i) i)) (length-orbits_of h k)

  vertex_count : class_count vertices ≡ count_below own_vertex k
  unfolding own_vertex
  vertex_count = ap (count_below (λ i. eqb (label vertices i) i)) (length-orbits_of f k)

  -- a vertex other than the two
  inner : ℕ → Bool
  inner = but (but own_vertex (label vertices s)) (label vertices t)

  vertex_count-le : class_count vertices ≤ count_below inner k + 2
  unfolding inner
  vertex_count-le =
      omega (arith, vertex_count, count_but-le own_vertex k (label vertices s), count_but-le (but own_vertex (label vertices s)) k (label vertices t))

  inner_is : (i : ℕ) → inner i ≡ true → (label vertices i ≡ i) × (Together vertices s i → ⊥) × (Together vertices t i → ⊥)
  unfolding inner own_vertex
  inner_is i e = grind (arith, label, vertices, false≢true, but, own_vertex, but-here, but-other, eqb-true)

  face_fall : (i : ℕ) → i < k → (j : ℕ) × (j < k) × Together faces i j × (falls p h j ≡ true)
  face_fall i l =
      let a = x.face_passes i l in
      let b = x.face_fails i l in
      let found = some_fall h k steps p a.0 b.0 a.1 b.1 (sym a.2 ∙ b.2) a.3 b.3 in
      (found.0, found.1, a.2 ∙ found.2, falls-from p h found.0 found.3 found.4)

  vertex_fall : (i : ℕ) → i < k → (Together vertices s i → ⊥) → (Together vertices t i → ⊥) → (j : ℕ) × (j < k) × Together vertices i j × (falls p f j ≡ true)
  vertex_fall i l ns nt =
      let a = x.vertex_passes i l ns nt in
      let b = x.vertex_fails i l ns nt in
      let found = some_fall f k x.rotates p a.0 b.0 a.1 b.1 (sym a.2 ∙ b.2) a.3 b.3 in
      (found.0, found.1, a.2 ∙ found.2, falls-from p f found.0 found.3 found.4)

  faces_le : class_count faces ≤ count_below (falls p h) k
  unfolding own_face
  faces_le = omega (arith, face_count, classes_le faces own_face (falls p h) k (IsLabels-orbits_of h k steps.within) (λ i l e. eqb-true (label faces i) i e) (λ i l e. face_fall i l))

  vertices_le : class_count vertices ≤ count_below (falls p f) k + 2
  vertices_le = omega (arith, vertex_count-le, classes_le vertices inner (falls p f) k (IsLabels-orbits_of f k x.rotates.within) (λ i l e. (inner_is i e).0) (λ i l e. vertex_fall i l (inner_is i e).1 (inner_is i e).2))

  -- each face has one fall
  pub one_fall_of_face : (a b : ℕ) → a < k → b < k → Together faces a b → falls p h a ≡ true → falls p h b ≡ true → a ≡ b
  unfolding own_face
  one_fall_of_face a b la lb same fa fb =
      elim (cases_eq a b) [
        | inl e ↦ e
        | inr ne ↦
            let le = classes_le faces own_face (but (falls p h) b) k (IsLabels-orbits_of h k steps.within) (λ i l e. eqb-true (label faces i) i e)
            (λ i l e.
            let j = face_fall i l in
            elim (cases_eq j.0 b) [
              | inl d ↦ (a, la, j.2 ∙ (ap (label faces) d ∙ sym same), but-other (falls p h) b a ne ∙ fa)
              | inr d ↦ (j.0, j.1, j.2, but-other (falls p h) b j.0 d ∙ j.3)
            ]) in
            absurd (omega (arith, count_but (falls p h) k b lb fb, le, face_count, vertices_le, falls_are_m, x.plane))
      ]

  -- each vertex has one fall
  pub one_fall_of_vertex : (a b : ℕ) → a < k → b < k → Together vertices a b → falls p f a ≡ true → falls p f b ≡ true → a ≡ b
  one_fall_of_vertex a b la lb same fa fb =
      elim (cases_eq a b) [
        | inl e ↦ e
        | inr ne ↦
            let le = classes_le vertices inner (but (falls p f) b) k (IsLabels-orbits_of f k x.rotates.within) (λ i l e. (inner_is i e).0)
            (λ i l e.
            let j = vertex_fall i l (inner_is i e).1 (inner_is i e).2 in
            elim (cases_eq j.0 b) [
              | inl d ↦ (a, la, j.2 ∙ (ap (label vertices) d ∙ sym same), but-other (falls p f) b a ne ∙ fa)
              | inr d ↦ (j.0, j.1, j.2, but-other (falls p f) b j.0 d ∙ j.3)
            ]) in
            absurd (omega (arith, count_but (falls p f) k b lb fb, le, vertex_count-le, faces_le, falls_are_m, x.plane))
      ]

-- what is true of a test is true of its opposite
pub IsMixed-not : (k m : ℕ) (f g : ℕ → ℕ) (p : ℕ → Bool) (s t : ℕ) → IsMixed k m f g p s t → IsMixed k m f g (λ i. not (p i)) s t
IsMixed-not k m f g p s t x = record {
  rotates = x.rotates;
  pairs = x.pairs;
  edges = x.edges;
  plane = x.plane;
  partner = λ i l. ap not (x.partner i l);
  face_passes = λ i l. let j = x.face_fails i l in (j.0, j.1, j.2, not_from_false (p j.0) j.3);
  face_fails = λ i l. let j = x.face_passes i l in (j.0, j.1, j.2, not_from_true (p j.0) j.3);
  vertex_passes = λ i l ns nt. let j = x.vertex_fails i l ns nt in (j.0, j.1, j.2, not_from_false (p j.0) j.3);
  vertex_fails = λ i l ns nt. let j = x.vertex_passes i l ns nt in (j.0, j.1, j.2, not_from_true (p j.0) j.3);
}

-- a test that each step in an orbit keeps is kept on all of it
pub kept_on : (q : ℕ → ℕ) (k : ℕ) → IsPermuting q k → (p : ℕ → Bool) (a b : ℕ) → a < k → b < k → Together (orbits_of q k) a b → ((i : ℕ) → i < k → Together (orbits_of q k) a i → p i ≡ true → p (q i) ≡ true) → p a ≡ true → p b ≡ true
kept_on q k w p a b la lb same keeps pa =
    elim (cases_Bool (p b)) [
      | inl t ↦ t
      | inr e ↦ let i = some_fall q k w p a b la lb same pa e in absurd (false≢true (sym i.4 ∙ keeps i.0 i.1 i.2 i.3))
    ]

-- each number is the image of one
pub before : (q : ℕ → ℕ) (k : ℕ) → IsPermuting q k → (a : ℕ) → a < k → (i : ℕ) × (i < k) × Together (orbits_of q k) a i × (q i ≡ a)
before q k w a la =
    elim (cases_eq (q a) a) [
      | inl e ↦ (a, la, refl, e)
      | inr ne ↦
          let step = orbits_of-step q k w.within a la in
          let i = some_fall q k w (λ i. not (eqb i a)) (q a) a (w.within a la) la (sym step) (not_from_false (eqb (q a) a) (ne_eqb (q a) a ne)) (not_from_true (eqb a a) (eq-eqb a a refl)) in
          (i.0, i.1, step ∙ i.2, eqb-true (q i.0) a (not-false (eqb (q i.0) a) i.4))
    ]

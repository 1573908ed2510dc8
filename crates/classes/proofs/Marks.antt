-- Marks on the numbers below k: the walk that marks one orbit, and the count that marks each class where its least number is met.
use Rattle.std.proofs.Common.{◌≡◌, ◌≢◌, ◌⊎◌, ◌||◌, ℕ, suc, ◌+◌, ◌<◌, ◌≤◌, Bool, true, false, not, eqb, ltb, List, length, refl, sym, ap, ◌∙◌, inl, inr, arith}
use Rattle.std.proofs.lemmas.Bool.{cases_Bool, cases_eq, eq-eqb, ne_eqb, lt-ltb, le-ltb, ltb-true, ltb-false, false_from_ne_true, false≢true, or_left}
use Rattle.classes.specs.Classes.{IsPermutationOfBelow, count_below, label, image, orbits, same_class, class_count}
use Rattle.classes.proofs.Counting.{count_below-le, count_below_more}
use Rattle.classes.proofs.Classes.{IsLabels, Together, Together-from, same_class-from}
use Rattle.classes.proofs.Orbits.{StaysBelow-image, length-orbits, orbits-step, orbits-closed_marks}

-- new is old with the mark of x set, on the numbers below k
pub record SetsMark (k : ℕ) (old new : ℕ → Bool) (x : ℕ) : Type 0 where
  pub here : new x ≡ true
  pub elsewhere : (i : ℕ) → i < k → i ≢ x → new i ≡ old i

-- what was marked still is
pub SetsMark-keeps : (k : ℕ) (old new : ℕ → Bool) (x i : ℕ) → SetsMark k old new x → i < k → old i ≡ true → new i ≡ true
SetsMark-keeps k old new x i sets l t =
    elim (cases_eq i x) [ inl e ↦ ap new e ∙ sets.here | inr ne ↦ sets.elsewhere i l ne ∙ t ]

-- what is marked was, or is x
pub SetsMark-cases : (k : ℕ) (old new : ℕ → Bool) (x i : ℕ) → SetsMark k old new x → i < k → new i ≡ true → (old i ≡ true) ⊎ (i ≡ x)
SetsMark-cases k old new x i sets l t =
    elim (cases_eq i x) [ inl e ↦ inr e | inr ne ↦ inl (sym (sets.elsewhere i l ne) ∙ t) ]

-- The walk from start has come to x: what it marked is of the orbit of start, and each marked number's image is marked or is x.
pub record IsMarking (images : List ℕ) (old marked : ℕ → Bool) (start x : ℕ) : Type 0 where
  pub within : x < length images
  pub together : Together (orbits images) start x
  pub stays : (i : ℕ) → i < length images → old i ≡ true → marked i ≡ true
  pub only : (i : ℕ) → i < length images → marked i ≡ true → (old i ≡ true) ⊎ Together (orbits images) start i
  pub stepped : (i : ℕ) → i < length images → marked i ≡ true → (marked (image images i) ≡ true) ⊎ (image images i ≡ x)
  pub begun : (marked start ≡ true) ⊎ (x ≡ start)

-- each step keeps the marks
abbrev pub KeepsMarks : List ℕ → (ℕ → Bool) → Type 0
KeepsMarks images marked = (i : ℕ) → i < length images → marked i ≡ true → marked (image images i) ≡ true

-- at the start
pub IsMarking-none : (images : List ℕ) (old : ℕ → Bool) (start : ℕ) → start < length images → KeepsMarks images old → IsMarking images old old start start
IsMarking-none images old start l keeps =
    record { within = l; together = refl; stays = λ i m t. t; only = λ i m t. inl t; stepped = λ i m t. inl (keeps i m t); begun = inr refl }

-- one step on
pub IsMarking-more : (images : List ℕ) (old marked new : ℕ → Bool) (start x y : ℕ) → IsPermutationOfBelow images → start < length images → IsMarking images old marked start x → SetsMark (length images) marked new x → y ≡ image images x → IsMarking images old new start y
IsMarking-more images old marked new start x y p in_start h sets e = grind (arith, length, SetsMark-keeps, StaysBelow-image, orbits-step, label, orbits, SetsMark-cases, image)

-- where x is marked already, the orbit of start is marked, and nothing else that was not
pub IsMarking-all : (images : List ℕ) (old marked : ℕ → Bool) (start x : ℕ) → IsPermutationOfBelow images → IsMarking images old marked start x → start < length images → marked x ≡ true → (i : ℕ) → i < length images → marked i ≡ (old i || same_class (orbits images) start i)
IsMarking-all images old marked start x p h l on i m =
    let keeps : (j : ℕ) → j < length images → marked j ≡ true → marked (image images j) ≡ true =
    λ j n t. elim (h.stepped j n t) [ inl t' ↦ t' | inr q ↦ ap marked q ∙ on ] in
    let begun : marked start ≡ true = elim h.begun [ inl t ↦ t | inr q ↦ ap marked (sym q) ∙ on ] in
    elim (cases_Bool (old i)) [
      | inl t ↦ h.stays i m t ∙ sym (or_left (old i) (same_class (orbits images) start i) t)
      | inr t ↦
          elim (cases_Bool (same_class (orbits images) start i)) [
            | inl s ↦
                rw (t, s) (sym (orbits-closed_marks images p marked keeps start i l m (Together-from (orbits images) start i s)) ∙ begun)
            | inr s ↦
                rw (t, s) (false_from_ne_true (marked i) (λ u. elim (h.only i m u) [
                  | inl v ↦ false≢true (sym t ∙ v)
                  | inr v ↦ false≢true (sym s ∙ same_class-from (orbits images) start i v)
                ]))
          ]
    ]

-- The classes whose least number is below i are marked, and counted.
pub record IsCounting (labels : List ℕ) (marked : ℕ → Bool) (count i : ℕ) : Type 0 where
  pub known : (y : ℕ) → y < length labels → marked y ≡ ltb (label labels y) i
  pub counted : count ≡ count_below (λ j. eqb (label labels j) j) i

-- none yet
pub IsCounting-none : (labels : List ℕ) (marked : ℕ → Bool) → ((i : ℕ) → i < length labels → marked i ≡ false) → IsCounting labels marked 0 0
IsCounting-none labels marked off =
    record { known = λ y l. off y l ∙ sym (le-ltb (label labels y) 0 (omega arith)); counted = refl }

-- such marks are one on each class
pub IsCounting-together : (labels : List ℕ) (marked : ℕ → Bool) (count i : ℕ) → IsCounting labels marked count i → (x y : ℕ) → x < length labels → y < length labels → Together labels x y → marked x ≡ marked y
IsCounting-together labels marked count i h x y l m same = h.known x l ∙ ap (λ z. ltb z i) same ∙ sym (h.known y m)

ltb_one_more : (x i : ℕ) → (ltb x i || eqb i x) ≡ ltb x (suc i)
ltb_one_more x i = grind (arith, cases_Bool, ltb, or_left, eqb, lt-ltb, ltb-true, cases_eq, eq-eqb, ne_eqb, le-ltb, ltb-false)

-- a number that is not marked is the least of its class, which is then marked
pub IsCounting-new : (labels : List ℕ) (marked new : ℕ → Bool) (count i m : ℕ) → IsLabels labels → IsCounting labels marked count i → i < length labels → marked i ≡ false → ((y : ℕ) → y < length labels → new y ≡ (marked y || same_class labels i y)) → m ≡ i + 1 → IsCounting labels new (count + 1) m
IsCounting-new labels marked new count i m w h l off marks s = grind (arith, ltb-false, label, same_class, ltb, eqb, ltb_one_more, eq-eqb)

-- a marked number is not the least of its class
pub IsCounting-old : (labels : List ℕ) (marked : ℕ → Bool) (count i m : ℕ) → IsLabels labels → IsCounting labels marked count i → i < length labels → marked i ≡ true → m ≡ i + 1 → IsCounting labels marked count m
IsCounting-old labels marked count i m w h l on s = grind (arith, ltb-true, label, ltb, eqb, ne_eqb, ltb_one_more)

-- at the end the count is that of the classes
pub IsCounting-all : (labels : List ℕ) (marked : ℕ → Bool) (count i : ℕ) → IsCounting labels marked count i → i ≡ length labels → count ≡ class_count labels
IsCounting-all labels marked count i h e = h.counted ∙ ap (count_below (λ j. eqb (label labels j) j)) e

-- no more classes than numbers seen
pub IsCounting-le : (labels : List ℕ) (marked : ℕ → Bool) (count i : ℕ) → IsCounting labels marked count i → count ≤ i
IsCounting-le labels marked count i h =
    omega (arith, h.counted, count_below-le (λ j. eqb (label labels j) j) i)

-- marks that count orbits are kept by each step
pub KeepsMarks-counting : (images : List ℕ) (marked : ℕ → Bool) (count i : ℕ) → IsPermutationOfBelow images → IsCounting (orbits images) marked count i → KeepsMarks images marked
KeepsMarks-counting images marked count i p h y l t =
    let n = length-orbits images in
    sym (IsCounting-together (orbits images) marked count i h y (image images y) (omega arith) (omega (arith, StaysBelow-image images p.within y l)) (orbits-step images p.within y l)) ∙ t

-- how many numbers below k are not marked
abbrev pub unmarked_below : (ℕ → Bool) → ℕ → ℕ
unmarked_below marked k = count_below (λ i. not (marked i)) k

-- a mark set leaves fewer to set
pub unmarked_below-set : (k : ℕ) (old new : ℕ → Bool) (x : ℕ) → SetsMark k old new x → x < k → old x ≡ false → unmarked_below new k < unmarked_below old k
unmarked_below-set k old new x sets l off =
    let more = count_below_more (λ i. not (new i)) (λ i. not (old i)) k x l (ap not sets.here) (ap not off) (λ i m ne. ap not (sets.elsewhere i m ne)) in
    omega arith

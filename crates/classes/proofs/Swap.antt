-- The law of one swap: what becomes of the orbits of a bijection when the images of two numbers are exchanged.
use Rattle.std.proofs.Common.{◌≡◌, ◌≢◌, ◌⊎◌, ℕ, zero, suc, ◌+◌, ◌<◌, ◌≤◌, Bool, true, false, cond, eqb, List, length, get_or, set, refl, sym, ap, ◌∙◌, subst, inl, inr, arith, length-set, get_or-set_same, get_or-set_other}
use Rattle.std.specs.List.{swap}
use Rattle.std.proofs.lemmas.Bool.{cases_Bool, cases_eq, eq-eqb, ne_eqb}
use Rattle.std.proofs.lemmas.List.{get_or_default}
use Rattle.std.proofs.lemmas.List.Edits.{swap_is, length-swap}
use Rattle.classes.specs.Classes.{label, same_class, merge, merge_all, classes, class_count, orbits, orbit_count, image, IsPermutationOfBelow, IsMerged, IsSwapOfOrbits, alone}
use Rattle.classes.proofs.Counting.{one_if, count_below_but_two}
use Rattle.classes.proofs.Classes.{Together, IsLabels, IsLabels-alone, IsLabels-merge, length-alone, label-alone, length-merge, merge-joined, merge-keeps, merge-same, class_count-merge_apart, labels_same, same_class-from, Together-from, apart-from, Together-not}
use Rattle.classes.proofs.Orbits.{steps, StaysBelow, orbits_of, length-orbits_of, IsLabels-orbits_of, orbits_of-step, orbits_of-marked, orbits-image, IsPermuting, IsPermuting-image, count_below-images}

-- ---- fixed points are apart
-- not yet joined to its image, or a fixed point
abbrev IsRoot : (ℕ → ℕ) → ℕ → ℕ → Type 0
IsRoot f n i = (i < n) ⊎ (f i ≡ i)

-- If no two roots are in one class, none are after the steps of the numbers below n: a step n takes its root from the class of n.
roots_apart : (f : ℕ → ℕ) (n : ℕ) (labels : List ℕ) → IsLabels labels → n ≤ length labels → StaysBelow f (length labels) → ((i j : ℕ) → IsRoot f n i → IsRoot f n j → Together labels i j → i ≡ j) → (i j : ℕ) → f i ≡ i → f j ≡ j → Together (merge_all labels (steps f n)) i j → i ≡ j
roots_apart f zero labels w l stays h i j e e' t = h i j (inr e) (inr e') t
roots_apart f (suc n) labels w l stays h i j e e' t =
    let in_n : n < length labels = omega arith in
    let in_f = stays n in_n in
    let wider : (x : ℕ) → IsRoot f n x → IsRoot f (suc n) x = λ x r. elim r [ inl s ↦ inl (omega arith) | inr s ↦ inr s ] in
    let here : IsRoot f (suc n) n = inl (omega arith) in
    let no_root : (x : ℕ) → IsRoot f n x → x ≡ n → f n ≡ n = λ x r s. elim r [ inl s' ↦ absurd (omega arith) | inr s' ↦ ap f (sym s) ∙ (s' ∙ s) ] in
    let step : (x y : ℕ) → IsRoot f n x → IsRoot f n y → Together (merge labels n (f n)) x y → x ≡ y =
    λ x y r r' t'. elim (merge-joined labels n (f n) w in_n in_f x y t') [
      | inl u ↦ h x y (wider x r) (wider y r') u
      | inr u ↦ elim u [
        | inl q ↦
            h x y (wider x r) (wider y r') (q.0 ∙ (ap (label labels) (sym (no_root x r (h x n (wider x r) here q.0))) ∙ q.1))
        | inr q ↦
            h x y (wider x r) (wider y r') (q.0 ∙ (ap (label labels) (no_root y r' (h y n (wider y r') here (sym q.1))) ∙ q.1))
      ]
    ] in
    roots_apart f n (merge labels n (f n)) (IsLabels-merge labels n (f n) w in_n in_f) (rw length-merge (omega arith)) (rw length-merge stays) step i j e e' t

-- two fixed points of any function lie in different classes
pub fixed_points_apart : (f : ℕ → ℕ) (k : ℕ) → StaysBelow f k → (i j : ℕ) → f i ≡ i → f j ≡ j → Together (orbits_of f k) i j → i ≡ j
fixed_points_apart f k stays =
    let n = length-alone k in
    roots_apart f k (alone k) (IsLabels-alone k) (omega arith) (rw length-alone stays) (λ i j r r' t. sym (label-alone k i) ∙ (t ∙ label-alone k j))

-- ---- the exchange
-- a for b and b for a
abbrev pub swapped : ℕ → ℕ → ℕ → ℕ
swapped a b i = cond (eqb i a) b (cond (eqb i b) a i)

-- f with the images of a and b exchanged
abbrev pub exchange : (ℕ → ℕ) → ℕ → ℕ → ℕ → ℕ
exchange f a b i = f (swapped a b i)

pub swapped_first : (a b : ℕ) → swapped a b a ≡ b
swapped_first a b = rw (eq-eqb a a refl) refl

pub swapped_second : (a b : ℕ) → swapped a b b ≡ a
swapped_second a b = elim (cases_eq b a) [ inl e ↦ rw (eq-eqb b a e) e | inr ne ↦ rw (ne_eqb b a ne, eq-eqb b b refl) refl ]

pub swapped_other : (a b i : ℕ) → i ≢ a → i ≢ b → swapped a b i ≡ i
swapped_other a b i ne ne' = rw (ne_eqb i a ne, ne_eqb i b ne') refl

-- a number is a, b or another
cases_two : (a b i : ℕ) → (i ≡ a) ⊎ ((i ≡ b) ⊎ ((i ≢ a) × (i ≢ b)))
cases_two a b i = elim (cases_eq i a) [ inl e ↦ inl e | inr ne ↦ elim (cases_eq i b) [ inl e ↦ inr (inl e) | inr ne' ↦ inr (inr (ne, ne')) ] ]

-- swapping twice changes nothing
pub swapped-swapped : (a b i : ℕ) → swapped a b (swapped a b i) ≡ i
swapped-swapped a b i = grind (arith, cases_two, swapped, swapped_first, swapped_second, swapped_other)

swapped-lt : (a b k i : ℕ) → a < k → b < k → i < k → swapped a b i < k
swapped-lt a b k i la lb l =
    elim (cases_two a b i) [
      | inl e ↦ omega (arith, ap (swapped a b) e, swapped_first a b)
      | inr r ↦ elim r [ inl e ↦ omega (arith, ap (swapped a b) e, swapped_second a b) | inr p ↦ omega (arith, swapped_other a b i p.0 p.1) ]
    ]

-- an exchange leaves a bijection a bijection
pub IsPermuting-exchange : (f : ℕ → ℕ) (k a b : ℕ) → a < k → b < k → IsPermuting f k → IsPermuting (exchange f a b) k
IsPermuting-exchange f k a b la lb w = grind (arith, swapped, swapped-lt, swapped-swapped)

-- f with a and b made fixed points
abbrev pinned : (ℕ → ℕ) → ℕ → ℕ → ℕ → ℕ
pinned f a b i = cond (eqb i a) a (cond (eqb i b) b (f i))

pinned_first : (f : ℕ → ℕ) (a b : ℕ) → pinned f a b a ≡ a
pinned_first f a b = rw (eq-eqb a a refl) refl

pinned_second : (f : ℕ → ℕ) (a b : ℕ) → pinned f a b b ≡ b
pinned_second f a b = elim (cases_eq b a) [ inl e ↦ rw (eq-eqb b a e) (sym e) | inr ne ↦ rw (ne_eqb b a ne, eq-eqb b b refl) refl ]

pinned_other : (f : ℕ → ℕ) (a b i : ℕ) → i ≢ a → i ≢ b → pinned f a b i ≡ f i
pinned_other f a b i ne ne' = rw (ne_eqb i a ne, ne_eqb i b ne') refl

-- With a and b pinned they are the ends of two paths, which begin at their images; every other class is an orbit of f.
module _ (f : ℕ → ℕ) (k a b : ℕ) (w : IsPermuting f k) (la : a < k) (lb : b < k) (ne : a ≢ b) where
  paths : List ℕ
  paths = orbits_of (pinned f a b) k

  pinned_stays : StaysBelow (pinned f a b) k
  pinned_stays i l =
      elim (cases_two a b i) [
        | inl e ↦ omega (arith, ap (pinned f a b) e, pinned_first f a b)
        | inr r ↦ elim r [ inl e ↦ omega (arith, ap (pinned f a b) e, pinned_second f a b) | inr p ↦ omega (arith, pinned_other f a b i p.0 p.1, w.within i l) ]
      ]

  length-paths : length paths ≡ k
  unfolding paths
  length-paths = length-orbits_of (pinned f a b) k

  IsLabels-paths : IsLabels paths
  unfolding paths
  IsLabels-paths = IsLabels-orbits_of (pinned f a b) k pinned_stays

  -- the two ends are apart
  ends_apart : Together paths a b → ⊥
  unfolding paths
  ends_apart t = ne (fixed_points_apart (pinned f a b) k pinned_stays a b (pinned_first f a b) (pinned_second f a b) t)

  -- another number is on the path of its image
  along : (i : ℕ) → i < k → i ≢ a → i ≢ b → Together paths i (f i)
  unfolding paths
  along i l d d' = orbits_of-step (pinned f a b) k pinned_stays i l ∙ ap (label (orbits_of (pinned f a b) k)) (pinned_other f a b i d d')

  -- of the images of a and b as many are with c as of a and b
  ends_with : (c : ℕ) → one_if (same_class paths c (f a)) + one_if (same_class paths c (f b)) ≡ one_if (same_class paths c a) + one_if (same_class paths c b)
  ends_with c =
      let p : ℕ → Bool = same_class paths c in
      let agree : (i : ℕ) → i < k → i ≢ a → i ≢ b → p i ≡ p (f i) = λ i l d d'. ap (λ x. eqb (label paths c) x) (along i l d d') in
      omega (arith, count_below-images f k w p, count_below_but_two p (λ i. p (f i)) k a b la lb ne agree)

  -- each end begins the one path or the other
  ends_cases : (Together paths a (f a) × Together paths b (f b)) ⊎ (Together paths b (f a) × Together paths a (f b))
  ends_cases =
      let p = same_class paths in
      let ab : p a b ≡ false = apart-from paths a b ends_apart in
      let bb : p b b ≡ true = same_class-from paths b b refl in
      let ba : p b a ≡ false = apart-from paths b a (λ t. ends_apart (sym t)) in
      let sum_b = ends_with b in
      grind (arith, cases_Bool, Together-from, paths, apart-from, ends_apart, one_if, ends_with, same_class-from)

  -- what g, which is f but at a and b, makes of the paths
  module _ (g : ℕ → ℕ) (stays : StaysBelow g k) (same : (i : ℕ) → i ≢ a → i ≢ b → g i ≡ f i) where
    paths_in : (i j : ℕ) → i < k → j < k → Together paths i j → Together (orbits_of g k) i j
    unfolding paths
    paths_in =
        let L = label (orbits_of g k) in
        orbits_of-marked L (pinned f a b) k pinned_stays (λ i l.
        elim (cases_two a b i) [
          | inl e ↦ ap L (e ∙ (sym (pinned_first f a b) ∙ ap (pinned f a b) (sym e)))
          | inr r ↦ elim r [
            | inl e ↦ ap L (e ∙ (sym (pinned_second f a b) ∙ ap (pinned f a b) (sym e)))
            | inr p ↦ (orbits_of-step g k stays) i l ∙ ap L (same i p.0 p.1 ∙ sym (pinned_other f a b i p.0 p.1))
          ]
        ])

    -- the orbits lie in each coarser list of labels that holds the pairs of a and b
    orbits_in : (labels : List ℕ) → ((i j : ℕ) → Together paths i j → Together labels i j) → Together labels a (g a) → Together labels b (g b) → (i j : ℕ) → i < k → j < k → Together (orbits_of g k) i j → Together labels i j
    orbits_in labels coarser at_a at_b =
        orbits_of-marked (label labels) g k stays (λ i l.
        elim (cases_two a b i) [
          | inl e ↦ ap (label labels) e ∙ (at_a ∙ ap (λ x. label labels (g x)) (sym e))
          | inr r ↦ elim r [
            | inl e ↦ ap (label labels) e ∙ (at_b ∙ ap (λ x. label labels (g x)) (sym e))
            | inr p ↦ coarser i (f i) (along i l p.0 p.1) ∙ ap (label labels) (sym (same i p.0 p.1))
          ]
        ])

    -- where each end goes back to the start of its own path, the paths are closed as they are
    orbits_closed : Together paths a (g a) → Together paths b (g b) → orbits_of g k ≡ paths
    orbits_closed at_a at_b =
        let n = length-orbits_of g k in
        labels_same (orbits_of g k) paths (IsLabels-orbits_of g k stays) IsLabels-paths (n ∙ sym length-paths)
        (λ i j l m t. orbits_in paths (λ x y t'. t') at_a at_b i j (omega arith) (omega arith) t)
        (λ i j l m t. paths_in i j (omega (arith, length-paths)) (omega (arith, length-paths)) t)

    -- where each goes to the start of the other path, the two are made one
    orbits_joined : Together paths b (g a) → Together paths a (g b) → orbits_of g k ≡ merge paths a b
    orbits_joined at_a at_b =
        let n = length-orbits_of g k in
        let n' = length-paths in
        let in_a : a < length paths = omega arith in
        let in_b : b < length paths = omega arith in
        let keeps = merge-keeps paths a b IsLabels-paths in_a in_b in
        let joined = merge-same paths a b IsLabels-paths in_a in_b in
        let over : Together (orbits_of g k) a b = (orbits_of-step g k stays) a la ∙ paths_in (g a) b (stays a la) lb (sym at_a) in
        labels_same (orbits_of g k) (merge paths a b) (IsLabels-orbits_of g k stays) (IsLabels-merge paths a b IsLabels-paths in_a in_b) (n ∙ (sym n' ∙ sym (length-merge paths a b)))
        (λ i j l m t. orbits_in (merge paths a b) keeps (joined ∙ keeps b (g a) at_a) (sym joined ∙ keeps a (g b) at_b) i j (omega arith) (omega arith) t)
        (λ i j l m t.
        let li : i < k = omega (arith, length-merge paths a b) in
        let lj : j < k = omega (arith, length-merge paths a b) in
        elim (merge-joined paths a b IsLabels-paths in_a in_b i j t) [
          | inl q ↦ paths_in i j li lj q
          | inr r ↦ elim r [
            | inl q ↦ paths_in i a li la q.0 ∙ (over ∙ paths_in b j lb lj q.1)
            | inr q ↦ paths_in i b li lb q.0 ∙ (sym over ∙ paths_in a j la lj q.1)
          ]
        ])

  IsMerged-paths : (two one : List ℕ) → two ≡ paths → one ≡ merge paths a b → IsMerged two one a b
  IsMerged-paths two one e e' = grind (arith, length-paths, class_count-merge_apart, paths, IsLabels-paths, ends_apart, apart-from, merge, class_count)

  -- the law of one swap, over functions
  pub exchange_orbits : IsSwapOfOrbits (orbits_of f k) (orbits_of (exchange f a b) k) a b
  exchange_orbits =
      let g = exchange f a b in
      let stays = (IsPermuting-exchange f k a b la lb w).within in
      let same : (i : ℕ) → i ≢ a → i ≢ b → g i ≡ f i = λ i d d'. ap f (swapped_other a b i d d') in
      let first : g a ≡ f b = ap f (swapped_first a b) in
      let second : g b ≡ f a = ap f (swapped_second a b) in
      let L = label paths in
      let n' = length-paths in
      grind (arith, ends_cases, orbits_closed, orbits_joined, ends_apart, Together-from, paths, IsMerged-paths, orbits_of, Together-not, merge-same, IsLabels-paths)

-- ---- over lists of images
-- the orbits depend on the images alone
pub steps_same : (f g : ℕ → ℕ) (n : ℕ) → ((i : ℕ) → i < n → f i ≡ g i) → steps f n ≡ steps g n
steps_same f g zero h = refl
steps_same f g (suc n) h = cc (h n (omega arith), steps_same f g n (λ i l. h i (omega arith)))

pub orbits_of-same : (f g : ℕ → ℕ) (k : ℕ) → ((i : ℕ) → i < k → f i ≡ g i) → orbits_of f k ≡ orbits_of g k
orbits_of-same f g k h = ap (classes k) (steps_same f g k h)

-- the images after a swap
pub image-swap : (images : List ℕ) (a b : ℕ) → a < length images → b < length images → (i : ℕ) → i < length images → image (swap images a b) i ≡ exchange (image images) a b i
image-swap images a b la lb i l =
    let first = set images a (get_or images b i) in
    let in_b : b < length first = rw length-set lb in
    let e : get_or (swap images a b) i i ≡ get_or (set first b (get_or images a i)) i i = ap (λ l. get_or l i i) (sym (swap_is images a b i la lb)) in
    grind (arith, cases_eq, get_or, set, get_or-set_same, get_or_default, image, swapped, swapped_second, swap, get_or-set_other, swapped_first, swapped_other)

-- a list whose function is a bijection holds a bijection
pub IsPermutationOfBelow-from : (images : List ℕ) → IsPermuting (image images) (length images) → IsPermutationOfBelow images
IsPermutationOfBelow-from images w =
    record {
      within = λ i d l. let e = get_or_default images i d i l in omega (arith, w.within i l);
      distinct = λ i j d s l e.
          let li : i < length images = omega arith in
          absurd (omega (arith, w.apart i j li l (get_or_default images i i d li ∙ (e ∙ get_or_default images j d j l))));
    }

-- a swap leaves a bijection a bijection
pub IsPermutationOfBelow-swap : (images : List ℕ) (a b : ℕ) → IsPermutationOfBelow images → a < length images → b < length images → IsPermutationOfBelow (swap images a b)
IsPermutationOfBelow-swap images a b p la lb =
    let k = length images in
    let len = length-swap images a b in
    let w = IsPermuting-exchange (image images) k a b la lb (IsPermuting-image images p) in
    let at = image-swap images a b la lb in
    IsPermutationOfBelow-from (swap images a b) (record {
      within = λ i l. let li : i < k = omega arith in omega (arith, at i li, w.within i li);
      apart = λ i j l m e. let li : i < k = omega arith in let lj : j < k = omega arith in w.apart i j li lj (sym (at i li) ∙ (e ∙ at j lj));
    })

-- THE LAW OF ONE SWAP: exchanging the images of a and b cuts their orbit in two where they lie in one, and makes their two orbits one where not.
pub swap_orbits : (images : List ℕ) (a b : ℕ) → IsPermutationOfBelow images → a < length images → b < length images → a ≢ b → IsSwapOfOrbits (orbits images) (orbits (swap images a b)) a b
swap_orbits images a b p la lb ne =
    let k = length images in
    let law = exchange_orbits (image images) k a b (IsPermuting-image images p) la lb ne in
    let q = IsPermutationOfBelow-swap images a b p la lb in
    let len = length-swap images a b in
    let old = orbits-image images p.within in
    let new : orbits (swap images a b) ≡ orbits_of (exchange (image images) a b) k =
    orbits-image (swap images a b) q.within ∙ (ap (orbits_of (image (swap images a b))) len ∙ orbits_of-same (image (swap images a b)) (exchange (image images) a b) k (image-swap images a b la lb)) in
    subst (λ l. IsSwapOfOrbits (orbits images) l a b) (sym new) (subst (λ l. IsSwapOfOrbits l (orbits_of (exchange (image images) a b) k) a b) (sym old) law)

-- the law on the number of orbits
pub orbit_count-cut : (images : List ℕ) (a b : ℕ) → IsPermutationOfBelow images → a < length images → b < length images → a ≢ b → same_class (orbits images) a b ≡ true → orbit_count (swap images a b) ≡ orbit_count images + 1
orbit_count-cut images a b p la lb ne t = ((swap_orbits images a b p la lb ne).cut t).fewer

pub orbit_count-joined : (images : List ℕ) (a b : ℕ) → IsPermutationOfBelow images → a < length images → b < length images → a ≢ b → same_class (orbits images) a b ≡ false → orbit_count images ≡ orbit_count (swap images a b) + 1
orbit_count-joined images a b p la lb ne t = ((swap_orbits images a b p la lb ne).joined t).fewer

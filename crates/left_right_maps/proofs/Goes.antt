-- Lists through which the steps of a function lead, and the entries of a list in turn.
use Rattle.std.proofs.Common.{◌≡◌, ◌≢◌, ℕ, zero, suc, ◌+◌, ◌<◌, ltb, List, [], ◌∷◌, ◌++◌, length, get_or, AllPairs, Contains, refl, sym, ap, ◌∙◌, subst, arith, length-append}
use Rattle.std.proofs.lemmas.Bool.{cond-true, cond-false, lt-ltb, le-ltb}
use Rattle.std.proofs.lemmas.List.Elements.{Contains-get_or}
use Rattle.std.proofs.lemmas.List.{get_or-append-add, append_assoc}
use Rattle.map_theory.specs.Maps.{entry_after, place_of}
use Rattle.map_theory.proofs.DartLemmas.{place_of-get_or, place_after, entry_after-place}
use Rattle.left_right_laws.specs.Ways.{first_on}

-- from x on, the steps of f lead through a list, and then to y
abbrev pub Goes : {X : Type 0} → (X → X) → X → List X → X → Type 0
Goes f x [] y = x ≡ y
Goes f x (z ∷ zs) y = (x ≡ z) × Goes f (f x) zs y

module _ {X : Type 0} (f : X → X) where
  pub goes_on : (x : X) (xs ys : List X) (y z : X) → Goes f x xs y → Goes f y ys z → Goes f x (xs ++ ys) z
  goes_on x [] ys y z first second = subst (λ w. Goes f w ys z) (sym first) second
  goes_on x (w ∷ xs) ys y z first second = (first.0, goes_on (f x) xs ys y z first.1 second)

  pub goes_next : (x : X) (xs : List X) (y d : X) (p : ℕ) → Goes f x xs y → suc p < length xs → f (get_or xs p d) ≡ get_or xs (suc p) d
  goes_next x [] y d p goes l = absurd (omega arith)
  goes_next x (z ∷ []) y d p goes l = absurd (omega arith)
  goes_next x (z ∷ w ∷ xs) y d zero goes l = ap f (sym goes.0) ∙ goes.1.0
  goes_next x (z ∷ w ∷ xs) y d (suc p) goes l = goes_next (f x) (w ∷ xs) y d p goes.1 (omega arith)

  pub goes_last : (x : X) (xs : List X) (y d : X) (p : ℕ) → Goes f x xs y → suc p ≡ length xs → f (get_or xs p d) ≡ y
  goes_last x [] y d p goes l = absurd (omega arith)
  goes_last x (z ∷ []) y d zero goes l = ap f (sym goes.0) ∙ goes.1
  goes_last x (z ∷ []) y d (suc p) goes l = absurd (omega arith)
  goes_last x (z ∷ w ∷ xs) y d zero goes l = absurd (omega arith)
  goes_last x (z ∷ w ∷ xs) y d (suc p) goes l = goes_last (f x) (w ∷ xs) y d p goes.1 (omega arith)

  -- where no two lead to one, and the first does not come again, none does
  module _ (x : X) (xs : List X) (y : X) (goes : Goes f x (x ∷ xs) y) (once : ¬ Contains xs x) (apart : (a b : X) → Contains (x ∷ xs) a → Contains (x ∷ xs) b → f a ≡ f b → a ≡ b) where
    pub distinct_goes : AllPairs ◌≢◌ (x ∷ xs)
    distinct_goes i zero d l m e = absurd (omega arith)
    distinct_goes zero (suc j) d l m e = once (subst (Contains xs) (sym e) (Contains-get_or xs j d (omega arith)))
    distinct_goes (suc i) (suc j) d l m e =
        let a = goes_next x (x ∷ xs) y d i goes (omega arith) in
        let b = goes_next x (x ∷ xs) y d j goes (omega arith) in
        distinct_goes i j d (omega arith) (omega arith) (apart (get_or (x ∷ xs) i d) (get_or (x ∷ xs) j d) (Contains-get_or (x ∷ xs) i d (omega arith)) (Contains-get_or (x ∷ xs) j d (omega arith)) (a ∙ (e ∙ sym b)))

-- ---- the entries of a list in turn
module _ (us : List ℕ) (distinct : AllPairs ◌≢◌ us) where
  place_is : (xs : List ℕ) (y : ℕ) (ys : List ℕ) → us ≡ xs ++ y ∷ ys → place_of y us ≡ length xs
  place_is xs y ys is =
      let long : length us ≡ length xs + suc (length ys) = ap length is ∙ length-append xs (y ∷ ys) in
      let none : length xs ≡ length xs + 0 = omega arith in
      let at : get_or us (length xs) 0 ≡ y = ap (λ zs. get_or zs (length xs) 0) is ∙ (ap (λ k. get_or (xs ++ y ∷ ys) k 0) none ∙ get_or-append-add xs (y ∷ ys) 0 0) in
      subst (λ z. place_of z us ≡ length xs) at (place_of-get_or us (length xs) 0 distinct (omega arith))

  after_is : (xs : List ℕ) (y : ℕ) (ys : List ℕ) → us ≡ xs ++ y ∷ ys → 0 < length ys → entry_after y us ≡ get_or ys 0 0
  after_is xs y ys is some =
      let long : length us ≡ length xs + suc (length ys) = ap length is ∙ length-append xs (y ∷ ys) in
      let k = place_is xs y ys is in
      entry_after-place y us 0 (omega arith)
      ∙ (ap (λ i. get_or us (place_after (length us) i) 0) k
      ∙ (ap (λ i. get_or us i 0) (cond-true {A = ℕ} (ltb (length xs + 1) (length us)) (length xs + 1) 0 (lt-ltb (length xs + 1) (length us) (omega arith)))
      ∙ (ap (λ zs. get_or zs (length xs + 1) 0) is ∙ get_or-append-add xs (y ∷ ys) 1 0)))

  first_is : (ys : List ℕ) (p : ℕ) → get_or (ys ++ p ∷ []) 0 0 ≡ first_on ys p
  first_is [] p = refl
  first_is (y ∷ ys) p = refl

  pub after_last : (xs : List ℕ) (p : ℕ) → us ≡ xs ++ p ∷ [] → entry_after p us ≡ first_on xs p
  after_last xs p is =
      let long : length us ≡ length xs + 1 = ap length is ∙ length-append xs (p ∷ []) in
      let k = place_is xs p [] is in
      entry_after-place p us 0 (omega arith)
      ∙ (ap (λ i. get_or us (place_after (length us) i) 0) k
      ∙ (ap (λ i. get_or us i 0) (cond-false {A = ℕ} (ltb (length xs + 1) (length us)) (length xs + 1) 0 (le-ltb (length xs + 1) (length us) (omega arith)))
      ∙ (ap (λ zs. get_or zs 0 0) is ∙ first_is xs p)))

  pub goes_round : (xs ys : List ℕ) (p : ℕ) → us ≡ xs ++ (ys ++ p ∷ []) → Goes (λ x. entry_after x us) (first_on ys p) ys p
  goes_round xs [] p is = refl
  goes_round xs (y ∷ ys) p is =
      let next : entry_after y us ≡ first_on ys p = after_is xs y (ys ++ p ∷ []) is (omega (arith, length-append ys (p ∷ []))) ∙ first_is ys p in
      (refl, subst (λ z. Goes (λ x. entry_after x us) z ys p) (sym next) (goes_round (xs ++ y ∷ []) ys p (is ∙ sym (append_assoc xs (y ∷ []) (ys ++ p ∷ [])))))

  -- round a list, from its first entry on back to it
  first_pushed : (ys : List ℕ) (p r : ℕ) → first_on (ys ++ p ∷ []) r ≡ first_on ys p
  first_pushed [] p r = refl
  first_pushed (y ∷ ys) p r = refl

  pub goes_cycle_at : (ys : List ℕ) (p r : ℕ) → us ≡ ys ++ p ∷ [] → Goes (λ x. entry_after x us) (first_on us r) us (first_on us r)
  goes_cycle_at ys p r is =
      let f : ℕ → ℕ = λ x. entry_after x us in
      let first : first_on us r ≡ first_on ys p = ap (λ zs. first_on zs r) is ∙ first_pushed ys p r in
      let whole : Goes f (first_on ys p) (ys ++ p ∷ []) (f p) = goes_on f (first_on ys p) ys (p ∷ []) p (f p) (goes_round [] ys p is) (refl, refl) in
      subst (λ zs. Goes f (first_on us r) zs (first_on us r)) (sym is)
      (subst (λ y. Goes f (first_on us r) (ys ++ p ∷ []) y) (after_last ys p is ∙ sym first) (subst (λ x. Goes f x (ys ++ p ∷ []) (f p)) (sym first) whole))

-- a list that holds something has a last entry
pub pushed_last : (u : ℕ) (us : List ℕ) → (ys : List ℕ) × ((p : ℕ) × (u ∷ us ≡ ys ++ p ∷ []))
pushed_last u [] = ([], (u, refl))
pushed_last u (w ∷ us) = let rest = pushed_last w us in (u ∷ rest.0, (rest.1.0, ap (λ zs. u ∷ zs) rest.1.1))

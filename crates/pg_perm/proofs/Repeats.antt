-- The least repeat of a list, found from its back with a table of places.
use Rattle.std.proofs.Common.{◌≡◌, ◌≢◌, ◌⊎◌, ℕ, suc, ◌<◌, ◌≤◌, List, length, get_or, set, Option, Some, None, MatchOption, sym, ap, ◌∙◌, inl, inr, arith, length-set, get_or-set_same, get_or-set_other}
use Rattle.std.specs.List.{AllPairs}
use Rattle.std.proofs.lemmas.Bool.{cases_eq}
use Rattle.std.proofs.lemmas.List.{get_or_default}
use Rattle.pg_perm.specs.Repeat.{IsRepeat, IsFirstRepeat}

-- For each number below the length the least place from `from` on at which it stands; the length where it stands at none.
pub record IsPlaces (images place : List ℕ) (from : ℕ) : Type 0 where
  pub size : length place ≡ length images
  pub at : (x : ℕ) → x < length images → get_or place x 0 < length images → (from ≤ get_or place x 0) × (get_or images (get_or place x 0) 0 ≡ x)
  pub top : (x : ℕ) → x < length images → get_or place x 0 ≤ length images
  pub least : (x b : ℕ) → x < length images → from ≤ b → b < length images → get_or images b 0 ≡ x → get_or place x 0 ≤ b

-- the least repeat whose first place is not before `from`
pub record IsFirstFrom (images : List ℕ) (from i j : ℕ) : Type 0 where
  pub since : from ≤ i
  pub repeat : IsRepeat images i j
  pub least : (a b : ℕ) → from ≤ a → IsRepeat images a b → (i < a) ⊎ ((i ≡ a) × (j ≤ b))

-- that repeat, or that there is none
abbrev pub IsFoundFrom : List ℕ → ℕ → Option (ℕ × ℕ) → Type 0
IsFoundFrom images from found =
    MatchOption found ((a b : ℕ) → from ≤ a → IsRepeat images a b → ⊥) (λ pair. IsFirstFrom images from pair.0 pair.1)

-- one place more, from the back
pub IsPlaces-more : (images place : List ℕ) (i : ℕ) → i < length images → get_or images i 0 < length images → IsPlaces images place (suc i) → IsPlaces images (set place (get_or images i 0) i) i
IsPlaces-more images place i l m h =
    let x = get_or images i 0 in
    let new = set place x i in
    let here : get_or new x 0 ≡ i = get_or-set_same place x i 0 (omega (arith, h.size)) in
    let other = λ (y : ℕ) (ne : y ≢ x). get_or-set_other place x y i 0 ne in
    record {
      size = length-set place x i ∙ h.size;
      at = λ y n s. elim (cases_eq y x) [
        | inl e ↦
            let at_y : get_or new y 0 ≡ i = ap (λ z. get_or new z 0) e ∙ here in
            (omega arith, ap (λ z. get_or images z 0) at_y ∙ sym e)
        | inr ne ↦
            let same = other y ne in
            let old = h.at y n (omega arith) in
            (omega (arith, old.0), ap (λ z. get_or images z 0) same ∙ old.1)
      ];
      top = λ y n. elim (cases_eq y x) [ inl e ↦ omega (arith, ap (λ z. get_or new z 0) e) | inr ne ↦ omega (arith, other y ne, h.top y n) ];
      least = λ y b n s s' e. elim (cases_eq y x) [
        | inl q ↦ omega (arith, ap (λ z. get_or new z 0) q)
        | inr ne ↦
            let later : b ≢ i = λ q. ne (sym e ∙ ap (λ z. get_or images z 0) q) in
            omega (arith, other y ne, h.least y b n (omega arith) s' e)
      ];
    }

-- the number at i stands later too: that pair is now the least
pub IsFirstFrom-new : (images place : List ℕ) (i j : ℕ) → get_or images i 0 < length images → IsPlaces images place (suc i) → j ≡ get_or place (get_or images i 0) 0 → j ≢ length images → IsFirstFrom images i i j
IsFirstFrom-new images place i j m h e ne =
    let x = get_or images i 0 in
    let top = h.top x m in
    let at = h.at x m (omega arith) in
    record {
      since = omega arith;
      repeat = record { order = omega (arith, at.0); within = omega arith; same = sym (ap (λ z. get_or images z 0) e ∙ at.1) };
      least = λ a b l r. elim (cases_eq a i) [
        | inl q ↦
            let order = r.order in
            let least = h.least x b m (omega arith) r.within (sym r.same ∙ ap (λ z. get_or images z 0) q) in
            inr (sym q, omega arith)
        | inr d ↦ inl (omega arith)
      ];
    }

-- a number that stands at i and at no later place is in no repeat from i
no_repeat : (images place : List ℕ) (i a b : ℕ) → get_or images i 0 < length images → IsPlaces images place (suc i) → get_or place (get_or images i 0) 0 ≡ length images → a ≡ i → IsRepeat images a b → ⊥
no_repeat images place i a b m h e q r =
    let order = r.order in
    omega (arith, r.within, h.least (get_or images i 0) b m (omega arith) r.within (sym r.same ∙ ap (λ z. get_or images z 0) q))

-- it does not: what was found stays
pub IsFoundFrom-old : (images place : List ℕ) (i : ℕ) (found : Option (ℕ × ℕ)) → get_or images i 0 < length images → IsPlaces images place (suc i) → get_or place (get_or images i 0) 0 ≡ length images → IsFoundFrom images (suc i) found → IsFoundFrom images i found
IsFoundFrom-old images place i None m h e f = λ a b l r. elim (cases_eq a i) [ inl q ↦ no_repeat images place i a b m h e q r | inr d ↦ f a b (omega arith) r ]
IsFoundFrom-old images place i (Some pair) m h e f =
    record {
      since = omega (arith, f.since);
      repeat = f.repeat;
      least = λ a b l r. elim (cases_eq a i) [ inl q ↦ absurd (no_repeat images place i a b m h e q r) | inr d ↦ f.least a b (omega arith) r ];
    }

-- from the first place on, it is the least of all
pub IsFoundFrom-all : (images : List ℕ) (found : Option (ℕ × ℕ)) → IsFoundFrom images 0 found → MatchOption found (AllPairs ◌≢◌ images) (λ pair. IsFirstRepeat images pair.0 pair.1)
IsFoundFrom-all images None f =
    λ i j d l m e. f i j (omega arith) (record { order = l; within = m; same = get_or_default images i 0 d (omega arith) ∙ (e ∙ get_or_default images j d 0 m) })
IsFoundFrom-all images (Some pair) f = record { repeat = f.repeat; least = λ a b r. f.least a b (omega arith) r }

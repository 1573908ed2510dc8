-- Lists cut where a test changes, and the ends of what is in order: those that end deepest stand at both ends.
use Rattle.std.proofs.Common.{◌≡◌, ◌≢◌, ◌⊎◌, ℕ, zero, suc, ◌<◌, Bool, true, false, cond, not, eqb, List, [], ◌∷◌, ◌++◌, AllPairs, Contains, refl, sym, ap, ◌∙◌, subst, inl, inr, arith, eqb-true, eq-eqb}
use Rattle.std.proofs.lemmas.Bool.{cases_Bool, cases_lt, cond-true, cond-false, true≢false}
use Rattle.std.proofs.lemmas.List.Elements.{Contains-append_cases, Contains-append_left, Contains-append_right}
use Rattle.map_theory.specs.Maps.{Dart, twin_dart}
use Rattle.left_right_maps.specs.RootedMaps.{joined}
use Rattle.left_right_maps.specs.Orders.{MayPrecede}
use Rattle.left_right_maps.proofs.Inserts.{none_in_none, here, there, here_or_there, pairs_none, pairs_more, pairs_head, pairs_tail, pairs_joined}
use Rattle.left_right_maps.proofs.Opens.{ups, joined_append}

module _ (p : Dart → Bool) where
  -- the first entries that pass, and the others
  pub lead : List Dart → List Dart
  lead [] = []
  lead (d ∷ ds) = cond (p d) (d ∷ lead ds) []

  pub trail : List Dart → List Dart
  trail [] = []
  trail (d ∷ ds) = cond (p d) (trail ds) (d ∷ ds)

  lead_true : (d : Dart) (ds : List Dart) → p d ≡ true → lead (d ∷ ds) ≡ d ∷ lead ds
  unfolding lead
  lead_true d ds t = cond-true {A = List Dart} (p d) (d ∷ lead ds) [] t

  lead_false : (d : Dart) (ds : List Dart) → p d ≡ false → lead (d ∷ ds) ≡ []
  unfolding lead
  lead_false d ds f = cond-false {A = List Dart} (p d) (d ∷ lead ds) [] f

  pub trail_true : (d : Dart) (ds : List Dart) → p d ≡ true → trail (d ∷ ds) ≡ trail ds
  unfolding trail
  trail_true d ds t = cond-true {A = List Dart} (p d) (trail ds) (d ∷ ds) t

  pub trail_false : (d : Dart) (ds : List Dart) → p d ≡ false → trail (d ∷ ds) ≡ d ∷ ds
  unfolding trail
  trail_false d ds f = cond-false {A = List Dart} (p d) (trail ds) (d ∷ ds) f

  pub lead_trail : (ds : List Dart) → ds ≡ lead ds ++ trail ds
  unfolding lead trail
  lead_trail [] = refl
  lead_trail (d ∷ ds) =
      elim (cases_Bool (p d)) [
        | inl t ↦ ap (λ z. d ∷ z) (lead_trail ds) ∙ (ap (λ z. d ∷ (lead ds ++ z)) (sym (trail_true d ds t)) ∙ ap (λ z. z ++ trail (d ∷ ds)) (sym (lead_true d ds t)))
        | inr f ↦ sym (trail_false d ds f) ∙ ap (λ z. z ++ trail (d ∷ ds)) (sym (lead_false d ds f))
      ]

  pub lead_all : (ds : List Dart) (x : Dart) → Contains (lead ds) x → p x ≡ true
  unfolding lead
  lead_all [] x c = absurd (none_in_none x c)
  lead_all (d ∷ ds) x c =
      elim (cases_Bool (p d)) [
        | inl t ↦ elim (here_or_there d x (lead ds) (subst (λ z. Contains z x) (lead_true d ds t) c)) [ inl e ↦ ap p (sym e) ∙ t | inr c' ↦ lead_all ds x c' ]
        | inr f ↦ absurd (none_in_none x (subst (λ z. Contains z x) (lead_false d ds f) c))
      ]

  pub trail_none : trail [] ≡ []
  unfolding trail
  trail_none = refl

-- the first ends of darts, from the last to the first
abbrev pub uppers : List Dart → List ℕ
uppers [] = []
uppers (d ∷ ds) = uppers ds ++ d.0 ∷ []

pub uppers_parts : (ds : List Dart) (x : ℕ) → Contains (uppers ds) x → (d : Dart) × (Contains ds d × (d.0 ≡ x))
uppers_parts [] x c = absurd (none_in_none x c)
uppers_parts (d ∷ ds) x c =
    elim (Contains-append_cases (uppers ds) (d.0 ∷ []) x c) [
      | inl c' ↦ (let rest = uppers_parts ds x c' in (rest.0, (there d rest.0 ds rest.1.0, rest.1.1)))
      | inr c' ↦ elim (here_or_there d.0 x [] c') [ inl e ↦ (d, (here d ds, e)) | inr none ↦ absurd (none_in_none x none) ]
    ]

pub uppers_hold : (ds : List Dart) (d : Dart) → Contains ds d → Contains (uppers ds) d.0
uppers_hold [] d c = absurd (none_in_none d c)
uppers_hold (e ∷ ds) d c =
    elim (here_or_there e d ds c) [
      | inl same ↦ subst (λ (z : Dart). Contains (uppers ds ++ e.0 ∷ []) z.0) same (Contains-append_right (uppers ds) (e.0 ∷ []) e.0 (here e.0 []))
      | inr c' ↦ Contains-append_left (uppers ds) (e.0 ∷ []) d.0 (uppers_hold ds d c')
    ]

pub uppers_distinct : (v : ℕ) (ds : List Dart) → ((d : Dart) → Contains ds d → d.1 ≡ v) → AllPairs ◌≢◌ ds → AllPairs ◌≢◌ (uppers ds)
uppers_distinct v [] ends distinct = pairs_none ◌≢◌
uppers_distinct v (d ∷ ds) ends distinct =
    pairs_joined ◌≢◌ (uppers ds) (d.0 ∷ []) (uppers_distinct v ds (λ x c. ends x (there d x ds c)) (pairs_tail ◌≢◌ d ds distinct)) (pairs_more ◌≢◌ d.0 [] (λ y c. absurd (none_in_none y c)) (pairs_none ◌≢◌))
    (λ x y c c' e.
    let part = uppers_parts ds x c in
    let last : d.0 ≡ y = elim (here_or_there d.0 y [] c') [ inl h ↦ h | inr none ↦ absurd (none_in_none y none) ] in
    let two : d.1 ≡ part.0.1 = ends d (here d ds) ∙ sym (ends part.0 (there d part.0 ds part.1.0)) in
    pairs_head ◌≢◌ d ds distinct part.0 part.1.0 (ap (λ z. (z, d.1)) (last ∙ (sym e ∙ sym part.1.1)) ∙ ap (λ z. (part.0.0, z)) two))

-- past edges that end at v, one by one
pub joined_uppers : (f : ℕ → List Dart) (ds : List Dart) → ((d : Dart) → Contains ds d → f d.0 ≡ twin_dart d ∷ []) → joined f (uppers ds) ≡ ups ds
joined_uppers f [] each = refl
joined_uppers f (d ∷ ds) each =
    joined_append f (uppers ds) (d.0 ∷ []) ∙ (ap (λ z. z ++ (f d.0 ++ [])) (joined_uppers f ds (λ x c. each x (there d x ds c))) ∙ ap (λ z. ups ds ++ (z ++ [])) (each d (here d ds)))

module _ (depth : ℕ → ℕ) (left : ℕ → ℕ → Bool) (v : ℕ) where
  abbrev pub ends_at : Dart → Bool
  ends_at d = eqb d.1 v

  abbrev pub ends_off : Dart → Bool
  ends_off d = not (eqb d.1 v)

  abbrev Ends : Dart → Type 0
  Ends d = (d.1 ≡ v) ⊎ (depth d.1 < depth v)

  off_at : (d : Dart) → ends_off d ≡ false → d.1 ≡ v
  off_at d f = elim (cases_Bool (eqb d.1 v)) [ inl t ↦ eqb-true d.1 v t | inr f' ↦ absurd (true≢false (sym (ap not f') ∙ f)) ]

  -- behind one that ends higher, and then one that ends at v, all end at v
  behind_low : (x : Dart) (ds : List Dart) → depth x.1 < depth v → AllPairs (MayPrecede depth left) (x ∷ ds) → ((d : Dart) → Contains ds d → Ends d) → (d : Dart) → Contains (trail ends_off ds) d → d.1 ≡ v
  behind_low x [] low pairs ends d c = absurd (none_in_none d (subst (λ z. Contains z d) (trail_none ends_off) c))
  behind_low x (y ∷ ds) low pairs ends d c =
      let R : Dart → Dart → Type 0 = MayPrecede depth left in
      let more = pairs_tail R x (y ∷ ds) pairs in
      elim (cases_Bool (ends_off y)) [
        | inl t ↦ behind_low x ds low (pairs_more R x ds (λ z c'. pairs_head R x (y ∷ ds) pairs z (there y z ds c')) (pairs_tail R y ds more)) (λ z c'. ends z (there y z ds c')) d (subst (λ z. Contains z d) (trail_true ends_off y ds t) c)
        | inr f ↦
            let at = off_at y f in
            elim (here_or_there y d ds (subst (λ z. Contains z d) (trail_false ends_off y ds f) c)) [
              | inl e ↦ ap (λ (z : Dart). z.1) (sym e) ∙ at
              | inr c' ↦ elim (ends d (there y d ds c')) [
                | inl e ↦ e
                | inr less ↦ absurd (elim (cases_Bool (left y.0 y.1)) [
                  | inl l ↦ (let a = (pairs_head R x (y ∷ ds) pairs y (here y ds)).0 l in omega (arith, ap depth at))
                  | inr r ↦ (let a = (pairs_head R y ds more d c').1 r in omega (arith, ap depth at))
                ])
              ]
            ]
      ]

  abbrev pub lefts : List Dart → List Dart
  lefts ds = lead ends_at ds

  abbrev pub middle : List Dart → List Dart
  middle ds = lead ends_off (trail ends_at ds)

  abbrev pub rights : List Dart → List Dart
  rights ds = trail ends_off (trail ends_at ds)

  pub in_three : (ds : List Dart) → ds ≡ lefts ds ++ (middle ds ++ rights ds)
  in_three ds = lead_trail ends_at ds ∙ ap (λ z. lefts ds ++ z) (lead_trail ends_off (trail ends_at ds))

  pub lefts_end : (ds : List Dart) (d : Dart) → Contains (lefts ds) d → d.1 ≡ v
  lefts_end ds d c = eqb-true d.1 v (lead_all ends_at ds d c)

  pub middle_off : (ds : List Dart) (d : Dart) → Contains (middle ds) d → d.1 ≢ v
  middle_off ds d c e = true≢false (sym (lead_all ends_off (trail ends_at ds) d c) ∙ ap not (eq-eqb d.1 v e))

  -- what is left begins with one that does not end at v
  pub rights_end : (ds : List Dart) → AllPairs (MayPrecede depth left) ds → ((d : Dart) → Contains ds d → Ends d) → (d : Dart) → Contains (rights ds) d → d.1 ≡ v
  rights_end [] pairs ends d c = absurd (none_in_none d (subst (λ z. Contains z d) (ap (trail ends_off) (trail_none ends_at) ∙ trail_none ends_off) c))
  rights_end (x ∷ ds) pairs ends d c =
      elim (cases_Bool (ends_at x)) [
        | inl t ↦ rights_end ds (pairs_tail (MayPrecede depth left) x ds pairs) (λ z c'. ends z (there x z ds c')) d (subst (λ z. Contains (trail ends_off z) d) (trail_true ends_at x ds t) c)
        | inr f ↦
            let off : ends_off x ≡ true = ap not f in
            let low : depth x.1 < depth v = elim (ends x (here x ds)) [ inl e ↦ absurd (true≢false (sym (eq-eqb x.1 v e) ∙ f)) | inr less ↦ less ] in
            behind_low x ds low pairs (λ z c'. ends z (there x z ds c')) d (subst (λ z. Contains z d) (ap (trail ends_off) (trail_false ends_at x ds f) ∙ trail_true ends_off x ds off) c)
      ]

-- the numbers below n that pass a test
module _ (p : ℕ → Bool) where
  pub picks : ℕ → List ℕ
  picks zero = []
  picks (suc n) = cond (p n) (n ∷ picks n) (picks n)

  picks_true : (n : ℕ) → p n ≡ true → picks (suc n) ≡ n ∷ picks n
  unfolding picks
  picks_true n t = cond-true {A = List ℕ} (p n) (n ∷ picks n) (picks n) t

  picks_false : (n : ℕ) → p n ≡ false → picks (suc n) ≡ picks n
  unfolding picks
  picks_false n f = cond-false {A = List ℕ} (p n) (n ∷ picks n) (picks n) f

  pub picks_so : (n u : ℕ) → Contains (picks n) u → (u < n) × (p u ≡ true)
  unfolding picks
  picks_so zero u c = absurd (none_in_none u c)
  picks_so (suc n) u c =
      elim (cases_Bool (p n)) [
        | inl t ↦ elim (here_or_there n u (picks n) (subst (λ z. Contains z u) (picks_true n t) c)) [ inl e ↦ (omega arith, ap p (sym e) ∙ t) | inr c' ↦ (let r = picks_so n u c' in let l = r.0 in (omega arith, r.1)) ]
        | inr f ↦ (let r = picks_so n u (subst (λ z. Contains z u) (picks_false n f) c) in let l = r.0 in (omega arith, r.1))
      ]

  pub picks_hold : (n u : ℕ) → u < n → p u ≡ true → Contains (picks n) u
  unfolding picks
  picks_hold zero u l t = absurd (omega arith)
  picks_hold (suc n) u l t =
      elim (cases_lt u n) [
        | inl less ↦ elim (cases_Bool (p n)) [
          | inl t' ↦ subst (λ z. Contains z u) (sym (picks_true n t')) (there n u (picks n) (picks_hold n u less t))
          | inr f ↦ subst (λ z. Contains z u) (sym (picks_false n f)) (picks_hold n u less t)
        ]
        | inr more ↦
            let e : n ≡ u = omega arith in
            subst (λ z. Contains z u) (sym (picks_true n (ap p e ∙ t))) (subst (λ z. Contains (z ∷ picks n) u) (sym e) (here u (picks n)))
      ]

  pub picks_distinct : (n : ℕ) → AllPairs ◌≢◌ (picks n)
  unfolding picks
  picks_distinct zero = pairs_none ◌≢◌
  picks_distinct (suc n) =
      elim (cases_Bool (p n)) [
        | inl t ↦ subst (AllPairs ◌≢◌) (sym (picks_true n t)) (pairs_more ◌≢◌ n (picks n) (λ y c e. let l = (picks_so n y c).0 in omega arith) (picks_distinct n))
        | inr f ↦ subst (AllPairs ◌≢◌) (sym (picks_false n f)) (picks_distinct n)
      ]

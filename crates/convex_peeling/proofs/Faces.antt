-- Faces by their labels: steps along a face, what holds along it, and which tests can be decided.
use Rattle.std.proofs.Common.{◌≡◌, ◌⊎◌, ℕ, zero, suc, ◌<◌, length, Contains, refl, sym, ap, ◌∙◌, subst, inl, inr, arith}
use Rattle.std.proofs.lemmas.Bool.{cases_eq, cases_lt}
use Rattle.classes.specs.Classes.{label, image}
use Rattle.classes.specs.Laws.{steps_from}
use Rattle.classes.proofs.Classes.{Together-from, same_class-from}
use Rattle.classes.proofs.Orbits.{orbits-step}
use Rattle.classes.proofs.LawLemmas.{orbits_are_steps}
use Rattle.map_lists.specs.Lists.{Lists}
use Rattle.map_theory.specs.Maps.{Dart, HasDart, IsSimpleMap, follows, face_step, dart_number, face_images, face_classes, list_of}
use Rattle.map_theory.specs.Paths.{SameFace}
use Rattle.map_theory.proofs.DartLemmas.{dart_number-lt, get_or-dart_number, dart_number-injective, HasDart-face_step, face_step-injective, length-face_images, get_or-face_images, IsPermutationOfBelow-face_images}
use Rattle.plane_peeling.proofs.RestrictedMaps.{cases_Contains}
use Rattle.convex_peeling.specs.Contours.{face_of, Passes}

-- two darts are in one face where its label is one
pub SameFace-labels : (lists : Lists) (x y u v : ℕ) → face_of lists x y ≡ face_of lists u v → SameFace lists (x, y) (u, v)
SameFace-labels lists x y u v e = same_class-from (face_classes lists) (dart_number lists (x, y)) (dart_number lists (u, v)) e

pub labels-SameFace : (lists : Lists) (x y u v : ℕ) → SameFace lists (x, y) (u, v) → face_of lists x y ≡ face_of lists u v
labels-SameFace lists x y u v e = Together-from (face_classes lists) (dart_number lists (x, y)) (dart_number lists (u, v)) e

-- a place below n of which something holds, or none
pub some_or_none : (P : ℕ → Type 0) (n : ℕ) → ((i : ℕ) → i < n → P i ⊎ (¬ P i)) → ((i : ℕ) × (i < n) × P i) ⊎ ((i : ℕ) → i < n → ¬ P i)
some_or_none P zero h = inr (λ i l. absurd (omega arith))
some_or_none P (suc n) h =
    elim (h n (omega arith)) [
      | inl p ↦ inl (n, omega arith, p)
      | inr not_n ↦
          elim (some_or_none P n (λ i l. h i (omega arith))) [
            | inl r ↦ inl (r.0, omega arith, r.2)
            | inr none ↦ inr (λ i l p. elim (cases_eq i n) [ inl e ↦ not_n (subst P e p) | inr ne ↦ none i (omega arith) p ])
          ]
    ]

-- the first such place
pub first_or_none : (P : ℕ → Type 0) (n : ℕ) → ((i : ℕ) → i < n → P i ⊎ (¬ P i)) → ((i : ℕ) × (i < n) × P i × ((j : ℕ) → j < i → ¬ P j)) ⊎ ((i : ℕ) → i < n → ¬ P i)
first_or_none P zero h = inr (λ i l. absurd (omega arith))
first_or_none P (suc n) h =
    elim (first_or_none P n (λ i l. h i (omega arith))) [
      | inl r ↦ inl (r.0, omega arith, r.2, r.3)
      | inr none ↦
          elim (h n (omega arith)) [
            | inl p ↦ inl (n, omega arith, p, none)
            | inr not_n ↦ inr (λ i l p. elim (cases_eq i n) [ inl e ↦ not_n (subst P e p) | inr ne ↦ none i (omega arith) p ])
          ]
    ]

pub cases_both : (P Q : Type 0) → P ⊎ (¬ P) → Q ⊎ (¬ Q) → (P × Q) ⊎ (¬ (P × Q))
cases_both P Q p q = grind arith

module _ (lists : Lists) (simple : IsSimpleMap lists) where
  -- the face goes on along the next dart
  pub face_of-step : (x y : ℕ) → HasDart lists x y → face_of lists y (follows lists y x) ≡ face_of lists x y
  face_of-step x y has =
      let images = face_images lists in
      let i = dart_number lists (x, y) in
      let l = dart_number-lt lists x y has in
      let n = length-face_images lists in
      let at : image images i ≡ dart_number lists (y, follows lists y x) =
      get_or-face_images lists i i (0, 0) l ∙ ap (λ d. dart_number lists (face_step lists d)) (get_or-dart_number lists x y (0, 0) has) in
      sym (orbits-step images (IsPermutationOfBelow-face_images lists simple).within i (omega arith) ∙ ap (label (face_classes lists)) at)

  -- the dart after so many steps
  unfoldable pub stepped : Dart → ℕ → Dart
  stepped d zero = d
  stepped d (suc n) = face_step lists (stepped d n)

  pub HasDart-stepped : (d : Dart) → HasDart lists d.0 d.1 → (n : ℕ) → HasDart lists (stepped d n).0 (stepped d n).1
  unfolding stepped
  HasDart-stepped d has zero = has
  HasDart-stepped d has (suc n) = HasDart-face_step lists (stepped d n) simple (HasDart-stepped d has n)

  stepped-number : (d : Dart) → HasDart lists d.0 d.1 → (n : ℕ) → steps_from (face_images lists) (dart_number lists d) n ≡ dart_number lists (stepped d n)
  unfolding stepped
  stepped-number d has zero = refl
  stepped-number d has (suc n) =
      let e = stepped d n in
      let at = HasDart-stepped d has n in
      ap (image (face_images lists)) (stepped-number d has n)
      ∙ (get_or-face_images lists (dart_number lists e) (dart_number lists e) (0, 0) (dart_number-lt lists e.0 e.1 at) ∙ ap (λ c. dart_number lists (face_step lists c)) (get_or-dart_number lists e.0 e.1 (0, 0) at))

  -- each dart of a face is so many steps on
  pub steps_on : (x y u v : ℕ) → HasDart lists x y → HasDart lists u v → face_of lists x y ≡ face_of lists u v → (n : ℕ) × (stepped (x, y) n ≡ (u, v))
  steps_on x y u v has has' e =
      let n = length-face_images lists in
      let l = dart_number-lt lists x y has in
      let l' = dart_number-lt lists u v has' in
      let led = (orbits_are_steps (face_images lists) (dart_number lists (x, y)) (dart_number lists (u, v)) (IsPermutationOfBelow-face_images lists simple) (omega arith) (omega arith)).0 (SameFace-labels lists x y u v e) in
      (led.0, dart_number-injective lists (stepped (x, y) led.0) (u, v) (HasDart-stepped (x, y) has led.0) has' (sym (stepped-number (x, y) has led.0) ∙ led.1))

  -- what each step keeps holds along the face
  pub along_face : (P : ℕ → ℕ → Type 0) → ((p q : ℕ) → HasDart lists p q → P p q → P q (follows lists q p)) → (x y u v : ℕ) → HasDart lists x y → HasDart lists u v → face_of lists x y ≡ face_of lists u v → P x y → P u v
  unfolding stepped
  along_face P closed x y u v has has' e here =
      let led = steps_on x y u v has has' e in
      subst (λ d. P d.0 d.1) led.1 (there led.0)
    where
      there : (n : ℕ) → P (stepped (x, y) n).0 (stepped (x, y) n).1
      there zero = here
      there (suc n) = closed (stepped (x, y) n).0 (stepped (x, y) n).1 (HasDart-stepped (x, y) has n) (there n)

  -- two darts that come to one vertex, and go on alike, are one
  pub before_once : (x y z : ℕ) → HasDart lists x y → HasDart lists z y → follows lists y x ≡ follows lists y z → x ≡ z
  before_once x y z has has' e = ap (λ d. d.0) (face_step-injective lists (x, y) (z, y) simple has has' (ap (λ t. (y, t)) e))

  pub cases_HasDart : (x y : ℕ) → HasDart lists x y ⊎ (¬ HasDart lists x y)
  cases_HasDart x y = cases_both (x < length lists) (Contains (list_of lists x) y) (cases_lt' x (length lists)) (cases_Contains (list_of lists x) y)
    where
      cases_lt' : (a b : ℕ) → (a < b) ⊎ (¬ (a < b))
      cases_lt' a b = elim (cases_lt a b) [ inl l ↦ inl l | inr l ↦ inr (λ m. omega arith) ]

  -- some dart from v of which something holds, or none
  pub some_dart : (v : ℕ) (P : ℕ → Type 0) → ((x : ℕ) → HasDart lists v x → P x ⊎ (¬ P x)) → ((x : ℕ) × HasDart lists v x × P x) ⊎ ((x : ℕ) → HasDart lists v x → ¬ P x)
  some_dart v P h =
      elim (some_or_none (λ x. HasDart lists v x × P x) (length lists) (λ x l. elim (cases_HasDart v x) [
        | inr n ↦ inr (λ t. n t.0)
        | inl has ↦ elim (h x has) [ inl p ↦ inl (has, p) | inr n ↦ inr (λ t. n t.1) ]
      ])) [
        | inl r ↦ inl (r.0, r.2.0, r.2.1)
        | inr none ↦ inr (λ x has p. none x (simple.in_range v x has) (has, p))
      ]

  pub cases_Passes : (face v : ℕ) → Passes lists face v ⊎ (¬ Passes lists face v)
  cases_Passes face v =
      elim (some_dart v (λ x. face_of lists v x ≡ face) (λ x has. cases_eq (face_of lists v x) face)) [
        | inl r ↦ inl r
        | inr none ↦ inr (λ p. none p.0 p.1 p.2)
      ]

-- Chords of an outer face that meets each vertex once, by counts over permutations: there are not as many of them as two for each other face but one.
use Rattle.std.proofs.Common.{◌≡◌, ◌⊎◌, ◌&&◌, ℕ, ◌+◌, ◌*◌, ◌<◌, ◌≤◌, Bool, true, false, not, eqb, length, sym, ap, ◌∙◌, inl, inr, arith, eq-eqb}
use Rattle.std.proofs.lemmas.Bool.{cases_Bool, and_parts, and_from, true≢false, not-true}
use Rattle.classes.specs.Classes.{count_below, label, class_count}
use Rattle.classes.proofs.Counting.{one_if, count_below_none, count_below_into}
use Rattle.classes.proofs.Classes.{Together}
use Rattle.classes.proofs.Orbits.{orbits_of, IsPermuting, count_below-images}
use Rattle.classes.proofs.Bound.{joint, length-joint, IsLabels-joint, IsPairing, IsPermuting-pairing, after, Balances}
use Rattle.plane_laws.proofs.EdgeBound.{count_three}

-- The outer numbers are one orbit of f after g, with one for each orbit of f, and none with its partner.
pub record IsOuter (f g : ℕ → ℕ) (k : ℕ) (outer : ℕ → Bool) : Type 0 where
  pub kept : (i : ℕ) → i < k → outer i ≡ outer (f (g i))
  pub one : (i j : ℕ) → i < k → j < k → outer i ≡ true → outer j ≡ true → Together (orbits_of (after f g) k) i j
  pub each : class_count (orbits_of f k) ≤ count_below outer k
  pub single : (i : ℕ) → i < k → outer i ≡ true → outer (g i) ≡ false

-- a chord: neither it nor its partner is outer
abbrev pub chord : (ℕ → ℕ) → (ℕ → Bool) → ℕ → Bool
chord g outer i = not (outer i) && not (outer (g i))

pub chord_inner : (g : ℕ → ℕ) (outer : ℕ → Bool) (i : ℕ) → chord g outer i ≡ true → outer i ≡ false
chord_inner g outer i t = not-true (outer i) (and_parts (not (outer i)) (not (outer (g i))) t).0

-- what is not outer is a chord, or its partner is outer
pub chord_or : (g : ℕ → ℕ) (outer : ℕ → Bool) (i : ℕ) → outer i ≡ false → (chord g outer i ≡ true) ⊎ (outer (g i) ≡ true)
chord_or g outer i e =
    elim (cases_Bool (outer (g i))) [
      | inl t ↦ inr t
      | inr t ↦ inl (and_from (not (outer i)) (not (outer (g i))) (ap not e) (ap not t))
    ]

pub chord_not : (g : ℕ → ℕ) (outer : ℕ → Bool) (i : ℕ) → outer (g i) ≡ true → chord g outer i ≡ false
chord_not g outer i t =
    elim (cases_Bool (not (outer i) && not (outer (g i)))) [
      | inl c ↦ absurd (true≢false (sym t ∙ not-true (outer (g i)) (and_parts (not (outer i)) (not (outer (g i))) c).1))
      | inr c ↦ c
    ]

module _ (f g : ℕ → ℕ) (k m : ℕ) (outer : ℕ → Bool) (double : k ≡ m + m) (w : IsPermuting f k) (v : IsPairing g k) (plane : Balances f g k m 0) (o : IsOuter f g k outer) where
  -- a number is outer, or its partner is, or it is a chord
  one_kind : (i : ℕ) → i < k → one_if (outer i) + one_if (outer (g i)) + one_if (chord g outer i) ≤ 1
  one_kind i l = grind (arith, cases_Bool, chord, true≢false, chord_inner, one_if, chord_not)

  -- nearly two chords for each face are too many
  pub few_chords : 0 < k → 2 * class_count (orbits_of (after f g) k) ≤ count_below (chord g outer) k + 3 → ⊥
  few_chords any many =
      let J = joint f g k in
      let n = length-joint f g k w.within v.within in
      let classes = IsLabels-joint f g k w.within v.within in
      let some = count_below_into (λ i. 0) (λ i. true) (λ i. eqb (label J i) i) 1 (length J) (λ i l t. (omega arith, eq-eqb (label J 0) 0 (omega arith))) (λ i j l m t t' e. omega arith) in
      let kinds = count_three outer (λ i. outer (g i)) (chord g outer) (λ i. false) k (λ i l. omega (arith, one_kind i l)) in
      omega (arith, plane, many, some, kinds, count_below_none k, count_below-images g k (IsPermuting-pairing g k v) outer)

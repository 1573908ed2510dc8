-- Faces along ways whose vertices between have no other neighbours.
use Rattle.std.proofs.Common.{◌≡◌, ◌≢◌, ◌⊎◌, ℕ, List, [], ◌∷◌, Contains, refl, sym, ap, ◌∙◌, subst, inl, inr}
use Rattle.classes.specs.Classes.{label}
use Rattle.classes.proofs.Classes.{Together}
use Rattle.classes.proofs.Orbits.{orbits_of}
use Rattle.classes.proofs.Bound.{after}
use Rattle.map_lists.specs.Lists.{Lists}
use Rattle.map_theory.specs.Maps.{list_of, HasDart, IsSimpleMap, follows, dart_number, dart_count}
use Rattle.map_theory.specs.Paths.{SameFace}
use Rattle.map_theory.proofs.EntryLemmas.{Contains-here, Contains-there}
use Rattle.map_theory.proofs.DartPermutations.{rotation, twin, components, edge_together}
use Rattle.plane_laws.proofs.DartPaths.{face_step_together, same_face}
use Rattle.left_right_laws.specs.Ways.{IsWay, first_on, last_on}
use Rattle.left_right_laws.proofs.Turns.{next_of_two}
use Rattle.left_right_laws.proofs.WayLemmas.{Steps, IsClear, IsClear-rest, from_start, to_start, IsWay-first}

-- v has no neighbours but p and s, which follow each other
pub record IsBend (lists : Lists) (v p s : ℕ) : Type 0 where
  pub there : follows lists v p ≡ s
  pub back : follows lists v s ≡ p

-- so at each vertex of a way between its ends
abbrev pub Bends : Lists → ℕ → List ℕ → ℕ → Type 0
Bends lists x [] y = x ≡ x
Bends lists x (u ∷ us) y = IsBend lists u x (first_on us y) × Bends lists u us y

module _ (lists : Lists) (simple : IsSimpleMap lists) where
  -- the face of a dart
  abbrev pub face : ℕ → ℕ → ℕ
  face u v = label (orbits_of (after (rotation lists) (twin lists)) (dart_count lists)) (dart_number lists (u, v))

  pub face_on : (u v w : ℕ) → HasDart lists u v → follows lists v u ≡ w → face u v ≡ face v w
  face_on u v w has e = face_step_together lists simple (u, v) has ∙ ap (face v) e

  pub one_face : (u v w z : ℕ) → face u v ≡ face w z → SameFace lists (u, v) (w, z)
  one_face u v w z e = same_face lists simple (u, v) (w, z) e

  -- the face goes along the way
  pub forward : (x : ℕ) (us : List ℕ) (y : ℕ) → IsWay lists x us y → Bends lists x us y → face x (first_on us y) ≡ face (last_on x us) y
  forward x [] y way bends = refl
  forward x (u ∷ us) y way bends = face_on x u (first_on us y) way.0 bends.0.there ∙ forward u us y way.1 bends.1

  -- and on the other side back
  pub backward : (x : ℕ) (us : List ℕ) (y : ℕ) → IsWay lists x us y → Bends lists x us y → face y (last_on x us) ≡ face (first_on us y) x
  backward x [] y way bends = refl
  backward x (u ∷ us) y way bends =
      backward u us y way.1 bends.1 ∙ face_on (first_on us y) u x (simple.both_ways u (first_on us y) (IsWay-first lists u us y way.1)) bends.0.back

  -- the ends of a way are in one component
  pub way_together : (x : ℕ) (us : List ℕ) (y : ℕ) → IsWay lists x us y → Together (components lists simple) x y
  way_together x [] y way = edge_together lists simple x y way
  way_together x (u ∷ us) y way = edge_together lists simple x u way.0 ∙ way_together u us y way.1

  two_bend : (v p s : ℕ) → HasDart lists v p → HasDart lists v s → p ≢ s → ((z : ℕ) → HasDart lists v z → (z ≡ p) ⊎ (z ≡ s)) → IsBend lists v p s
  two_bend v p s has has' ne only =
      let us = list_of lists v in
      let distinct = simple.no_repeat v has.0 in
      record {
        there = next_of_two us p s distinct has.1 has'.1 ne (λ z c. only z (has.0, c));
        back = next_of_two us s p distinct has'.1 has.1 (λ e. ne (sym e)) (λ z c. elim (only z (has.0, c)) [ inl e ↦ inr e | inr e ↦ inl e ]);
      }

  -- where the vertices between have no darts but those of the way and back
  pub bends_along : (x : ℕ) (us : List ℕ) (y : ℕ) → IsClear x us y → IsWay lists x us y → ((v z : ℕ) → Contains us v → HasDart lists v z → Steps x us y v z ⊎ Steps x us y z v) → Bends lists x us y
  bends_along x [] y clear way only = refl
  bends_along x (u ∷ us) y clear way only =
      let rest = IsClear-rest x u us y clear in
      let s = first_on us y in
      let here = Contains-here u us in
      let not_u : (v : ℕ) → Contains us v → v ≢ u = λ v c e. rest.off_start (subst (Contains us) e c) in
      let not_x : (v : ℕ) → Contains us v → x ≢ v = λ v c e. clear.off_start (Contains-there u us x (subst (Contains us) (sym e) c)) in
      let x_s : x ≢ s = λ e. x_not_first us clear e in (
        two_bend u x s (simple.both_ways x u way.0) (IsWay-first lists u us y way.1) x_s (λ z has. elim (only u z here has) [
          | inl step ↦ elim step [
            | inl h ↦ absurd (clear.off_start (subst (Contains (u ∷ us)) (sym h.0) here))
            | inr h ↦ inr (from_start u us y z rest h)
          ]
          | inr step ↦ elim step [
            | inl h ↦ inl (sym h.0)
            | inr h ↦ absurd (to_start u us y z rest h)
          ]
        ]),
        bends_along u us y rest way.1 (λ v z c has. elim (only v z (Contains-there u us v c) has) [
          | inl step ↦ elim step [ inl h ↦ absurd (not_x v c h.0) | inr h ↦ inl h ]
          | inr step ↦ elim step [ inl h ↦ absurd (not_u v c (sym h.1)) | inr h ↦ inr h ]
        ]),
      )
    where
      x_not_first : (us : List ℕ) → IsClear x (u ∷ us) y → x ≢ first_on us y
      x_not_first [] clear e = clear.ends e
      x_not_first (w ∷ us) clear e = clear.off_start (Contains-there u (w ∷ us) x (subst (Contains (w ∷ us)) (sym e) (Contains-here w us)))

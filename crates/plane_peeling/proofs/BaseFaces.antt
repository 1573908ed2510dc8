-- The outer cycle is the face of its base: its darts are of one face, which has no others.
use Rattle.std.proofs.Common.{◌≡◌, ◌↔◌, ◌&&◌, ℕ, ◌<◌, Bool, true, eqb, List, ◌∷◌, Contains, refl, sym, ap, ◌∙◌, subst, inl, inr, ◌==◌}
use Rattle.std.specs.List.{list_any}
use Rattle.std.proofs.lemmas.Bool.{cases_Bool, and_from, and_parts, eqb-true, eq-eqb, true≢false, false_from_ne_true}
use Rattle.classes.specs.Classes.{label}
use Rattle.classes.proofs.Orbits.{orbits_of, orbits_of-marked, marks_back}
use Rattle.classes.proofs.Bound.{after}
use Rattle.map_lists.specs.Lists.{Lists}
use Rattle.map_theory.specs.Maps.{Dart, HasDart, IsSimpleMap, face_step, entry_after, dart_number, dart_count}
use Rattle.map_theory.specs.Paths.{SameFace}
use Rattle.map_theory.proofs.EntryLemmas.{Contains-there, Contains-cons_cases, Contains-from_list_any, list_any-from_Contains}
use Rattle.map_theory.proofs.DartLemmas.{dart_number-lt, get_or-dart_number}
use Rattle.map_theory.proofs.DartPermutations.{dart_of, rotation, twin}
use Rattle.plane_laws.proofs.DartPaths.{same_face, face_together, face_step_together, dart_of-face_step}
use Rattle.plane_laws.proofs.EdgeBound.{hw}
use Rattle.plane_peeling.specs.NearTriangulations.{IsOuterCycle, IsOuterDart}
use Rattle.plane_peeling.specs.Laws.{OuterCycleIsFace}
use Rattle.plane_peeling.proofs.Rings.{Leads-marked}
use Rattle.plane_peeling.proofs.OuterCycles.{next-on, next-last, last_on, round}

module _ (lists : Lists) (s t : ℕ) (ws : List ℕ) (simple : IsSimpleMap lists) (cycle : IsOuterCycle lists s t ws) where
  abbrev next : ℕ → ℕ
  next x = entry_after x ws

  -- a dart of the cycle goes on to the next
  pub cycle_step : (x : ℕ) → Contains ws x → face_step lists (x, next x) ≡ (next x, next (next x))
  cycle_step x c = ap (λ y. (next x, y)) (cycle.turns x c)

  -- the label of the face of a dart of the cycle
  abbrev pub face_label : ℕ → ℕ
  face_label x = label (orbits_of (after (rotation lists) (twin lists)) (dart_count lists)) (dart_number lists (x, next x))

  -- the darts of the cycle are of one face
  pub one_label : (x : ℕ) → Contains ws x → face_label x ≡ face_label t
  one_label x c =
      let L : ℕ → ℕ = λ i. label (orbits_of (after (rotation lists) (twin lists)) (dart_count lists)) i in
      let step : (y : ℕ) → Contains ws y → face_label (next y) ≡ face_label y = λ y d.
      sym (face_step_together lists simple (y, next y) (cycle.darts y d) ∙ ap (λ e. L (dart_number lists e)) (cycle_step y d)) in
      let on : (z : ℕ) → Contains (t ∷ ws) z → Contains ws z = λ z d.
      elim (Contains-cons_cases t ws z d) [ inl e ↦ subst (Contains ws) e (last_on lists s t ws simple cycle) | inr d' ↦ d' ] in
      Leads-marked face_label next t ws t (λ z d. step z (on z d)) (round lists s t ws simple cycle) x (Contains-there t ws x c)

  pub one_face : (x : ℕ) → Contains ws x → SameFace lists (t, next t) (x, next x)
  one_face x c = same_face lists simple (t, next t) (x, next x) (sym (one_label x c))

  abbrev on_cycle : ℕ → Bool
  on_cycle i = list_any (λ w. w == (dart_of lists i).0) ws && eqb (next (dart_of lists i).0) (dart_of lists i).1

  on_cycle-is : (i : ℕ) → on_cycle i ≡ true → IsOuterDart ws (dart_of lists i).0 (dart_of lists i).1
  on_cycle-is i m =
      let d = dart_of lists i in
      let parts = and_parts (list_any (λ w. w == d.0) ws) (eqb (next d.0) d.1) m in
      (Contains-from_list_any d.0 ws parts.0, eqb-true (next d.0) d.1 parts.1)

  is-on_cycle : (i x y : ℕ) → dart_of lists i ≡ (x, y) → IsOuterDart ws x y → on_cycle i ≡ true
  is-on_cycle i x y e o =
      ap (λ d. list_any (λ w. w == d.0) ws && eqb (next d.0) d.1) e
      ∙ and_from (list_any (λ w. w == x) ws) (eqb (next x) y) (list_any-from_Contains x ws o.0) (eq-eqb (next x) y o.1)

  -- and the face has no others
  pub face_on_cycle : (x y : ℕ) → HasDart lists x y → SameFace lists (t, s) (x, y) → IsOuterDart ws x y
  face_on_cycle x y has same =
      let h = after (rotation lists) (twin lists) in
      let k = dart_count lists in
      let w = hw lists simple in
      let base = subst (HasDart lists t) (next-last lists s t ws simple cycle) (cycle.darts t (last_on lists s t ws simple cycle)) in
      let i = dart_number lists (t, s) in
      let j = dart_number lists (x, y) in
      let keeps : (n : ℕ) → n < k → on_cycle n ≡ true → on_cycle (h n) ≡ true = λ n l m.
      let o = on_cycle-is n m in
      let a = (dart_of lists n).0 in
      let moved : dart_of lists (h n) ≡ (next a, next (next a)) =
      dart_of-face_step lists simple n l ∙ (ap (λ b. face_step lists (a, b)) (sym o.1) ∙ cycle_step a o.0) in
      is-on_cycle (h n) (next a) (next (next a)) moved (next-on lists s t ws simple cycle a o.0, refl) in
      let alike : (n : ℕ) → n < k → on_cycle n ≡ on_cycle (h n) = λ n l.
      elim (cases_Bool (on_cycle n)) [
        | inl m ↦ m ∙ sym (keeps n l m)
        | inr m ↦ m ∙ sym (false_from_ne_true (on_cycle (h n)) (λ m'. true≢false (sym (marks_back h k w on_cycle keeps n l m') ∙ m)))
      ] in
      let marked = orbits_of-marked on_cycle h k w.within alike i j (dart_number-lt lists t s base) (dart_number-lt lists x y has) (face_together lists simple (t, s) (x, y) same) in
      let first = is-on_cycle i t s (get_or-dart_number lists t s (0, 0) base) (last_on lists s t ws simple cycle, (next-last lists s t ws simple cycle)) in
      subst (λ (d : Dart). IsOuterDart ws d.0 d.1) (get_or-dart_number lists x y (0, 0) has) (on_cycle-is j (sym marked ∙ first))

  pub outer_is_face : (x y : ℕ) → HasDart lists x y → SameFace lists (t, s) (x, y) ↔ IsOuterDart ws x y
  outer_is_face x y has = (
    face_on_cycle x y has,
    λ o. subst (λ z. SameFace lists (t, z) (x, y)) (next-last lists s t ws simple cycle) (subst (λ z. SameFace lists (t, next t) (x, z)) o.1 (one_face x o.0)),
  )

-- THE LAW: the outer cycle is the face of the base
pub outer_cycle_is_face : OuterCycleIsFace
outer_cycle_is_face lists s t ws simple cycle x y has = outer_is_face lists s t ws simple cycle x y has

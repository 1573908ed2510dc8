-- The darts of a frame, which are its face.
use Rattle.std.proofs.Common.{◌≡◌, ◌≢◌, ◌⊎◌, ◌↔◌, ℕ, zero, suc, [], ◌∷◌, Contains, ◌<◌, get_or, refl, sym, ap, subst, ◌∙◌, inl, inr, arith}
use Rattle.std.specs.List.{AllPairs}
use Rattle.std.proofs.lemmas.Bool.{cases_eq}
use Rattle.map_lists.specs.Lists.{Lists}
use Rattle.map_theory.specs.Maps.{Dart, IsSimpleMap, HasDart, list_of, follows, entry_after, face_step}
use Rattle.map_theory.proofs.DartLemmas.{Contains-entry_after}
use Rattle.plane_laws.specs.Laws.{IsTriangle}
use Rattle.plane_peeling.specs.NearTriangulations.{IsOuterCycle, IsOuterDart}
use Rattle.plane_peeling.proofs.Rings.{entry_after-inside, entry_after-last, each_of_four}
use Rattle.plane_peeling.proofs.BaseFaces.{outer_cycle_is_face}
use Rattle.drawings.specs.Duals.{IsQuadrangle, HasFrame, top_vertex, right_vertex, bottom_vertex}
use Rattle.rect_class.specs.RectMaps.{IsOuter}
use Rattle.rect_class.specs.Loops.{IsDart, IsFrameDart}

-- four distinct numbers
pub distinct_four : (a b c e : ℕ) → a ≢ b → a ≢ c → a ≢ e → b ≢ c → b ≢ e → c ≢ e → AllPairs ◌≢◌ (a ∷ b ∷ c ∷ e ∷ [])
distinct_four a b c e ab ac ae bc be ce x10 x11 d l m = grind arith

-- the entries of a ring of four
module _ (a b c e : ℕ) (distinct : AllPairs ◌≢◌ (a ∷ b ∷ c ∷ e ∷ [])) where
  first_entry : entry_after a (a ∷ b ∷ c ∷ e ∷ []) ≡ b
  first_entry = entry_after-inside [] a b (c ∷ e ∷ []) distinct

  second_entry : entry_after b (a ∷ b ∷ c ∷ e ∷ []) ≡ c
  second_entry = entry_after-inside (a ∷ []) b c (e ∷ []) distinct

  third_entry : entry_after c (a ∷ b ∷ c ∷ e ∷ []) ≡ e
  third_entry = entry_after-inside (a ∷ b ∷ []) c e [] distinct

  last_entry : entry_after e (a ∷ b ∷ c ∷ e ∷ []) ≡ a
  last_entry = entry_after-last (a ∷ b ∷ c ∷ []) e distinct

module _ (lists : Lists) (simple : IsSimpleMap lists) where
  -- the dart behind one of a walk
  dart_behind : (x y z : ℕ) → HasDart lists x y → follows lists y x ≡ z → HasDart lists y z
  dart_behind x y z d e =
      let back = simple.both_ways x y d in
      (back.0, subst (Contains (list_of lists y)) e (Contains-entry_after x (list_of lists y) back.1))

  -- a quadrangle from its next vertex on
  pub IsQuadrangle-turned : (s d p q : ℕ) → IsQuadrangle lists s d p q → IsQuadrangle lists d p q s
  IsQuadrangle-turned s d p q h = record {
    dart = dart_behind s d p h.dart h.second;
    second = h.third;
    third = h.fourth;
    fourth = h.again;
    again = h.second;
    distinct =
        distinct_four d p q s (h.distinct 1 2 0 (omega arith) (omega arith)) (h.distinct 1 3 0 (omega arith) (omega arith)) (λ e. h.distinct 0 1 0 (omega arith) (omega arith) (sym e))
        (h.distinct 2 3 0 (omega arith) (omega arith)) (λ e. h.distinct 0 2 0 (omega arith) (omega arith) (sym e)) (λ e. h.distinct 0 3 0 (omega arith) (omega arith) (sym e));
  }

  -- it is an outer cycle
  pub IsOuterCycle-quadrangle : (s d p q : ℕ) → IsQuadrangle lists s d p q → IsOuterCycle lists s q (s ∷ d ∷ p ∷ q ∷ [])
  IsOuterCycle-quadrangle s d p q h =
      let ws = s ∷ d ∷ p ∷ q ∷ [] in
      let es = first_entry s d p q h.distinct in
      let ed = second_entry s d p q h.distinct in
      let ep = third_entry s d p q h.distinct in
      let eq = last_entry s d p q h.distinct in
      let dp = dart_behind s d p h.dart h.second in
      let pq = dart_behind d p q dp h.third in
      record {
        long = omega arith;
        first = refl;
        last = refl;
        distinct = h.distinct;
        darts =
            each_of_four (λ x. HasDart lists x (entry_after x ws)) s d p q (subst (λ y. HasDart lists s y) (sym es) h.dart) (subst (λ y. HasDart lists d y) (sym ed) dp)
            (subst (λ y. HasDart lists p y) (sym ep) pq) (subst (λ y. HasDart lists q y) (sym eq) (dart_behind p q s pq h.fourth));
        turns =
            each_of_four (λ x. follows lists (entry_after x ws) x ≡ entry_after (entry_after x ws) ws) s d p q (turn s d p es ed h.second) (turn d p q ed ep h.third) (turn p q s ep eq h.fourth)
            (turn q s d eq es h.again);
      }
    where
      turn : (x y z : ℕ) → entry_after x (s ∷ d ∷ p ∷ q ∷ []) ≡ y → entry_after y (s ∷ d ∷ p ∷ q ∷ []) ≡ z → follows lists y x ≡ z → follows lists (entry_after x (s ∷ d ∷ p ∷ q ∷ [])) x ≡ entry_after (entry_after x (s ∷ d ∷ p ∷ q ∷ [])) (s ∷ d ∷ p ∷ q ∷ [])
      turn x y z ex ey f = ap (λ w. follows lists w x) ex ∙ (f ∙ (sym ey ∙ ap (λ w. entry_after w (s ∷ d ∷ p ∷ q ∷ [])) (sym ex)))

-- (x, y) leads from one of four to the next
abbrev IsRingDart : ℕ → ℕ → ℕ → ℕ → ℕ → ℕ → Type 0
IsRingDart a b c e x y = (IsDart x y a b ⊎ IsDart x y b c) ⊎ (IsDart x y c e ⊎ IsDart x y e a)

-- the darts of a ring of four
IsRingDart-entry : (a b c e x y : ℕ) → AllPairs ◌≢◌ (a ∷ b ∷ c ∷ e ∷ []) → IsOuterDart (a ∷ b ∷ c ∷ e ∷ []) x y ↔ IsRingDart a b c e x y
IsRingDart-entry a b c e x y distinct = grind (arith, Contains, entry_after, IsRingDart, each_of_four, first_entry, second_entry, third_entry, last_entry, get_or, IsDart, IsOuterDart)

-- from the last of them on they are the same
IsRingDart-turned : (a b c e x y : ℕ) → IsRingDart a b c e x y ↔ IsRingDart b c e a x y
IsRingDart-turned a b c e x y = grind (arith, IsRingDart)

-- the darts of the frame are the outer face
pub IsOuter-frame : (lists : Lists) → IsSimpleMap lists → HasFrame lists → (x y : ℕ) → HasDart lists x y → IsOuter lists x y ↔ IsFrameDart (top_vertex lists) (right_vertex lists) (bottom_vertex lists) x y
IsOuter-frame lists simple h x y has =
    let d = top_vertex lists in
    let p = right_vertex lists in
    let q = bottom_vertex lists in
    let turned = IsQuadrangle-turned lists simple 0 d p q h in
    let face = outer_cycle_is_face lists d 0 (d ∷ p ∷ q ∷ 0 ∷ []) simple (IsOuterCycle-quadrangle lists simple d p q 0 turned) x y has in
    let entry = IsRingDart-entry d p q 0 x y turned.distinct in
    let ring = IsRingDart-turned 0 d p q x y in
    ((λ o. ring.1 (entry.0 (face.0 o))), (λ f. face.1 (entry.1 (ring.0 f))))

-- and those of the cycle with 0 first
pub IsOuterDart-outer : (lists : Lists) → IsSimpleMap lists → HasFrame lists → (x y : ℕ) → HasDart lists x y → IsOuter lists x y → IsOuterDart (0 ∷ top_vertex lists ∷ right_vertex lists ∷ bottom_vertex lists ∷ []) x y
IsOuterDart-outer lists simple h x y has o =
    (IsRingDart-entry 0 (top_vertex lists) (right_vertex lists) (bottom_vertex lists) x y h.distinct).1 ((IsOuter-frame lists simple h x y has).0 o)

-- what is not no triangle is one
pub IsTriangle-from_not : (lists : Lists) (v u : ℕ) → ¬ (¬ IsTriangle lists (v, u)) → IsTriangle lists (v, u)
IsTriangle-from_not lists v u h = grind (arith, face_step, Dart, cases_eq)

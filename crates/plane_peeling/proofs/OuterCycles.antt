-- Outer cycles: the vertex before another, the last and the first, and which darts they have; triangles.
use Rattle.std.proofs.Common.{◌≡◌, ◌≢◌, ◌⊎◌, ℕ, ◌-◌, ◌<◌, List, [], ◌∷◌, length, get_or, AllPairs, Contains, refl, sym, ap, ◌∙◌, subst, inl, inr, arith}
use Rattle.std.proofs.lemmas.Bool.{cases_eq}
use Rattle.std.proofs.lemmas.List.Elements.{Contains-get_or}
use Rattle.map_lists.specs.Lists.{Lists}
use Rattle.map_theory.specs.Maps.{HasDart, IsSimpleMap, follows, face_step, entry_after}
use Rattle.map_theory.proofs.DartLemmas.{HasDart-follows, Contains-entry_after, entry_after-injective, two_entries}
use Rattle.plane_laws.specs.Laws.{IsTriangle}
use Rattle.plane_peeling.specs.Restricted.{IsFaceOfThree}
use Rattle.plane_peeling.specs.NearTriangulations.{IsOuterCycle, IsOuterDart, IsNearTriangulation}
use Rattle.plane_peeling.proofs.Rings.{Leads, Leads-part, Leads-in, ring_from, Contains-counts, ends_with, leads_round}
use Rattle.plane_peeling.proofs.RestrictedMaps.{cases_Contains}

-- a dart of the outer cycle, or none
pub cases_outer : (ws : List ℕ) (x y : ℕ) → IsOuterDart ws x y ⊎ (¬ IsOuterDart ws x y)
cases_outer ws x y =
    elim (cases_Contains ws x) [
      | inr n ↦ inr (λ d. n d.0)
      | inl c ↦ elim (cases_eq (entry_after x ws) y) [ inl e ↦ inl (c, e) | inr n ↦ inr (λ d. n d.1) ]
    ]

-- the entry before one of a list without repeats, cyclically
pub entry_before : (ws : List ℕ) (x : ℕ) → AllPairs ◌≢◌ ws → Contains ws x → (p : ℕ) × Contains ws p × (entry_after p ws ≡ x)
entry_before ws x distinct c =
    let ring = ring_from ws x distinct c in
    let way = Leads-part (λ u. entry_after u ws) x ring.0 (x ∷ []) x ring.1 in
    (way.0, Contains-counts (x ∷ ring.0) ws ring.2 way.0 (Leads-in (λ u. entry_after u ws) x ring.0 way.0 way.1), way.2.0)

-- a face of three darts, read from its next dart
pub IsFaceOfThree-turned : (lists : Lists) (a b c : ℕ) → IsSimpleMap lists → IsFaceOfThree lists a b c → IsFaceOfThree lists b c a
IsFaceOfThree-turned lists a b c simple f =
    record {
      dart = subst (HasDart lists b) f.second (HasDart-follows lists b a (simple.both_ways a b f.dart));
      second = f.third;
      third = f.round;
      round = f.second;
    }

-- a triangle is such a face
pub IsFaceOfThree-triangle : (lists : Lists) (x y : ℕ) → HasDart lists x y → IsTriangle lists (x, y) → IsFaceOfThree lists x y (follows lists y x)
IsFaceOfThree-triangle lists x y d t =
    let z = follows lists y x in
    let back : follows lists z y ≡ x = ap (λ c. c.0) t in
    record {
      dart = d;
      second = refl;
      third = back;
      round = ap (λ w. follows lists w z) (sym back) ∙ ap (λ c. c.1) t;
    }

-- and such a face is a triangle
pub IsTriangle-face : (lists : Lists) (x y z : ℕ) → IsFaceOfThree lists x y z → IsTriangle lists (x, y)
IsTriangle-face lists x y z f =
    let three : face_step lists (z, x) ≡ (x, y) = ap (λ w. (x, w)) f.round in
    ap (λ d. face_step lists (face_step lists d)) (ap (λ w. (y, w)) f.second) ∙ (ap (face_step lists) (ap (λ w. (z, w)) f.third) ∙ three)

module _ (lists : Lists) (s t : ℕ) (ws : List ℕ) (simple : IsSimpleMap lists) (cycle : IsOuterCycle lists s t ws) where
  abbrev pub next : ℕ → ℕ
  next x = entry_after x ws

  -- from each vertex the cycle goes on to one of its vertices
  pub next-on : (x : ℕ) → Contains ws x → Contains ws (next x)
  next-on x c = Contains-entry_after x ws c

  pub next-apart : (x y : ℕ) → Contains ws x → Contains ws y → next x ≡ next y → x ≡ y
  next-apart x y c c' e = entry_after-injective ws x y cycle.distinct c c' e

  -- the cycle leads round from the last vertex, and on from it to the first
  pub round : Leads next t ws t
  round =
      let end = ends_with ws t 0 (let l = cycle.long in omega arith) cycle.last in
      leads_round ws t cycle.distinct end.0 end.1

  pub last_on : Contains ws t
  last_on = subst (Contains ws) cycle.last (Contains-get_or ws (length ws - 1) 0 (let l = cycle.long in omega arith))

  pub first_on : Contains ws s
  first_on = subst (Contains ws) cycle.first (Contains-get_or ws 0 0 (let l = cycle.long in omega arith))

  pub next-last : next t ≡ s
  next-last = leads_first ws (let l = cycle.long in omega arith) round ∙ cycle.first
    where
      leads_first : (us : List ℕ) → 0 < length us → Leads next t us t → next t ≡ get_or us 0 0
      leads_first [] some h = absurd (omega arith)
      leads_first (w ∷ us) some h = h.0

  -- two steps do not lead back
  pub two_steps_on : (x : ℕ) → Contains ws x → next (next x) ≢ x
  two_steps_on x c e = let l = cycle.long in let two = two_entries ws x (next x) cycle.distinct c refl e in absurd (omega arith)

module _ (lists : Lists) (s t : ℕ) (ws : List ℕ) (near : IsNearTriangulation lists s t ws) where
  -- each dart but those of the cycle is of a face of three
  pub inner_face : (x y : ℕ) → HasDart lists x y → ¬ IsOuterDart ws x y → IsFaceOfThree lists x y (follows lists y x)
  inner_face x y d n = IsFaceOfThree-triangle lists x y d (near.inner x y d n)

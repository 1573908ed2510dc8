-- The triangle of the first three vertices: it has genus zero, and its inner face goes from 0 to 2 and to 1.
use Rattle.std.proofs.Common.{◌≡◌, ◌≢◌, ◌⊎◌, ℕ, zero, suc, ◌+◌, ◌/◌, ◌<◌, ◌≤◌, true, eqb, cond, List, [], ◌∷◌, length, map, AllPairs, Contains, refl, sym, ap, ap₂, ◌∙◌, subst, inl, inr, arith, rules}
use Rattle.std.specs.Prelude.{replicate, sum_by}
use Rattle.std.proofs.lemmas.Bool.{cases_lt, eq-eqb}
use Rattle.std.proofs.lemmas.List.{length-replicate, get_or-replicate, get_or_past}
use Rattle.std.proofs.lemmas.List.Folds.{sum_by-replicate}
use Rattle.std.proofs.lemmas.List.Sums.{sum_by-append}
use Rattle.classes.specs.Classes.{label, alone, class_count, count_below, orbits, classes}
use Rattle.classes.proofs.Classes.{length-alone, label-alone}
use Rattle.classes.proofs.Counting.{count_below_all, count_below_same}
use Rattle.map_lists.specs.Lists.{Lists}
use Rattle.map_theory.specs.Maps.{darts, darts_since, list_of, HasDart, IsSimpleMap, IsPlane, entry_after, face_step, dart_number, face_images, face_classes, face_count, component_count, edge_count, dart_count, is_empty_list, isolated_count}
use Rattle.map_theory.specs.Paths.{SameFace}
use Rattle.map_theory.proofs.EntryLemmas.{Contains-here, Contains-there, Contains-cons_cases}
use Rattle.map_theory.proofs.WithoutEdge.{IsSimpleMap-without_edge}
use Rattle.plane_laws.proofs.EdgeAdded.{edge_in_face, edge_between}
use Rattle.map_gen.specs.Faces.{IsFaceOf}
use Rattle.map_gen.proofs.VertexPut.{isolated_apart, two_on, none_in}

-- ---- vertices without an edge

abbrev edgeless : ℕ → Lists
edgeless m = replicate m []

length-edgeless : (m : ℕ) → length (edgeless m) ≡ m
length-edgeless m = length-replicate m []

-- each list is empty
list_of-none : (m v : ℕ) → list_of (edgeless m) v ≡ []
list_of-none m v =
    elim (cases_lt v m) [
      | inl l ↦ get_or-replicate m v [] [] l
      | inr l ↦ (let n = length-edgeless m in get_or_past (edgeless m) v [] (omega arith))
    ]

darts-none : (m v : ℕ) → darts_since v (edgeless m) ≡ []
darts-none zero v = refl
darts-none (suc m) v = darts-none m (v + 1)

sum-none : (m : ℕ) → sum_by length (edgeless m) ≡ 0
sum-none m = let h = sum_by-replicate (λ (us : List ℕ). length us) m [] in omega arith

isolated-none : (m : ℕ) → isolated_count (edgeless m) ≡ m
isolated-none m = let h = sum_by-replicate (λ (us : List ℕ). cond (is_empty_list us) 1 0) m [] in omega arith

-- each is a component of its own
class_count-alone : (n : ℕ) → class_count (alone n) ≡ n
class_count-alone n =
    let len = length-alone n in
    ap (count_below (λ i. eqb (label (alone n) i) i)) len
    ∙ (count_below_same (λ i. eqb (label (alone n) i) i) (λ i. true) n (λ i l. eq-eqb (label (alone n) i) i (label-alone n i)) ∙ count_below_all n)

plane-none : (n : ℕ) → IsPlane (edgeless n)
unfolding face_count component_count
plane-none n =
    let lists = edgeless n in
    let none : darts lists ≡ [] = darts-none n 0 in
    let images : face_images lists ≡ [] = ap (map (λ d. dart_number lists (face_step lists d))) none in
    let faces : class_count (face_classes lists) ≡ 0 = ap (λ l. class_count (orbits l)) images in
    let len : length lists ≡ n = length-edgeless n in
    let count = class_count-alone n in
    let components : component_count lists ≡ n = ap₂ (λ k l. class_count (classes k l)) len none ∙ count in
    let sums : dart_count lists ≡ 0 = sum-none n in
    let edges : edge_count lists ≡ 0 = ap (λ k. k / 2) sums in
    let isolated = isolated-none n in
    omega arith

-- ---- the triangle, and its maps with an edge less

module _ (m : ℕ) where
  abbrev pub lists : Lists
  lists = (1 ∷ 2 ∷ []) ∷ (2 ∷ 0 ∷ []) ∷ (0 ∷ 1 ∷ []) ∷ edgeless m

  abbrev two_edges : Lists
  two_edges = (1 ∷ 2 ∷ []) ∷ (0 ∷ []) ∷ (0 ∷ []) ∷ edgeless m

  abbrev one_edge : Lists
  one_edge = (1 ∷ []) ∷ (0 ∷ []) ∷ [] ∷ edgeless m

  abbrev no_edge : Lists
  no_edge = [] ∷ [] ∷ [] ∷ edgeless m

  -- two of its vertices
  entry_of : (a b x : ℕ) → Contains (a ∷ b ∷ []) x → (a ≡ x) ⊎ (b ≡ x)
  entry_of a b x h =
      elim (Contains-cons_cases a (b ∷ []) x h) [
        | inl e ↦ inl e
        | inr r ↦ elim (Contains-cons_cases b [] x r) [ inl e ↦ inr e | inr c ↦ absurd (none_in [] x refl c) ]
      ]

  -- its darts are those between its three vertices
  dart_within : (v u : ℕ) → HasDart lists v u → (v < 3) × (u < 3) × (u ≢ v)
  dart_within zero u h = elim (entry_of 1 2 u h.1) [ inl e ↦ (omega arith, omega arith, omega arith) | inr e ↦ (omega arith, omega arith, omega arith) ]
  dart_within (suc zero) u h = elim (entry_of 2 0 u h.1) [ inl e ↦ (omega arith, omega arith, omega arith) | inr e ↦ (omega arith, omega arith, omega arith) ]
  dart_within (suc (suc zero)) u h = elim (entry_of 0 1 u h.1) [ inl e ↦ (omega arith, omega arith, omega arith) | inr e ↦ (omega arith, omega arith, omega arith) ]
  dart_within (suc (suc (suc v))) u h = absurd (none_in (list_of (edgeless m) v) u (list_of-none m v) h.1)

  pub length-triangle : length lists ≡ m + 3
  length-triangle = let n = length-edgeless m in omega arith

  both : (a b : ℕ) → Contains (a ∷ b ∷ []) a × Contains (a ∷ b ∷ []) b
  both a b = (Contains-here a (b ∷ []), Contains-there a (b ∷ []) b (Contains-here b []))

  -- and all of those
  has_dart : (v u : ℕ) → v < 3 → u < 3 → u ≢ v → Contains (list_of lists v) u
  has_dart zero zero l l' ne = absurd (ne refl)
  has_dart zero (suc zero) l l' ne = (both 1 2).0
  has_dart zero (suc (suc zero)) l l' ne = (both 1 2).1
  has_dart (suc zero) zero l l' ne = (both 2 0).1
  has_dart (suc zero) (suc zero) l l' ne = absurd (ne refl)
  has_dart (suc zero) (suc (suc zero)) l l' ne = (both 2 0).0
  has_dart (suc (suc zero)) zero l l' ne = (both 0 1).0
  has_dart (suc (suc zero)) (suc zero) l l' ne = (both 0 1).1
  has_dart (suc (suc zero)) (suc (suc zero)) l l' ne = absurd (ne refl)
  has_dart (suc (suc (suc v))) u l l' ne = absurd (omega arith)
  has_dart v (suc (suc (suc u))) l l' ne = absurd (omega arith)

  HasDart-three : (v u : ℕ) → v < 3 → u < 3 → u ≢ v → HasDart lists v u
  HasDart-three v u l l' ne = let n = length-triangle in (omega arith, has_dart v u l l' ne)

  two_apart : (a b : ℕ) → a ≢ b → AllPairs ◌≢◌ (a ∷ b ∷ [])
  two_apart a b ne = search (rules, ne)

  distinct : (v : ℕ) → AllPairs ◌≢◌ (list_of lists v)
  distinct zero = two_apart 1 2 (omega arith)
  distinct (suc zero) = two_apart 2 0 (omega arith)
  distinct (suc (suc zero)) = two_apart 0 1 (omega arith)
  distinct (suc (suc (suc v))) = subst (AllPairs ◌≢◌) (sym (list_of-none m v)) (search rules)

  pub isolated : (v : ℕ) → 3 ≤ v → list_of lists v ≡ []
  isolated (suc (suc (suc v))) l = list_of-none m v
  isolated v l = absurd (omega arith)

  pub simple : IsSimpleMap lists
  simple =
      let n = length-triangle in
      record {
        some_vertex = omega arith;
        in_range = λ v u h. (let d = dart_within v u h in omega arith);
        no_loop = λ v u h. (dart_within v u h).2;
        no_repeat = λ v l. distinct v;
        both_ways = λ v u h. (let d = dart_within v u h in HasDart-three u v d.1 d.0 (λ e. d.2 (sym e)));
      }

  last_edge : HasDart lists 1 2
  last_edge = HasDart-three 1 2 (omega arith) (omega arith) (omega arith)

  simple_two : IsSimpleMap two_edges
  simple_two = IsSimpleMap-without_edge lists simple 1 2 last_edge

  second_edge : HasDart two_edges 0 2
  second_edge = (omega arith, (both 1 2).1)

  simple_one : IsSimpleMap one_edge
  simple_one = IsSimpleMap-without_edge two_edges simple_two 0 2 second_edge

  first_edge : HasDart one_edge 0 1
  first_edge = (omega arith, Contains-here 1 [])

  simple_none : IsSimpleMap no_edge
  simple_none = IsSimpleMap-without_edge one_edge simple_one 0 1 first_edge

  plane_one : IsPlane one_edge
  plane_one = (edge_between one_edge 0 1 simple_one first_edge (plane-none (suc (suc (suc m)))) (isolated_apart no_edge simple_none 0 1 (omega arith) (omega arith) refl)).plane

  plane_two : IsPlane two_edges
  plane_two = (edge_between two_edges 0 2 simple_two second_edge plane_one (isolated_apart one_edge simple_one 0 2 (omega arith) (omega arith) refl)).plane

  -- the inner face
  pub inner : IsFaceOf lists (record { a = 0; b = 2; c = 1 })
  unfolding entry_after
  inner = record { edge = HasDart-three 0 2 (omega arith) (omega arith) (omega arith); after_b = refl; after_c = refl; after_a = refl }

  to_zero : SameFace two_edges (1, 0) (2, 0)
  unfolding entry_after
  to_zero = two_on two_edges simple_two 1 0 2 (omega arith, Contains-here 0 []) refl

  pub plane : IsPlane lists
  unfolding entry_after
  plane = (edge_in_face lists 1 2 simple last_edge (omega arith) (omega arith) plane_two to_zero).plane

  pub edges : edge_count lists ≡ 3
  edges = let h = sum_by-replicate (λ (us : List ℕ). length us) m [] in let s = sum_by-append (λ (us : List ℕ). length us) ((1 ∷ 2 ∷ []) ∷ (2 ∷ 0 ∷ []) ∷ (0 ∷ 1 ∷ []) ∷ []) (edgeless m) in omega arith

-- The counts of a subdivision in a map of genus zero.
use Rattle.std.proofs.Common.{◌≡◌, ◌≢◌, ◌&&◌, ◌==◌, ℕ, zero, suc, ◌+◌, ◌-◌, ◌*◌, ◌<◌, ◌≤◌, not, Bool, true, false, List, length, refl, sym, ap, ap₂, ◌∙◌, arith, eqb-true, eq-eqb}
use Rattle.std.proofs.lemmas.Bool.{true≢false, and_from, and_parts, not-true}
use Rattle.map_lists.specs.Lists.{Lists}
use Rattle.map_theory.specs.Maps.{Dart, HasDart, IsSimpleMap, IsPlane, dart_number, dart_count, edge_count}
use Rattle.map_theory.proofs.DartLemmas.{dart_number-lt, dart_number-injective}
use Rattle.classes.specs.Classes.{count_below, label, class_count}
use Rattle.classes.proofs.Counting.{count_below_all, count_below_into, count_below_split, count_below_not}
use Rattle.classes.proofs.Classes.{Together, IsLabels}
use Rattle.classes.proofs.Orbits.{orbits_of, length-orbits_of}
use Rattle.classes.proofs.Bound.{after, joint, length-joint, IsLabels-joint, Balances}
use Rattle.map_theory.proofs.DartPermutations.{dart_of, tail_of, rotation, twin, IsPermuting-rotation, IsPairing-twin, dart_of-number, same_orbit, two_m, balances_map}
use Rattle.plane_laws.proofs.DartPaths.{tail_of-number}
use Rattle.embed_theorem.proofs.Tally.{HasMany, count-many, tally, some_below, some_below-from, one_below, one_below-passes}
use Rattle.embed_theorem.proofs.Subdivisions.{Way, from_of, to_of, IsPattern, IsSubdivision, vertex, from_low, vertex_first, way_dart, step_of, way_apart, first_apart, turn}

-- Of a walk along ways that does not turn back the first `girth` branches differ.
abbrev pub HasGirth : (ℕ → ℕ) → (ℕ → ℕ) → ℕ → ℕ → Type 0
HasGirth first second count girth =
    (ws : ℕ → Way) → ((j : ℕ) → (ws j).0 < count) → ((j : ℕ) → from_of first second (ws (suc j)) ≡ to_of first second (ws j)) → ((j : ℕ) → to_of first second (ws (suc j)) ≢ from_of first second (ws j)) → (i j : ℕ) → i < girth → j < girth → from_of first second (ws i) ≡ from_of first second (ws j) → i ≡ j

-- The counts: branches and inner vertices that have darts, darts that leave branches, edges, faces and components.
pub record AreCounts (n degree girth : ℕ) : Type 0 where
  pub branches : ℕ
  pub inner : ℕ
  pub leaving : ℕ
  pub edges : ℕ
  pub faces : ℕ
  pub parts : ℕ
  pub few : branches ≤ n
  pub at_branches : degree * branches ≤ leaving
  pub at_inner : 2 * inner + leaving ≤ 2 * edges
  pub on_faces : girth * faces ≤ leaving
  pub some : 1 ≤ parts
  pub euler : branches + inner + faces ≡ 2 * parts + edges

-- of two numbers
two_picks : ℕ → ℕ → ℕ → ℕ
two_picks a b zero = a
two_picks a b (suc j) = b

two_many : (k : ℕ) (q : ℕ → Bool) (a b : ℕ) → a < k → b < k → q a ≡ true → q b ≡ true → a ≢ b → HasMany k 2 q
unfolding two_picks
two_many k q a b la lb qa qb ne = record {
  pick = two_picks a b;
  within = within;
  passes = passes;
  apart = apart;
}
  where
    within : (j : ℕ) → j < 2 → two_picks a b j < k
    within zero l = la
    within (suc j) l = lb

    passes : (j : ℕ) → j < 2 → q (two_picks a b j) ≡ true
    passes zero l = qa
    passes (suc j) l = qb

    apart : (i j : ℕ) → i < 2 → j < 2 → two_picks a b i ≡ two_picks a b j → i ≡ j
    apart zero zero l m e = refl
    apart zero (suc j) l m e = absurd (ne e)
    apart (suc i) zero l m e = absurd (ne (sym e))
    apart (suc i) (suc j) l m e = omega arith

module _ (n count degree girth : ℕ) (first second branch size : ℕ → ℕ) (at : ℕ → ℕ → ℕ) (lists : Lists) (simple : IsSimpleMap lists) (pattern : IsPattern n count degree first second) (sub : IsSubdivision n count first second branch size at lists) where
  abbrev k : ℕ
  k = dart_count lists

  abbrev tail : ℕ → ℕ
  tail i = tail_of lists i

  abbrev rotation_orbits : List ℕ
  rotation_orbits = orbits_of (rotation lists) (dart_count lists)

  abbrev face_orbits : List ℕ
  face_orbits = orbits_of (after (rotation lists) (twin lists)) (dart_count lists)

  is_branch : ℕ → Bool
  is_branch v = some_below (λ a. branch a == v) n

  abbrev index : ℕ → ℕ
  index v = one_below (λ a. branch a == v) n

  index_is : (v : ℕ) → is_branch v ≡ true → (index v < n) × (branch (index v) ≡ v)
  unfolding is_branch
  index_is v t = let r = one_below-passes (λ a. branch a == v) n t in (r.0, eqb-true (branch (index v)) v r.1)

  branch_is : (a v : ℕ) → a < n → branch a ≡ v → is_branch v ≡ true
  unfolding is_branch
  branch_is a v l e = some_below-from (λ a. branch a == v) n a l (eq-eqb (branch a) v e)

  abbrev start_of : Way → ℕ
  start_of w = from_of first second w

  abbrev vertex_at : Way → ℕ → ℕ
  vertex_at w i = vertex n count degree first second branch size at lists simple pattern sub w i

  abbrev step_number : Way → ℕ → ℕ
  step_number w i = dart_number lists (vertex_at w i, vertex_at w (suc i))

  begins_at : (w : Way) → w.0 < count → vertex_at w 0 ≡ branch (start_of w)
  begins_at w l = vertex_first n count degree first second branch size at lists simple pattern sub w l

  step_dart : (w : Way) (i : ℕ) → w.0 < count → i < size w.0 → HasDart lists (vertex_at w i) (vertex_at w (suc i))
  step_dart w i l m = way_dart n count degree first second branch size at lists simple pattern sub w i l m

  first_dart : (w : Way) → w.0 < count → HasDart lists (vertex_at w 0) (vertex_at w 1)
  first_dart w l = step_dart w 0 l (sub.long w.0 l)

  -- the first step of a way leaves a branch
  first_leaves : (w : Way) → w.0 < count → (step_number w 0 < k) × (tail (step_number w 0) ≡ branch (start_of w)) × (is_branch (tail (step_number w 0)) ≡ true)
  first_leaves w l = grind (arith, first_dart, tail_of-number, vertex_at, begins_at, dart_number-lt, branch_is, start_of, tail, step_number, from_low)

  first_same : (w z : Way) → w.0 < count → z.0 < count → step_number w 0 ≡ step_number z 0 → (vertex_at w 0 ≡ vertex_at z 0) × (vertex_at w 1 ≡ vertex_at z 1)
  first_same w z l m e =
      let same = dart_number-injective lists (vertex_at w 0, vertex_at w 1) (vertex_at z 0, vertex_at z 1) (first_dart w l) (first_dart z m) e in
      (ap (λ (d : Dart). d.0) same, ap (λ (d : Dart). d.1) same)

  abbrev own : List ℕ → ℕ → Bool
  own labels i = label labels i == i

  -- ---- branches
  abbrev own_at_branch : ℕ → Bool
  own_at_branch i = is_branch (tail i) && own rotation_orbits i

  abbrev own_at_inner : ℕ → Bool
  own_at_inner i = not (is_branch (tail i)) && own rotation_orbits i

  -- a dart of the orbit of r
  in_orbit : (r x y : ℕ) → r < k → own rotation_orbits r ≡ true → HasDart lists x y → x ≡ tail r → (dart_number lists (x, y) < k) × (tail (dart_number lists (x, y)) ≡ tail r) × ((label rotation_orbits (dart_number lists (x, y)) == r) ≡ true)
  in_orbit r x y l o d e = grind (arith, dart_number-lt, tail_of-number, eq-eqb, label, rotation_orbits, dart_number, same_orbit, eqb-true)

  branch_many : (r : ℕ) → r < k → own_at_branch r ≡ true → HasMany k degree (λ i. (label rotation_orbits i == r) && is_branch (tail i))
  branch_many r l t =
      let h = and_parts (is_branch (tail r)) (own rotation_orbits r) t in
      let a : ℕ = index (tail r) in
      let i = index_is (tail r) h.0 in
      let near : ℕ → Way = λ j. pattern.near a j in
      let inside : (j : ℕ) → j < degree → ((near j).0 < count) × (start_of (near j) ≡ a) = λ j m. pattern.near_in a j i.0 m in
      let begins : (j : ℕ) → j < degree → vertex_at (near j) 0 ≡ tail r = λ j m. begins_at (near j) (inside j m).0 ∙ (ap branch (inside j m).1 ∙ i.1) in
      let orbit = λ (j : ℕ) (m : j < degree). in_orbit r (vertex_at (near j) 0) (vertex_at (near j) 1) l h.1 (first_dart (near j) (inside j m).0) (begins j m) in
      record {
        pick = λ j. step_number (near j) 0;
        within = λ j m. (orbit j m).0;
        passes = λ j m. and_from (label rotation_orbits (step_number (near j) 0) == r) (is_branch (tail (step_number (near j) 0))) (orbit j m).2 (ap is_branch (orbit j m).1 ∙ h.0);
        apart = λ x y m o e.
            let same = first_same (near x) (near y) (inside x m).0 (inside y o).0 e in
            pattern.near_apart a x y i.0 m o (first_apart n count degree first second branch size at lists simple pattern sub (near x) (near y) (inside x m).0 (inside y o).0 ((inside x m).1 ∙ sym (inside y o).1) same.1);
      }

  -- ---- inner vertices
  inner_many : (r : ℕ) → r < k → own_at_inner r ≡ true → HasMany k 2 (λ i. (label rotation_orbits i == r) && not (is_branch (tail i)))
  inner_many r l t =
      let h = and_parts (not (is_branch (tail r))) (own rotation_orbits r) t in
      let d = dart_of lists r in
      let s = step_of n count degree first second branch size at lists simple pattern sub d.0 d.1 ((dart_of-number lists simple r l).is_dart) in
      from_step s.0 s.1 s.2 s.3 (sym s.4) (not-true (is_branch (tail r)) h.0) h.1 h.0
    where
      from_step : (w : Way) (i : ℕ) → w.0 < count → i < size w.0 → vertex_at w i ≡ tail r → is_branch (tail r) ≡ false → own rotation_orbits r ≡ true → not (is_branch (tail r)) ≡ true → HasMany k 2 (λ i. (label rotation_orbits i == r) && not (is_branch (tail i)))
      from_step w zero m o e none mine is =
          absurd (true≢false (sym (branch_is (start_of w) (tail r) (from_low n count degree first second branch size at lists simple pattern sub w m) (sym (begins_at w m) ∙ e)) ∙ none))
      from_step w (suc i) m o e none mine is =
          let on = step_dart w (suc i) m o in
          let home = simple.both_ways (vertex_at w i) (vertex_at w (suc i)) (step_dart w i m (omega arith)) in
          let a = in_orbit r (vertex_at w (suc i)) (vertex_at w (suc (suc i))) l mine on e in
          let b = in_orbit r (vertex_at w (suc i)) (vertex_at w i) l mine home e in
          two_many k (λ i. (label rotation_orbits i == r) && not (is_branch (tail i))) (dart_number lists (vertex_at w (suc i), vertex_at w (suc (suc i)))) (dart_number lists (vertex_at w (suc i), vertex_at w i)) a.0 b.0
          (and_from (label rotation_orbits (dart_number lists (vertex_at w (suc i), vertex_at w (suc (suc i)))) == r) (not (is_branch (tail (dart_number lists (vertex_at w (suc i), vertex_at w (suc (suc i))))))) a.2 (ap (λ v. not (is_branch v)) a.1 ∙ is))
          (and_from (label rotation_orbits (dart_number lists (vertex_at w (suc i), vertex_at w i)) == r) (not (is_branch (tail (dart_number lists (vertex_at w (suc i), vertex_at w i))))) b.2 (ap (λ v. not (is_branch v)) b.1 ∙ is))
          (λ q.
          let same = dart_number-injective lists (vertex_at w (suc i), vertex_at w (suc (suc i))) (vertex_at w (suc i), vertex_at w i) on home q in
          way_apart n count degree first second branch size at lists simple pattern sub w i (suc (suc i)) m (omega arith) (omega arith) (sym (ap (λ (d : Dart). d.1) same)))

  -- ---- faces
  abbrev State : Type 0
  State = (w : Way) × (w.0 < count)

  next : (s : State) → (z : Way) × (z.0 < count) × (start_of z ≡ to_of first second s.0) × (to_of first second z ≢ start_of s.0) × Together face_orbits (step_number s.0 0) (step_number z 0)
  next s = turn n count degree first second branch size at lists simple pattern sub (size s.0.0 - 1) s.0 0 s.1 (let l = sub.long s.0.0 s.1 in omega arith)

  abbrev walk : State → ℕ → State
  walk s zero = s
  walk s (suc j) = ((next (walk s j)).0, (next (walk s j)).1)

  walk_together : (s : State) (j : ℕ) → Together face_orbits (step_number s.0 0) (step_number (walk s j).0 0)
  walk_together s zero = refl
  walk_together s (suc j) = walk_together s j ∙ (next (walk s j)).4

  face_many : HasGirth first second count girth → (r : ℕ) → r < k → own face_orbits r ≡ true → HasMany k girth (λ i. (label face_orbits i == r) && is_branch (tail i))
  face_many round r l o =
      let d = dart_of lists r in
      let p = dart_of-number lists simple r l in
      let s = step_of n count degree first second branch size at lists simple pattern sub d.0 d.1 p.is_dart in
      let start = turn n count degree first second branch size at lists simple pattern sub (size s.0.0 - suc s.1) s.0 s.1 s.2 (let m : s.1 < size s.0.0 = s.3 in omega arith) in
      let z : State = (start.0, start.1) in
      let same : step_number s.0 s.1 ≡ r = ap₂ (λ x y. dart_number lists (x, y)) (sym s.4) (sym s.5) ∙ p.number in
      let in_face : (j : ℕ) → label face_orbits (step_number (walk z j).0 0) ≡ r = λ j. sym (ap (label face_orbits) (sym same) ∙ (start.4 ∙ walk_together z j)) ∙ eqb-true (label face_orbits r) r o in
      record {
        pick = λ j. step_number (walk z j).0 0;
        within = λ j m. (first_leaves (walk z j).0 (walk z j).1).0;
        passes = λ j m. and_from (label face_orbits (step_number (walk z j).0 0) == r) (is_branch (tail (step_number (walk z j).0 0))) (eq-eqb (label face_orbits (step_number (walk z j).0 0)) r (in_face j)) (first_leaves (walk z j).0 (walk z j).1).2;
        apart = λ x y m q e.
            let vs = first_same (walk z x).0 (walk z y).0 (walk z x).1 (walk z y).1 e in
            let low = λ (j : ℕ). from_low n count degree first second branch size at lists simple pattern sub (walk z j).0 (walk z j).1 in
            let fs = sub.distinct (start_of (walk z x).0) (start_of (walk z y).0) (low x) (low y) (sym (begins_at (walk z x).0 (walk z x).1) ∙ (vs.0 ∙ begins_at (walk z y).0 (walk z y).1)) in
            round (λ j. (walk z j).0) (λ j. (walk z j).1) (λ j. (next (walk z j)).2) (λ j. (next (walk z j)).3) x y m q fs;
      }

  -- ---- all counts
  few_branches : count_below own_at_branch k ≤ n
  few_branches =
      let into = count_below_into (λ r. index (tail r)) own_at_branch (λ i. true) k n (λ r l t. ((index_is (tail r) (and_parts (is_branch (tail r)) (own rotation_orbits r) t).0).0, refl)) (λ i j l m t s e.
      let a = and_parts (is_branch (tail i)) (own rotation_orbits i) t in
      let b = and_parts (is_branch (tail j)) (own rotation_orbits j) s in
      let tails : tail i ≡ tail j = sym (index_is (tail i) a.0).1 ∙ (ap branch e ∙ (index_is (tail j) b.0).1) in
      sym (eqb-true (label rotation_orbits i) i a.1) ∙ (same_orbit lists simple i j l m tails ∙ eqb-true (label rotation_orbits j) j b.1)) in
      omega (arith, count_below_all n)

  pub counts : 0 < n → HasGirth first second count girth → IsPlane lists → AreCounts n degree girth
  counts some round plane =
      let branches = count_below own_at_branch k in
      let inner = count_below own_at_inner k in
      let leaving = count_below (λ i. is_branch (tail i)) k in
      let vertex_orbits : class_count rotation_orbits ≡ count_below (own rotation_orbits) k = ap (count_below (own rotation_orbits)) (length-orbits_of (rotation lists) k) in
      let at_branches = tally (label rotation_orbits) own_at_branch (λ i. is_branch (tail i)) degree k branch_many in
      let at_inner = tally (label rotation_orbits) own_at_inner (λ i. not (is_branch (tail i))) 2 k inner_many in
      let on_faces = tally (label face_orbits) (own face_orbits) (λ i. is_branch (tail i)) girth k (face_many round) in
      let rest = count_below_not (λ i. is_branch (tail i)) k in
      let double = two_m lists simple in
      let f_stays = (IsPermuting-rotation lists simple).within in
      let g_stays = (IsPairing-twin lists simple).within in
      let joint_classes = joint (rotation lists) (twin lists) k in
      let near = pattern.near_in 0 0 some (let two = pattern.two in omega arith) in
      let zero_in : 0 < k = let d = (first_leaves (pattern.near 0 0) near.0).0 in omega arith in
      let joint_long = length-joint (rotation lists) (twin lists) k f_stays g_stays in
      let balance : Balances (rotation lists) (twin lists) k (edge_count lists) 0 = balances_map lists simple 0 (omega (arith, plane)) in
      record {
        branches = branches;
        inner = inner;
        leaving = leaving;
        edges = edge_count lists;
        faces = class_count face_orbits;
        parts = class_count joint_classes;
        few = few_branches;
        at_branches = at_branches;
        at_inner = omega arith;
        on_faces = rw (ap (count_below (own face_orbits)) (length-orbits_of (after (rotation lists) (twin lists)) k)) on_faces;
        some = (one_class_at joint_classes (IsLabels-joint (rotation lists) (twin lists) k f_stays g_stays) (omega arith));
        euler = omega (arith, balance, vertex_orbits, count_below_split (own rotation_orbits) (λ i. is_branch (tail i)) k);
      }
    where
      one_class_at : (labels : List ℕ) → IsLabels labels → 0 < length labels → 1 ≤ class_count labels
      one_class_at labels known l =
          count-many (length labels) 1 (λ i. label labels i == i) record {
            pick = λ j. label labels 0;
            within = λ j m. omega arith;
            passes = λ j m. eq-eqb (label labels (label labels 0)) (label labels 0) (known.own 0);
            apart = λ i j m o e. omega arith;
          }

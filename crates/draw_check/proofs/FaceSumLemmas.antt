-- The table of sums over faces, dart by dart, and the darts whose face has a sum that is not positive.
use Rattle.std.proofs.Common.{◌≡◌, ◌≢◌, ℕ, ◌+◌, ◌<◌, ◌≤◌, true, cond, eqb, List, length, take, get_or, set, Contains, Option, Some, None, option_map, ℤ, pos, ◌+ℤ◌, ◌≤ℤ◌, sym, ap, ap₂, subst, ◌∙◌, inl, inr, arith, get_or-set_same, get_or-set_other, length-set}
use Rattle.std.proofs.lemmas.Bool.{cases_eq, cond-true, cond-false, false_from_ne_true}
use Rattle.std.proofs.lemmas.Int.{ints, by_lt_z}
use Rattle.std.proofs.lemmas.List.{length-take}
use Rattle.std.proofs.Math.Seq.{take-length}
use Rattle.classes.specs.Classes.{label}
use Rattle.classes.proofs.Classes.{Together, Together-from, same_class-from}
use Rattle.map_lists.specs.Lists.{Lists}
use Rattle.map_theory.specs.Maps.{Dart, darts, dart_number, dart_count, face_classes}
use Rattle.map_theory.specs.Paths.{SameFace}
use Rattle.map_theory.proofs.DartLemmas.{length-darts, get_or-dart_number}
use Rattle.half_edges.specs.Map.{Map, IsHalfMap, IsLive, dart_at}
use Rattle.euler_faces.specs.Numbers.{number_at}
use Rattle.euler_faces.specs.FaceWalks.{walk_at, first_number, AreFaces}
use Rattle.euler_faces.proofs.NumberLemmas.{number_at-is, number_at-lt, few_darts, live_from}
use Rattle.pg_plane.specs.declared.grid_points.Point.{Point}
use Rattle.pg_plane.specs.Range.{IsWithin}
use Rattle.plane_drawings.specs.Drawing.{HasPlaces}
use Rattle.vertex_rounds.specs.Rounds.{dart_of}
use Rattle.drawings.specs.OuterFaces.{swept, sum_over, face_sum, HasOuterFace}
use Rattle.draw_check.specs.Outer.{IsInside}
use Rattle.draw_check.specs.FaceSums.{is_on_walk, AreSumsBelow, HasLowSum}
use Rattle.draw_check.proofs.DartSums.{sum_over-take, sum_over-within, swept-within}
use Rattle.euler_faces.proofs.WalkFaces.{in_class, in_walk}

-- a dart by its tail and its head
pub dart_from_ends : (o : Option Dart) (a b : ℕ) → option_map (λ (x : Dart). x.0) o ≡ Some a → option_map (λ (x : Dart). x.1) o ≡ Some b → o ≡ Some (a, b)
dart_from_ends None a b e e' = absurd (cc)
dart_from_ends (Some x) a b e e' = let p : x.0 ≡ a = cc in let q : x.1 ≡ b = cc in ap₂ (λ (y z : ℕ). Some (y, z)) p q

module _ (map : Map) (h : IsHalfMap map) (walks : List (List ℕ)) (faces : AreFaces map walks) where
  -- a dart stands in a walk exactly where it lies on its face
  pub on_walk : (f d v u : ℕ) → f < length walks → dart_at map d ≡ Some (v, u) → Contains (walk_at walks f) d → is_on_walk map (walk_at walks f) (v, u) ≡ true
  on_walk f d v u l is c =
      same_class-from (face_classes map.lists) (first_number map (walk_at walks f)) (dart_number map.lists (v, u))
      (subst (λ (x : ℕ). Together (face_classes map.lists) (first_number map (walk_at walks f)) x) (number_at-is map d v u is) (in_class map h (walk_at walks f) (faces.each f l) d c))

  pub stands_from : (f d v u : ℕ) → f < length walks → dart_at map d ≡ Some (v, u) → is_on_walk map (walk_at walks f) (v, u) ≡ true → Contains (walk_at walks f) d
  stands_from f d v u l is t =
      in_walk map h (walk_at walks f) (faces.each f l) d (live_from (dart_at map d) (v, u) is)
      (subst (λ (x : ℕ). Together (face_classes map.lists) (first_number map (walk_at walks f)) x) (sym (number_at-is map d v u is))
      (Together-from (face_classes map.lists) (first_number map (walk_at walks f)) (dart_number map.lists (v, u)) t))

  pub one_face : (f g d v u : ℕ) → f < length walks → g < length walks → dart_at map d ≡ Some (v, u) → Contains (walk_at walks f) d → is_on_walk map (walk_at walks g) (v, u) ≡ true → g ≡ f
  one_face f g d v u l l' is c t = faces.apart g f d l' l (stands_from g d v u l' is t) c

  module _ (points : List Point) (k : ℕ) (sums : List ℤ) (s : AreSumsBelow map points walks k sums) where
    -- one dart more
    pub AreSumsBelow-more : (f d v u : ℕ) (z : ℤ) → f < length walks → dart_at map d ≡ Some (v, u) → number_at map d ≡ k → Contains (walk_at walks f) d → z ≡ get_or sums f (pos 0) +ℤ swept points (v, u) → AreSumsBelow map points walks (k + 1) (set sums f z)
    AreSumsBelow-more f d v u z l is number c e =
        let ds = darts map.lists in
        let count = s.count in
        let in_k : k < length ds = omega (arith, length-darts map.lists, number_at-lt map h d (live_from (dart_at map d) (v, u) is)) in
        let has = h.is_dart d v u is in
        let here : get_or ds k (0, 0) ≡ (v, u) = ap (λ (i : ℕ). get_or ds i (0, 0)) (sym number ∙ number_at-is map d v u is) ∙ get_or-dart_number map.lists v u (0, 0) has in
        let step : (g : ℕ) → sum_over (is_on_walk map (walk_at walks g)) (swept points) (take (k + 1) ds) ≡ sum_over (is_on_walk map (walk_at walks g)) (swept points) (take k ds) +ℤ cond (is_on_walk map (walk_at walks g) (v, u)) (swept points (v, u)) (pos 0) =
        λ g. sum_over-take (is_on_walk map (walk_at walks g)) (swept points) ds k (v, u) in_k here in
        record {
          count = length-set sums f z ∙ s.count;
          each = λ g l'.
              elim (cases_eq g f) [
                | inl q ↦ grind (arith, on_walk, is_on_walk, walk_at, get_or, set, pos, get_or-set_same, sum_over, swept, take, cond-true)
                | inr ne ↦
                    let off = false_from_ne_true (is_on_walk map (walk_at walks g) (v, u)) (λ t. ne (one_face f g d v u l l' is c t)) in
                    let turn = cond-false (is_on_walk map (walk_at walks g) (v, u)) (swept points (v, u)) (pos 0) off in
                    let zero : sum_over (is_on_walk map (walk_at walks g)) (swept points) (take k ds) +ℤ pos 0 ≡ sum_over (is_on_walk map (walk_at walks g)) (swept points) (take k ds) = omega (arith, ints) in
                    get_or-set_other sums f g z (pos 0) ne ∙ (s.each g l' ∙ (sym zero ∙ (ap (λ (x : ℤ). sum_over (is_on_walk map (walk_at walks g)) (swept points) (take k ds) +ℤ x) (sym turn) ∙ sym (step g))))
              ];
        }

    -- the sums stay small
    pub sum-within : HasPlaces map.lists points → (f : ℕ) → f < length walks → IsWithin (pos 36893488147419103232) (get_or sums f (pos 0))
    sum-within places f l =
        let ds = darts map.lists in
        let b = sum_over-within (is_on_walk map (walk_at walks f)) (swept points) (take k ds) (swept-within points places.in_range) in
        let n : length (take k ds) ≤ 16769025 = omega (arith, length-darts map.lists, few_darts map h, length-take {A = Dart} k ds) in
        let e = s.each f l in
        record { least = omega (arith, ints); most = omega (arith, ints) }

  module _ (sums : List ℤ) (base d face outer v u : ℕ) (live : IsLive map base) (is : dart_at map d ≡ Some (v, u)) (lf : face < length walks) (lo : outer < length walks) (cf : Contains (walk_at walks face) d) (co : Contains (walk_at walks outer) base) where
    abbrev L : List ℕ
    L = face_classes map.lists

    base_class : Together L (first_number map (walk_at walks outer)) (number_at map base)
    base_class = in_class map h (walk_at walks outer) (faces.each outer lo) base co

    number_is : number_at map d ≡ dart_number map.lists (v, u)
    number_is = number_at-is map d v u is

    same_from : Together L (number_at map base) (number_at map d) → SameFace map.lists (dart_of map base) (v, u)
    same_from t = same_class-from L (number_at map base) (dart_number map.lists (v, u)) (subst (λ (i : ℕ). Together L (number_at map base) i) number_is t)

    same_to : SameFace map.lists (dart_of map base) (v, u) → Together L (number_at map base) (number_at map d)
    same_to t = subst (λ (i : ℕ). Together L (number_at map base) i) (sym number_is) (Together-from L (number_at map base) (dart_number map.lists (v, u)) t)

    -- the face of the base has no dart with a low sum
    pub not_low : face ≡ outer → ¬ HasLowSum map walks sums base v u
    not_low e low =
        low.other (same_from (sym base_class ∙ in_class map h (walk_at walks outer) (faces.each outer lo) d (subst (λ (f : ℕ). Contains (walk_at walks f) d) e cf)))

    -- a dart has one where the sum of its face is, on any other face
    pub low_from : face ≢ outer → get_or sums face (pos 0) ≤ℤ pos 0 → HasLowSum map walks sums base v u
    low_from ne low = record {
      dart = h.is_dart d v u is;
      other = λ t. ne (faces.apart face outer d lf lo cf (in_walk map h (walk_at walks outer) (faces.each outer lo) d (live_from (dart_at map d) (v, u) is) (base_class ∙ same_to t)));
      face = face;
      within = lf;
      on = on_walk face d v u lf is cf;
      sum = low;
    }

    pub low_to : HasLowSum map walks sums base v u → get_or sums face (pos 0) ≤ℤ pos 0
    low_to low = subst (λ (f : ℕ). get_or sums f (pos 0) ≤ℤ pos 0) (one_face face low.face d v u lf low.within is cf low.on) low.sum

-- ---- all sums
module _ (map : Map) (h : IsHalfMap map) (points : List Point) (walks : List (List ℕ)) (faces : AreFaces map walks) (sums : List ℤ) (s : AreSumsBelow map points walks (dart_count map.lists) sums) where
  -- the sum of a face is the one that its walk has
  sum_of : (f v u : ℕ) → f < length walks → is_on_walk map (walk_at walks f) (v, u) ≡ true → face_sum map.lists points (v, u) ≡ get_or sums f (pos 0)
  unfolding face_sum
  sum_of f v u l on =
      let ds = darts map.lists in
      let L = face_classes map.lists in
      let walk = walk_at walks f in
      let whole : take (dart_count map.lists) ds ≡ ds = ap (λ (n : ℕ). take n ds) (sym (length-darts map.lists)) ∙ take-length ds in
      let class = Together-from L (first_number map walk) (dart_number map.lists (v, u)) on in
      ap (λ (x : ℕ). sum_over (λ (e : Dart). eqb x (label L (dart_number map.lists e))) (swept points) ds) (sym class)
      ∙ (ap (sum_over (is_on_walk map walk) (swept points)) (sym whole) ∙ sym (s.each f l))

  pub inside_from : (base v u : ℕ) → HasLowSum map walks sums base v u → IsInside map.lists points (dart_of map base) v u
  inside_from base v u low = record {
    dart = low.dart;
    other = low.other;
    sum = subst (λ (z : ℤ). z ≤ℤ pos 0) (sym (sum_of low.face v u low.within low.on)) low.sum;
  }

  pub inside_to : (base v u : ℕ) → IsInside map.lists points (dart_of map base) v u → HasLowSum map walks sums base v u
  inside_to base v u i =
      let d = h.has_id v u i.dart in
      let f = faces.all d.0 (live_from (dart_at map d.0) (v, u) d.1) in
      let on = on_walk map h walks faces f.0 d.0 v u f.1 d.1 f.2 in
      record {
        dart = i.dart;
        other = i.other;
        face = f.0;
        within = f.1;
        on = on;
        sum = subst (λ (z : ℤ). z ≤ℤ pos 0) (sum_of f.0 v u f.1 on) i.sum;
      }

-- none inside: the face of the base is the outer one
pub outer_from : (lists : Lists) (points : List Point) (base : Dart) → ((v u : ℕ) → ¬ IsInside lists points base v u) → HasOuterFace lists points base
outer_from lists points base none one v u has off =
    by_lt_z (pos 0) (face_sum lists points (v, u)) (λ p. p) (λ low. absurd (none v u (record { dart = has; other = off; sum = low })))

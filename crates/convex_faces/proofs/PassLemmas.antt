-- Walks passed one after another.
use Rattle.std.proofs.Common.{◌≡◌, ◌≢◌, ℕ, ◌<◌, Bool, true, false, not, eqb, List, [], ◌∷◌, ◌++◌, length, get_or, set, Option, Some, option_map, unwrap_or, refl, sym, ap, ap₂, ◌∙◌, subst, inl, inr, arith, get_or-set_same, get_or-set_other, length-set}
use Rattle.std.proofs.lemmas.Bool.{cases_eq, eq-eqb, eqb-true, and_from, and_parts, or_left, or_right, or_cases, false_from_ne_true}
use Rattle.map_lists.specs.Lists.{Lists}
use Rattle.map_theory.specs.Maps.{Dart, twin_dart, same_dart}
use Rattle.half_edges.specs.Map.{Map, IsLive, IsHalfMap, dart_at, id_bound}
use Rattle.euler_faces.specs.Numbers.{mark_at}
use Rattle.euler_faces.proofs.NumberLemmas.{live-lt, live_from}
use Rattle.convex_counts.specs.declared.face_woods.axis.Axis.{Axis}
use Rattle.convex_laws.specs.ConvexWoods.{IsOut}
use Rattle.convex_laws.specs.Walks.{flipped, is_edge, is_odd_on}
use Rattle.convex_laws.proofs.Flips.{flipped_assoc, flipped_comm, flipped_false}
use Rattle.convex_laws.proofs.WalkLemmas.{is_odd_on-append}
use Rattle.convex_laws.specs.Regions.{IsAxisWay, IsOuterWay}
use Rattle.convex_faces.specs.Passing.{Passes, PassesDart, PassesAxis}

-- ---- walks
pub Passes-append : (map : Map) (xs ys : List Dart) (old mid new : List Bool) → Passes map xs old mid → Passes map ys mid new → Passes map (xs ++ ys) old new
Passes-append map xs ys old mid new p q d x y e =
    let a = is_odd_on xs x y in
    let b = is_odd_on ys x y in
    q d x y e ∙ (ap (flipped b) (p d x y e) ∙ (flipped_assoc b a (mark_at old d) ∙ ap (λ t. flipped t (mark_at old d)) (flipped_comm b a ∙ sym (is_odd_on-append xs ys x y))))

pub IsAxisWay-more : (lists : Lists) (root : Axis → ℕ) (out : Axis → ℕ → ℕ) (c : Axis) (v w u : ℕ) (xs : List Dart) → IsAxisWay lists root out c v w xs → IsOut lists root out c w u → IsAxisWay lists root out c v u (xs ++ (w, u) ∷ [])
IsAxisWay-more lists root out c v w u [] e on = (sym e, subst (λ z. IsOut lists root out c z u) (sym e) on, refl)
IsAxisWay-more lists root out c v w u (d ∷ xs) h on = (h.0, h.1, IsAxisWay-more lists root out c d.1 w u xs h.2 on)

pub IsOuterWay-more : (lists : Lists) (base : Dart) (avoided v : ℕ) (xs : List Dart) (d : Dart) (tail : ℕ) → IsOuterWay lists base avoided v tail xs → d.0 ≡ tail → IsOuterWay lists base avoided d.0 d.1 (d ∷ []) → IsOuterWay lists base avoided v d.1 (xs ++ d ∷ [])
IsOuterWay-more lists base avoided v [] d tail e at h = (at ∙ sym e, h.1, h.2, h.3, h.4)
IsOuterWay-more lists base avoided v (x ∷ xs) d tail g at h = (g.0, g.1, g.2, g.3, IsOuterWay-more lists base avoided x.1 xs d tail g.4 at h)

-- ---- one edge
is_edge-same : (x y : ℕ) → is_edge (x, y) x y ≡ true
is_edge-same x y = or_left (same_dart (x, y) (x, y)) (same_dart (x, y) (y, x)) (and_from (eqb x x) (eqb y y) (eq-eqb x x refl) (eq-eqb y y refl))

is_edge-back : (x y : ℕ) → is_edge (x, y) y x ≡ true
is_edge-back x y = or_right (same_dart (x, y) (y, x)) (same_dart (x, y) (x, y)) (and_from (eqb x x) (eqb y y) (eq-eqb x x refl) (eq-eqb y y refl))

is_edge-other : (x y a b : ℕ) → ¬ ((x ≡ a) × (y ≡ b)) → ¬ ((x ≡ b) × (y ≡ a)) → is_edge (x, y) a b ≡ false
is_edge-other x y a b ne ne' = false_from_ne_true (is_edge (x, y) a b) (λ t. elim (or_cases (same_dart (x, y) (a, b)) (same_dart (x, y) (b, a)) t) [
  | inl s ↦ let p = and_parts (eqb x a) (eqb y b) s in ne (eqb-true x a p.0, eqb-true y b p.1)
  | inr s ↦ let p = and_parts (eqb x b) (eqb y a) s in ne' (eqb-true x b p.0, eqb-true y a p.1)
])

-- a dart of two vertices
abbrev some_pair : ℕ → ℕ → Option Dart
some_pair a b = Some (a, b)

pub same_pair : (a b a' b' : ℕ) → some_pair a b ≡ some_pair a' b' → (a ≡ a') × (b ≡ b')
same_pair a b a' b' e = (ap (λ o. (unwrap_or {T = Dart} o (0, 0)).0) e, ap (λ o. (unwrap_or {T = Dart} o (0, 0)).1) e)

module _ (map : Map) (known : IsHalfMap map) where
  -- the marks of the two darts are turned round
  pub pass_dart : (d t : ℕ) (old : List Bool) → IsLive map d → dart_at map t ≡ option_map twin_dart (dart_at map d) → length old ≡ id_bound map → PassesDart map d old (set (set old d (not (get_or old d false))) t (not (get_or (set old d (not (get_or old d false))) t false)))
  pass_dart d t old live twin long x y e f a b on =
      let m = set old d (not (get_or old d false)) in
      let new = set m t (not (get_or m t false)) in
      let te : dart_at map t ≡ Some (y, x) = twin ∙ ap (option_map twin_dart) e in
      let has = known.is_dart d x y e in
      let apart : d ≢ t = λ q. known.simple.no_loop x y has (sym (same_pair x y y x (sym e ∙ (ap (dart_at map) q ∙ te))).0) in
      let ld = live-lt map known d live in
      let lt = live-lt map known t (live_from (dart_at map t) (y, x) te) in
      let one : is_odd_on ((x, y) ∷ []) a b ≡ is_edge (x, y) a b = flipped_false (is_edge (x, y) a b) in
      elim (cases_eq f d) [
        | inl q ↦
            let p = same_pair x y a b (sym e ∙ (ap (dart_at map) (sym q) ∙ on)) in
            let here : mark_at new d ≡ not (mark_at old d) = get_or-set_other m t d (not (get_or m t false)) false apart ∙ get_or-set_same old d (not (get_or old d false)) false (omega arith) in
            ap (mark_at new) q ∙ (here ∙ (ap (λ z. not (mark_at old z)) (sym q) ∙ ap (λ z. flipped z (mark_at old f)) (sym (one ∙ (sym (ap₂ (is_edge (x, y)) p.0 p.1) ∙ is_edge-same x y)))))
        | inr ne ↦ elim (cases_eq f t) [
          | inl q ↦
              let p = same_pair y x a b (sym te ∙ (ap (dart_at map) (sym q) ∙ on)) in
              let size : t < length m = long_set old d (not (get_or old d false)) t (omega arith) in
              let here : mark_at new t ≡ not (mark_at old t) = get_or-set_same m t (not (get_or m t false)) false size ∙ ap not (get_or-set_other old d t (not (get_or old d false)) false (λ z. apart (sym z))) in
              ap (mark_at new) q ∙ (here ∙ (ap (λ z. not (mark_at old z)) (sym q) ∙ ap (λ z. flipped z (mark_at old f)) (sym (one ∙ (sym (ap₂ (is_edge (x, y)) p.0 p.1) ∙ is_edge-back x y)))))
          | inr ne' ↦
              let off = is_edge-other x y a b (λ p. ne (known.one_id f d a b on (e ∙ ap₂ some_pair p.0 p.1))) (λ p. ne' (known.one_id f t a b on (te ∙ ap₂ some_pair p.1 p.0))) in
              get_or-set_other m t f (not (get_or m t false)) false ne' ∙ (get_or-set_other old d f (not (get_or old d false)) false ne ∙ ap (λ z. flipped z (mark_at old f)) (sym (one ∙ off)))
        ]
      ]
    where
      long_set : (us : List Bool) (i : ℕ) (b : Bool) (j : ℕ) → j < length us → j < length (set us i b)
      long_set us i b j l = omega (arith, length-set us i b)

  -- ---- along an axis
  module _ (root : Axis → ℕ) (out : Axis → ℕ → ℕ) (c : Axis) (v : ℕ) where
    pub axis_begin : (old : List Bool) → PassesAxis map root out c v v old old
    axis_begin old = record { way = []; is_way = refl; passes = λ d x y e. refl }

    pub axis_more : (w u : ℕ) (old mid new : List Bool) → PassesAxis map root out c v w old mid → IsOut map.lists root out c w u → Passes map ((w, u) ∷ []) mid new → PassesAxis map root out c v u old new
    axis_more w u old mid new h on p = record {
      way = h.way ++ (w, u) ∷ [];
      is_way = IsAxisWay-more map.lists root out c v w u h.way h.is_way on;
      passes = Passes-append map h.way ((w, u) ∷ []) old mid new h.passes p;
    }

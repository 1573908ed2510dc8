-- The sides of a closed walk.
use Rattle.std.proofs.Common.{◌≡◌, ℕ, zero, suc, ◌<◌, ◌≤◌, Bool, true, false, eqb, List, length, All, get_or, refl, sym, ap, ap₂, ◌∙◌, subst, arith}
use Rattle.std.proofs.lemmas.Bool.{eq-eqb}
use Rattle.classes.specs.Classes.{label, class_count}
use Rattle.classes.proofs.Counting.{count_below_into, count_below_all}
use Rattle.classes.proofs.Classes.{Together, IsLabels, label-lt, IsEquivalenceBelow, length-classes, classes-lies}
use Rattle.classes.proofs.Bound.{joint, length-joint, Balances}
use Rattle.map_lists.specs.Lists.{Lists}
use Rattle.map_theory.specs.Maps.{Dart, HasDart, IsSimpleMap, IsPlane, list_of, follows, darts, dart_count, edge_count, dart_number, component_count, component_classes}
use Rattle.map_theory.proofs.DartLemmas.{length-darts, dart_number-lt, get_or-dart_number, HasDart-darts, HasDart-follows, HasDart-face_step}
use Rattle.map_theory.proofs.DartPermutations.{rotation, twin, IsPermuting-rotation, IsPairing-twin, IsLabels-dart_classes, component_count-classes, two_m, balances_map, darts_below, IsLabels-components}
use Rattle.plane_laws.proofs.DartPaths.{twin-number, face_step-number}
use Rattle.plane_laws.proofs.EdgeBound.{one_class}
use Rattle.plane_peeling.proofs.Rings.{entries_closed}
use Rattle.convex_laws.specs.Walks.{IsWalk, flipped, is_odd_on}
use Rattle.euler_faces.specs.Chains.{GoesOn, along, over, ReachesBy, Reaches}
use Rattle.convex_laws.specs.ClosedWalksLaws.{SidesAreKnown}
use Rattle.convex_laws.proofs.Covers.{copy, J, copies_apart, over_together, along_together}
use Rattle.convex_laws.proofs.Degrees.{passed, passed-twin, sector, sector-rotation}

-- some class where there is some number
some_class : (labels : List ℕ) → IsLabels labels → (i : ℕ) → i < length labels → 1 ≤ class_count labels
some_class labels w i l =
    let into = count_below_into (λ j. label labels i) (λ j. true) (λ j. eqb (label labels j) j) 1 (length labels)
    (λ j m e. (label-lt labels w i l, eq-eqb (label labels (label labels i)) (label labels i) (w.own i)))
    (λ j h m n e e' s. omega arith) in
    omega arith

module _ (lists : Lists) (simple : IsSimpleMap lists) (one : component_count lists ≡ 1) where
  -- any two vertices are in one class
  all_together : (u v : ℕ) → u < length lists → v < length lists → Together (component_classes lists) u v
  unfolding component_count
  all_together u v lu lv =
      let size = length-classes (length lists) (darts lists) in
      one_class (component_classes lists) (IsLabels-components lists simple) (omega (arith, one)) u v (omega arith) (omega arith)

  module _ (counts : ℕ → ℕ → Bool) (base : Dart) (has_base : HasDart lists base.0 base.1) where
    -- some chain leads to a dart
    abbrev Met : ℕ → ℕ → Type 0
    Met x y = (odd : Bool) × Reaches lists counts base x y odd

    met_along : (x y : ℕ) → Met x y → Met y (follows lists y x)
    met_along x y m = (m.0, (suc m.1.0, (x, y, m.0, m.1.1, along refl refl refl)))

    met_over : (x y : ℕ) → Met x y → Met y x
    met_over x y m = (flipped (counts x y) m.0, (suc m.1.0, (x, y, m.0, m.1.1, over refl refl refl)))

    -- to all darts from a vertex
    abbrev AllMet : ℕ → Type 0
    AllMet x = (y : ℕ) → HasDart lists x y → Met x y

    round : (x a : ℕ) → HasDart lists x a → Met x a → AllMet x
    round x a has met y has_y =
        (entries_closed (λ z. HasDart lists x z × Met x z) (list_of lists x) a y (simple.no_repeat x has.0) has.1 (has, met)
        (λ z h. (HasDart-follows lists x z h.0, met_along z x (met_over x z h.1))) has_y.1).1

    spread : (x y : ℕ) → HasDart lists x y → AllMet x → AllMet y
    spread x y has all = round y x (simple.both_ways x y has) (met_over x y (all y has))

    pub met_all : (x y : ℕ) → HasDart lists x y → Met x y
    met_all x y has =
        let Alike : ℕ → ℕ → Type 0 = λ u v. (AllMet u → AllMet v) × (AllMet v → AllMet u) in
        let alike : IsEquivalenceBelow (length lists) Alike = record {
          itself = λ i l. ((λ j. j), λ j. j);
          turned = λ i j l m e. (e.1, e.0);
          chained = λ i j k l m n e f. ((λ z. f.0 (e.0 z)), λ z. e.1 (f.1 z));
        } in
        let darts_alike : All (λ d. Alike d.0 d.1) (darts lists) = λ i d n.
        let c : Dart = get_or (darts lists) i d in
        let on = HasDart-darts lists i d (omega (arith, length-darts lists)) in
        (spread c.0 c.1 on, spread c.1 c.0 (simple.both_ways c.0 c.1 on)) in
        let start : AllMet base.0 = round base.0 base.1 has_base (false, (0, (refl, refl, refl))) in
        (classes-lies Alike (length lists) alike (darts lists) (darts_below lists simple) darts_alike base.0 x has_base.0 has.0 (all_together base.0 x has_base.0 has.0)).0 start y has

  module _ (plane : IsPlane lists) (v : ℕ) (walk : List Dart) (closed : IsWalk lists v v walk) (base : Dart) (has_base : HasDart lists base.0 base.1) where
    abbrev k : ℕ
    k = dart_count lists

    abbrev f : ℕ → ℕ
    f = rotation lists

    abbrev g : ℕ → ℕ
    g = twin lists

    abbrev test : ℕ → Bool
    test = passed lists simple walk v closed

    number-lt : (x y : ℕ) → HasDart lists x y → dart_number lists (x, y) < k
    number-lt x y has = dart_number-lt lists x y has

    flat : Balances f g k (edge_count lists) 0
    flat = balances_map lists simple 0 (omega (arith, plane))

    one_joint : class_count (joint f g k) ≡ 1
    one_joint =
        let size = length-joint f g k (IsPermuting-rotation lists simple).within (IsPairing-twin lists simple).within in
        let some = some_class (joint f g k) (IsLabels-dart_classes lists simple) (dart_number lists base) (omega (arith, number-lt base.0 base.1 has_base)) in
        omega (arith, component_count-classes lists simple, some, one)

    -- the parts of the cover
    abbrev parts : List ℕ
    parts = J f g k (edge_count lists) (two_m lists simple) (IsPermuting-rotation lists simple) (IsPairing-twin lists simple) test (passed-twin lists simple walk v closed) (sector lists simple walk v closed) (sector-rotation lists simple walk v closed) flat one_joint

    step_along : (i : ℕ) (b : Bool) → i < k → Together parts (copy k i b) (copy k (f (g i)) b)
    step_along = along_together f g k (edge_count lists) (two_m lists simple) (IsPermuting-rotation lists simple) (IsPairing-twin lists simple) test (passed-twin lists simple walk v closed) (sector lists simple walk v closed) (sector-rotation lists simple walk v closed) flat one_joint

    step_over : (i : ℕ) (b : Bool) → i < k → Together parts (copy k i b) (copy k (g i) (flipped (test i) b))
    step_over = over_together f g k (edge_count lists) (two_m lists simple) (IsPermuting-rotation lists simple) (IsPairing-twin lists simple) test (passed-twin lists simple walk v closed) (sector lists simple walk v closed) (sector-rotation lists simple walk v closed) flat one_joint

    separated : (i : ℕ) → i < k → ¬ Together parts (copy k i false) (copy k i true)
    separated = copies_apart f g k (edge_count lists) (two_m lists simple) (IsPermuting-rotation lists simple) (IsPairing-twin lists simple) test (passed-twin lists simple walk v closed) (sector lists simple walk v closed) (sector-rotation lists simple walk v closed) flat one_joint

    -- a dart is in one part with the base's first copy, by the copy that a chain comes to
    abbrev Linked : ℕ → ℕ → Bool → Type 0
    Linked x y odd = Together parts (copy k (dart_number lists base) false) (copy k (dart_number lists (x, y)) odd)

    linked : (n x y : ℕ) (odd : Bool) → ReachesBy lists (is_odd_on walk) base n x y odd → HasDart lists x y × Linked x y odd
    linked zero x y odd (ex, ey, e) = (
      subst (λ x. HasDart lists x y) (sym ex) (subst (HasDart lists base.0) (sym ey) has_base),
      subst (λ x. Linked x y odd) (sym ex) (subst (λ y. Linked base.0 y odd) (sym ey) (subst (Linked base.0 base.1) (sym e) refl)),
    )
    linked (suc n) x y odd (x', y', odd', before, goes) = on x' y' odd' (linked n x' y' odd' before) goes
      where
        on : (x' y' : ℕ) (odd' : Bool) → HasDart lists x' y' × Linked x' y' odd' → GoesOn lists (is_odd_on walk) x' y' odd' x y odd → HasDart lists x y × Linked x y odd
        on x' y' odd' h (along ex ey e) =
            let step = step_along (dart_number lists (x', y')) odd' (number-lt x' y' h.0) in
            let to : Linked y' (follows lists y' x') odd' = h.1 ∙ (step ∙ ap (λ i. label parts (copy k i odd')) (face_step-number lists simple (x', y') h.0)) in (
              subst (λ x. HasDart lists x y) (sym ex) (subst (HasDart lists y') (sym ey) (HasDart-face_step lists (x', y') simple h.0)),
              subst (λ x. Linked x y odd) (sym ex) (subst (λ y. Linked y' y odd) (sym ey) (subst (Linked y' (follows lists y' x')) (sym e) to)),
            )
        on x' y' odd' h (over ex ey e) =
            let step = step_over (dart_number lists (x', y')) odd' (number-lt x' y' h.0) in
            let to : Linked y' x' (flipped (is_odd_on walk x' y') odd') = h.1 ∙ (step ∙ ap₂ (λ i b. label parts (copy k i b)) (twin-number lists x' y' h.0) (ap (λ d. flipped (is_odd_on walk d.0 d.1) odd') (get_or-dart_number lists x' y' (0, 0) h.0))) in (
              subst (λ x. HasDart lists x y) (sym ex) (subst (HasDart lists y') (sym ey) (simple.both_ways x' y' h.0)),
              subst (λ x. Linked x y odd) (sym ex) (subst (λ y. Linked y' y odd) (sym ey) (subst (Linked y' x') (sym e) to)),
            )

    -- one dart is not reached both ways
    once : (x y : ℕ) (odd odd' : Bool) → Reaches lists (is_odd_on walk) base x y odd → Reaches lists (is_odd_on walk) base x y odd' → odd ≡ odd'
    once x y odd odd' r r' = grind (arith, linked, separated, dart_number, number-lt, label, parts, copy)

-- THE LAW
pub sides_are_known : SidesAreKnown
sides_are_known lists base v walk x y simple plane one has_base closed has =
    let met = met_all lists simple one (is_odd_on walk) base has_base x y has in
    (met.0, record { some = met.1; only = λ odd' r. once lists simple one plane v walk closed base has_base x y odd' met.0 r met.1 })

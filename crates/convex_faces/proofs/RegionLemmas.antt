-- The closed path of a region.
use Rattle.std.proofs.Common.{◌≡◌, ℕ, Bool, false, List, ◌++◌, Some, refl, sym, ap, ap₂, ◌∙◌, subst}
use Rattle.map_lists.specs.Lists.{Lists}
use Rattle.map_theory.specs.Maps.{Dart, HasDart}
use Rattle.map_theory.proofs.DartLemmas.{HasDart-follows}
use Rattle.half_edges.specs.Map.{Map, IsHalfMap, dart_at}
use Rattle.euler_faces.specs.Numbers.{mark_at}
use Rattle.vertex_rounds.specs.Rounds.{dart_of}
use Rattle.vertex_rounds.proofs.DartIds.{dart_of-is}
use Rattle.convex_counts.specs.declared.face_woods.axis.Axis.{Axis}
use Rattle.convex_counts.specs.declared.face_woods.axis.Axis.TheVariants.{One, Two, Three}
use Rattle.convex_counts.specs.Axes.{next, previous}
use Rattle.convex_laws.specs.ConvexWoods.{AreRoots}
use Rattle.convex_faces.specs.Directions.{Directions, root_in, IsWoodIn}
use Rattle.convex_laws.specs.Walks.{turned, flipped, is_odd_on}
use Rattle.convex_laws.proofs.Flips.{flipped_false}
use Rattle.convex_laws.proofs.WalkLemmas.{is_odd_on-append, is_odd_on-turned_walk}
use Rattle.convex_laws.specs.Regions.{IsOuterWay}
use Rattle.convex_faces.specs.Passing.{PassesAxis, PassesOuter, corner, MarksRegion}
use Rattle.convex_faces.proofs.PassLemmas.{Passes-append}

-- the turned parts are passed as often
region_odd : (a o b : List Dart) (x y : ℕ) → is_odd_on (a ++ (turned o ++ turned b)) x y ≡ is_odd_on (a ++ (o ++ b)) x y
region_odd a o b x y =
    is_odd_on-append a (turned o ++ turned b) x y
    ∙ (ap (flipped (is_odd_on a x y)) (is_odd_on-append (turned o) (turned b) x y ∙ (ap₂ flipped (is_odd_on-turned_walk o x y) (is_odd_on-turned_walk b x y) ∙ sym (is_odd_on-append o b x y)))
    ∙ sym (is_odd_on-append a (o ++ b) x y))

outer_moved : (lists : Lists) (base base' : Dart) (a a' v v' w w' : ℕ) (ds : List Dart) → base ≡ base' → a ≡ a' → v ≡ v' → w ≡ w' → IsOuterWay lists base a v w ds → IsOuterWay lists base' a' v' w' ds
outer_moved lists base base' a a' v v' w w' ds eb ea ev ew h =
    subst (λ b. IsOuterWay lists b a' v' w' ds) eb (subst (λ a. IsOuterWay lists base a v' w' ds) ea (subst (λ v. IsOuterWay lists base a v w' ds) ev (subst (λ w. IsOuterWay lists base a v w ds) ew h)))

-- ---- the roots
module _ (map : Map) (known : IsHalfMap map) (start : Dart) (wood : Directions) (w : IsWoodIn map start wood) where
  abbrev lists : Lists
  lists = map.lists

  abbrev root : Axis → ℕ
  root = root_in wood

  roots : AreRoots lists start root
  roots = w.convex.roots

  -- the base goes from root two to root one
  pub start_is : (root Two, root One) ≡ start
  start_is = ap₂ (λ (x y : ℕ). (x, y)) roots.two roots.one

  pub has_base : HasDart lists (root Two) (root One)
  has_base =
      let next = HasDart-follows lists start.0 (root Three) (known.simple.both_ways (root Three) start.0 roots.before) in
      subst (λ x. HasDart lists x (root One)) (sym roots.two) (subst (HasDart lists start.0) (roots.step ∙ sym roots.one) next)

  module _ (base before : ℕ) (at_base : dart_at map base ≡ Some (root Two, root One)) (at_before : dart_at map before ≡ Some (root Three, root Two)) where
    base_is : dart_of map base ≡ (root Two, root One)
    base_is = dart_of-is map base (root Two, root One) at_base

    before_is : dart_of map before ≡ (root Three, root Two)
    before_is = dart_of-is map before (root Three, root Two) at_before

    corner_is : (c : Axis) → corner map base before c ≡ root c
    corner_is One = ap (λ (x : Dart). x.1) base_is
    corner_is Two = ap (λ (x : Dart). x.0) base_is
    corner_is Three = ap (λ (x : Dart). x.0) before_is

    -- the three parts are passed one after another
    pub marks_region : (c : Axis) (v : ℕ) (old one two new : List Bool) → ((i : ℕ) → mark_at old i ≡ false) → PassesAxis map root w.head (next c) v (root (next c)) old one → PassesOuter map base before c one two → PassesAxis map root w.head (previous c) v (root (previous c)) two new → MarksRegion map start root w.head c v new
    marks_region c v old one two new unset p o q = record {
      walk = p.way ++ (turned o.way ++ turned q.way);
      closed = record {
        ahead = p.way;
        outer = o.way;
        back = q.way;
        along_next = p.is_way;
        along_outer = outer_moved lists (dart_of map base) start (corner map base before c) (root c) (corner map base before (previous c)) (root (previous c)) (corner map base before (next c)) (root (next c)) o.way (base_is ∙ start_is) (corner_is c) (corner_is (previous c)) (corner_is (next c)) o.is_way;
        along_previous = q.is_way;
        is = refl;
      };
      marks = λ d x y e.
          let all = Passes-append map p.way (o.way ++ q.way) old one new p.passes (Passes-append map o.way q.way one two new o.passes q.passes) in
          all d x y e ∙ (ap (flipped (is_odd_on (p.way ++ (o.way ++ q.way)) x y)) (unset d) ∙ (flipped_false (is_odd_on (p.way ++ (o.way ++ q.way)) x y) ∙ sym (region_odd p.way o.way q.way x y)));
    }

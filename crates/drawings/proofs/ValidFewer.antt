-- A drawing that is valid for a map is valid for the map without some of its edges.
use Rattle.std.proofs.Common.{◌⊎◌, ℕ, ℤ, ◌<◌, ◌≤◌, Bool, not, List, length, AllPairs, Contains, refl, sym, ap, subst, ◌∙◌, arith, ◌==◌}
use Rattle.std.specs.List.{list_any}
use Rattle.std.proofs.lemmas.List.Filters.{length-filter_both}
use Rattle.map_lists.specs.Lists.{Lists}
use Rattle.map_theory.specs.Maps.{HasDart, IsSimpleMap, list_of, entry_after}
use Rattle.map_theory.specs.Paths.{from_entry}
use Rattle.map_theory.proofs.EntryLemmas.{Contains-from_filter}
use Rattle.plane_laws.specs.MapEditsCompleted.{IsExtended}
use Rattle.pg_plane.specs.declared.grid_points.Point.{Point}
use Rattle.pg_plane.specs.Geometry.{vector, IsClockBefore}
use Rattle.plane_drawings.specs.Drawing.{place, GoesOnceRound, IsPlaneDrawing, KeepsRotations}
use Rattle.drawings.specs.Valid.{IsValid}
use Rattle.pg_plane.proofs.ClockOrder.{clock_cases, clock_apart, clock_chained}
use Rattle.map_theory.proofs.RoundOrder.{sorted_from_once, once_from_sorted, sorted_kept}

module _ (lists more : Lists) (points : List Point) (simple : IsSimpleMap lists) (simple' : IsSimpleMap more) (h : IsExtended lists more) where
  -- a dart stays
  pub dart_more : (u v : ℕ) → HasDart lists u v → HasDart more u v
  dart_more u v has =
      let l = has.0 in (
        omega arith,
        (Contains-from_filter (λ x. list_any (λ w. w == x) (list_of lists u)) (list_of more u) v (subst (λ us. Contains us v) (sym (h.lists u)) has.1)).0,
      )

  plane_fewer : IsPlaneDrawing more points → IsPlaneDrawing lists points
  plane_fewer p =
      record {
        apart = λ u v lu lv. p.apart u v (omega arith) (omega arith);
        off_edges = λ u v w has lw. p.off_edges u v w (dart_more u v has) (omega arith);
        no_crossing = λ a b c d has has'. p.no_crossing a b c d (dart_more a b has) (dart_more c d has');
      }

  module _ (v : ℕ) where
    -- the direction to x comes before that to y
    abbrev R : ℕ → ℕ → Type 0
    R x y = IsClockBefore (vector (place points v) (place points x)) (vector (place points v) (place points y))

    abbrev keep : ℕ → Bool
    keep u = list_any (λ w. w == u) (list_of lists v)

    decided : (x y : ℕ) → R x y ⊎ ¬ R x y
    decided x y = clock_cases (vector (place points v) (place points x)) (vector (place points v) (place points y))

    apart : (x y : ℕ) → R x y → ¬ R y x
    apart x y = clock_apart (vector (place points v) (place points x)) (vector (place points v) (place points y))

    chained : (x y z : ℕ) → R x y → R y z → R x z
    chained x y z = clock_chained (vector (place points v) (place points x)) (vector (place points v) (place points y)) (vector (place points v) (place points z))

    -- the directions to some of the neighbours go once round where those to all do
    round_fewer : v < length lists → 2 ≤ length (list_of lists v) → GoesOnceRound more points v → GoesOnceRound lists points v
    round_fewer lv two g =
        let us = list_of more v in
        let lv' : v < length more = omega arith in
        let x = g.some.0 in
        let distinct = simple'.no_repeat v lv' in
        let sorted = sorted_from_once R decided apart chained us x distinct g.some.1.1 (λ y has b. g.one y x (lv', has) g.some.1 b g.some.2) in
        let kept = sorted_kept R decided apart chained keep us (entry_after x us) distinct (subst (λ l. 1 ≤ length l) (sym (h.lists v)) (omega arith)) sorted in
        let there = subst (λ l. (b : ℕ) × Contains l b × AllPairs R (from_entry b l)) (h.lists v) kept in
        let once = once_from_sorted R decided apart chained (list_of lists v) there.0 (simple.no_repeat v lv) two there.1 there.2 in
        record {
          some = (once.0, (lv, once.1), once.2);
          one = λ u w has has' bu bw. once.3 u has.1 bu ∙ sym (once.3 w has'.1 bw);
        }

  rotations_fewer : KeepsRotations more points → KeepsRotations lists points
  rotations_fewer k v lv two =
      let long = length-filter_both (λ u. list_any (λ w. w == u) (list_of lists v)) (λ u. not (list_any (λ w. w == u) (list_of lists v))) (λ u. refl) (list_of more v) in
      round_fewer v lv two (k v (omega arith) (let e = ap length (h.lists v) in omega arith))

-- the law
pub valid_with_fewer : (lists more : Lists) (points : List Point) (width height : ℤ) → IsSimpleMap lists → IsSimpleMap more → IsExtended lists more → IsValid more points width height → IsValid lists points width height
valid_with_fewer lists more points width height simple simple' h v =
    record {
      in_grid = λ x lx. v.in_grid x (omega arith);
      plane = plane_fewer lists more points simple simple' h v.plane;
      rotations = rotations_fewer lists more points simple simple' h v.rotations;
    }

-- A simple map without one of its edges: it is simple, with two darts less.
use Rattle.std.proofs.Common.{◌≡◌, ◌≢◌, ℕ, ◌+◌, List, [], length, set, AllPairs, sym, ap, ◌∙◌, subst, arith, get_or-set_other}
use Rattle.std.proofs.lemmas.List.Sums.{sum_by-set}
use Rattle.map_lists.specs.Lists.{Lists}
use Rattle.map_theory.specs.Maps.{list_of, HasDart, IsSimpleMap, follows, entry_after, dart_count, edge_count}
use Rattle.map_theory.specs.Edges.{without_entry, without_edge}
use Rattle.map_theory.proofs.WithoutEntry.{length-without}
use Rattle.map_theory.proofs.EntryMore.{AreEntryMore, AreEntryMore-without, has_up, has_down, distinct_down, follows_same as follows_as, follows_skip}
use Rattle.map_theory.proofs.DartCounts.{dart_count-edge_count}

module _ (lists : Lists) (simple : IsSimpleMap lists) (u v : ℕ) (edge : HasDart lists u v) where
  pub back : HasDart lists v u
  back = simple.both_ways u v edge

  pub u_not_v : u ≢ v
  u_not_v e = simple.no_loop u v edge (sym e)

  -- the lists without the entry of v
  abbrev half : Lists
  half = set lists u (without_entry (list_of lists u) v)

  half_list : list_of half v ≡ list_of lists v
  half_list = get_or-set_other lists u v (without_entry (list_of lists u) v) [] (λ e. u_not_v (sym e))

  first : AreEntryMore half lists u v
  first = AreEntryMore-without lists u v (simple.no_repeat u edge.0) edge

  back_half : HasDart half v u
  back_half = has_down half lists u v first v u back (λ e. absurd (u_not_v (sym e)))

  second : AreEntryMore (without_edge lists u v) half v u
  second =
      subst (λ (us : List ℕ). AreEntryMore (set half v (without_entry us u)) half v u) half_list
      (AreEntryMore-without half v u (subst (λ (us : List ℕ). AllPairs ◌≢◌ us) (sym half_list) (simple.no_repeat v back.0)) back_half)

  -- each list of the map that is left
  pub list_at_first : list_of (without_edge lists u v) u ≡ without_entry (list_of lists u) v
  list_at_first = second.there u u_not_v ∙ first.here.rest

  pub list_at_second : list_of (without_edge lists u v) v ≡ without_entry (list_of lists v) u
  list_at_second = second.here.rest ∙ ap (λ us. without_entry us u) half_list

  pub list_elsewhere : (w : ℕ) → w ≢ u → w ≢ v → list_of (without_edge lists u v) w ≡ list_of lists w
  list_elsewhere w nu nv = second.there w nv ∙ first.there w nu

  pub length-without_edge : length (without_edge lists u v) ≡ length lists
  length-without_edge = second.count ∙ first.count

  -- a dart that is left was one, and is none of the edge's
  pub dart_old : (w z : ℕ) → HasDart (without_edge lists u v) w z → HasDart lists w z × (w ≡ u → z ≢ v) × (w ≡ v → z ≢ u)
  dart_old w z h =
      let one = has_up (without_edge lists u v) half v u second w z h in
      let other = has_up half lists u v first w z one.0 in
      (other.0, other.1, one.1)

  -- and every other dart is left
  pub dart_new : (w z : ℕ) → HasDart lists w z → (w ≡ u → z ≢ v) → (w ≡ v → z ≢ u) → HasDart (without_edge lists u v) w z
  dart_new w z h not_first not_second =
      has_down (without_edge lists u v) half v u second w z (has_down half lists u v first w z h not_first) not_second

  pub IsSimpleMap-without_edge : IsSimpleMap (without_edge lists u v)
  IsSimpleMap-without_edge =
      let n = length-without_edge in
      record {
        some_vertex = omega (arith, simple.some_vertex, n);
        in_range = λ w z h. omega (arith, simple.in_range w z (dart_old w z h).0, n);
        no_loop = λ w z h. simple.no_loop w z (dart_old w z h).0;
        no_repeat = λ w l. distinct_down (without_edge lists u v) half v u second w (distinct_down half lists u v first w (simple.no_repeat w (omega (arith, l, n))));
        both_ways = λ w z h.
            let o = dart_old w z h in
            dart_new z w (simple.both_ways w z o.0) (λ e e'. o.2 e' e) (λ e e'. o.1 e' e);
      }

  -- what follows in the map that is left
  half_follows : (z : ℕ) → follows half v z ≡ follows lists v z
  half_follows z = ap (λ us. entry_after z us) half_list

  pub follows_skip_first : (z : ℕ) → HasDart (without_edge lists u v) u z → follows lists u z ≡ v → follows (without_edge lists u v) u z ≡ follows lists u v
  follows_skip_first z h e =
      ap (λ us. entry_after z us) (second.there u u_not_v)
      ∙ follows_skip half lists u v first z (has_up (without_edge lists u v) half v u second u z h).0 e

  pub follows_skip_second : (z : ℕ) → HasDart (without_edge lists u v) v z → follows lists v z ≡ u → follows (without_edge lists u v) v z ≡ follows lists v u
  follows_skip_second z h e = follows_skip (without_edge lists u v) half v u second z h (half_follows z ∙ e) ∙ half_follows u

  pub follows_same : (w z : ℕ) → HasDart (without_edge lists u v) w z → (w ≡ u → follows lists w z ≢ v) → (w ≡ v → follows lists w z ≢ u) → follows (without_edge lists u v) w z ≡ follows lists w z
  follows_same w z h not_first not_second =
      let one = follows_as half lists u v first w z (has_up (without_edge lists u v) half v u second w z h).0 (λ e q. not_first e (ap (λ y. follows lists y z) e ∙ q)) in
      follows_as (without_edge lists u v) half v u second w z h (λ e q. not_second e (sym one ∙ ap (λ y. follows half y z) e ∙ q)) ∙ one

  -- two darts less, one edge less
  pub dart_count-without : dart_count lists ≡ dart_count (without_edge lists u v) + 2
  dart_count-without = grind (arith, sum_by-set, length, without_entry, list_of, half, back_half, half_list, length-without, back)

  pub edge_count-without : edge_count lists ≡ edge_count (without_edge lists u v) + 1
  edge_count-without =
      omega (arith, dart_count-without, dart_count-edge_count lists simple, dart_count-edge_count (without_edge lists u v) IsSimpleMap-without_edge)

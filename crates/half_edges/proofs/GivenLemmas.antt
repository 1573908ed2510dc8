-- An arena once both darts of a free edge stand in their corners.
use Rattle.std.proofs.Common.{ℕ, suc, ◌+◌, ◌-◌, ◌*◌, ◌<◌, ◌≤◌, ◌≡◌, ◌≢◌, true, false, List, [], length, set, Contains, Option, Some, None, refl, sym, ap, ◌∙◌, subst, inl, inr, arith}
use Rattle.std.proofs.lemmas.List.{get_or-set_other, length-set}
use Rattle.std.proofs.lemmas.List.Edits.{length-insert}
use Rattle.std.proofs.lemmas.List.Sums.{sum_by-set}
use Rattle.std.proofs.lemmas.Bool.{cases_eq}
use Rattle.std.proofs.lemmas.Option.{none-some}
use Rattle.map_lists.specs.Lists.{Lists}
use Rattle.map_theory.specs.Maps.{Dart, list_of, HasDart, follows, place_of, edge_count}
use Rattle.map_theory.proofs.DartCounts.{dart_count-edge_count}
use Rattle.map_theory.proofs.DartLemmas.{place_of-lt-length}
use Rattle.half_edges.specs.Arena.{vertex_at, twin_of, next_of, prev_of, tail_of, live_of, head_of, dart_in, arena_lists, IsLinked, IsPaired, AreFree, IsArena, IsWired}
use Rattle.half_edges.specs.Links.{IsSpliced}
use Rattle.half_edges.specs.Edges.{IsPut, IsPutWithin, with_entry, with_edge, corner_tail, corner_entry, IsCornerIn, AreCornersIn}
use Rattle.half_edges.specs.declared.edge_edits.Corner.{Corner}
use Rattle.half_edges.specs.declared.edge_edits.Corner.TheVariants.{After, Only}
use Rattle.half_edges.specs.declared.dart_records.DartRecord.{DartRecord}
use Rattle.half_edges.specs.declared.dart_records.VertexRecord.{VertexRecord}
use Rattle.half_edges.proofs.ArenaLemmas.{dart_in-live, dart_in-dead, dart-lt}
use Rattle.half_edges.proofs.FreeLemmas.{IsSameFree, AreFree-frame}
use Rattle.half_edges.proofs.LinkLemmas.{IsDartMore, set_dart, set_dart-here, set_dart-other}
use Rattle.half_edges.proofs.PairLemmas.{IsEdgeSet, paired_after, dart_kept, IsSimpleMap-linked}
use Rattle.half_edges.proofs.StepLemmas.{CornerAt, more_by}
use Rattle.half_edges.proofs.TableArena.{few_entries}
use Rattle.half_edges.proofs.EdgeLemmas.{IsArena-from_wired}

-- a dart in a corner is spliced between two others, which are itself where it is alone
pub record IsBetween (dart : ℕ → Option Dart) (old new : List DartRecord) (d w : ℕ) : Type 0 where
  pub before : ℕ
  pub after : ℕ
  pub spliced : IsSpliced old new d before after w
  -- a record that has no dart is none of them
  pub apart : (z : ℕ) → z ≢ d → dart z ≡ None → (z ≢ before) × (z ≢ after)

between : (dart : ℕ → Option Dart) (lists : Lists) (old new : List DartRecord) (vertices grown : List VertexRecord) → IsLinked dart lists old vertices → (d w : ℕ) (c : Corner) (a : Option ℕ) → CornerAt dart lists old c w a → IsPut old new vertices grown d c → IsBetween dart old new d w
between dart lists old new vertices grown h d w (After e) a at put = record {
  before = e.0;
  after = next_of old e.0;
  spliced = subst (λ y. IsSpliced old new d e.0 (next_of old e.0) y) at.3 put.0;
  apart = λ z other none. (
    λ same. none-some (w, at.0) (sym none ∙ ap dart same ∙ at.2),
    λ same. none-some (w, follows lists w at.0) (sym none ∙ ap dart same ∙ h.next_at e.0 w at.0 at.2),
  );
}
between dart lists old new vertices grown h d w (Only v) a at put = record {
  before = d;
  after = d;
  spliced = subst (λ y. IsSpliced old new d d d y) at.1 put.0;
  apart = λ z other none. (other, other);
}

-- the writes of a corner stay within the records
within : (dart : ℕ → Option Dart) (lists : Lists) (old : List DartRecord) (vertices : List VertexRecord) → IsLinked dart lists old vertices → (d w : ℕ) → dart d ≡ None → w < length lists → ((z v u : ℕ) → dart z ≡ Some (v, u) → z < length old) → length (list_of lists w) < 4096 → (c : Corner) (a : Option ℕ) → CornerAt dart lists old c w a → IsPutWithin old vertices d c
within dart lists old vertices h d w none w_in bound few (After e) a at =
    let next = h.next_at e.0 w at.0 at.2 in
    let not_d : (z v u : ℕ) → dart z ≡ Some (v, u) → z ≢ d = λ z v u some same. none-some (v, u) (sym none ∙ ap dart (sym same) ∙ some) in (
      bound e.0 w at.0 at.2,
      not_d e.0 w at.0 at.2,
      bound (next_of old e.0) w _ next,
      not_d (next_of old e.0) w _ next,
      omega (arith, at.3, w_in, h.vertex_count),
      subst (λ y. (vertex_at vertices y).degree < 4096) (sym at.3) (omega (arith, h.degree_at w w_in, few)),
    )
within dart lists old vertices h d w none w_in bound few (Only v) a at = omega (arith, at.1, w_in, h.vertex_count)

-- a corner at another vertex than that of a new dart is as it was
CornerAt-later : (dart : ℕ → Option Dart) (lists : Lists) (old new : List DartRecord) (us : List ℕ) (d u v : ℕ) (o : Option Dart) (c : Corner) (a : Option ℕ) → dart d ≡ None → ((z : ℕ) → z ≢ d → tail_of new z ≡ tail_of old z) → u ≢ v → CornerAt dart lists old c v a → CornerAt (set_dart dart d o) (set lists u us) new c v a
CornerAt-later dart lists old new us d u v o (After e) a none tails apart at =
    let other = λ (same : e.0 ≡ d). none-some (v, at.0) (sym none ∙ ap dart (sym same) ∙ at.2) in
    (at.0, at.1, set_dart-other dart d o e.0 other ∙ at.2, tails e.0 other ∙ at.3)
CornerAt-later dart lists old new us d u v o (Only w) a none tails apart at = (at.0, at.1, get_or-set_other lists u v us [] (λ e. apart (sym e)) ∙ at.2)

-- a corner's list has one entry more
length-with_entry : (dart : ℕ → Option Dart) (lists : Lists) (old : List DartRecord) (vertices : List VertexRecord) → IsLinked dart lists old vertices → (w x : ℕ) (c : Corner) (a : Option ℕ) → CornerAt dart lists old c w a → length (with_entry (list_of lists w) a x) ≡ length (list_of lists w) + 1
length-with_entry dart lists old vertices h w x (After e) a at =
    ap (λ o. length (with_entry (list_of lists w) o x)) at.1
    ∙ length-insert (list_of lists w) (place_of at.0 (list_of lists w) + 1) x (omega (arith, place_of-lt-length at.0 (list_of lists w) (h.is_dart e.0 w at.0 at.2).1))
length-with_entry dart lists old vertices h w x (Only v) a at = ap (λ o. length (with_entry (list_of lists w) o x)) at.0 ∙ omega arith

-- a corner of the records stands at its vertex
corner_at : (lists : Lists) (old : List DartRecord) (c : Corner) → IsCornerIn lists old c → CornerAt (dart_in old) lists old c (corner_tail old c) (corner_entry old c)
corner_at lists old (After e) live = (head_of old e.0, refl, dart_in-live old e.0 live, refl)
corner_at lists old (Only v) corner = (refl, refl, corner.1)

corner_in : (lists : Lists) (old : List DartRecord) (vertices : List VertexRecord) → IsLinked (dart_in old) lists old vertices → (c : Corner) → IsCornerIn lists old c → corner_tail old c < length lists
corner_in lists old vertices h (After e) live = (h.is_dart e.0 _ _ (dart_in-live old e.0 live)).0
corner_in lists old vertices h (Only v) corner = corner.0

module _ (lists : Lists) (old : List DartRecord) (vertices : List VertexRecord) (d spare : ℕ) (a : IsWired lists old vertices d spare) (some : 0 < spare) (at_u at_v : Corner) (corners : AreCornersIn lists old at_u at_v) where
  abbrev u : ℕ
  u = corner_tail old at_u

  abbrev v : ℕ
  v = corner_tail old at_v

  abbrev t : ℕ
  t = twin_of old d

  abbrev u_list : List ℕ
  u_list = with_entry (list_of lists u) (corner_entry old at_u) v

  abbrev lists_one : Lists
  lists_one = set lists u u_list

  abbrev dart_one : ℕ → Option Dart
  dart_one = set_dart (dart_in old) d (Some (u, v))

  free_here : AreFree old d (suc (spare - 1))
  free_here = let e : spare ≡ suc (spare - 1) = omega arith in subst (λ k. AreFree old d k) e a.threaded

  pub d_within : d < length old
  d_within = free_here.0

  pair_d : IsPaired old d
  pair_d = a.paired d free_here.0

  d_none : dart_in old d ≡ None
  d_none = dart_in-dead old d free_here.1

  t_dead : dart_in old t ≡ None
  t_dead = dart_in-dead old t (pair_d.both ∙ free_here.1)

  corner_u : CornerAt (dart_in old) lists old at_u u (corner_entry old at_u)
  corner_u = corner_at lists old at_u corners.first

  corner_v : CornerAt (dart_in old) lists old at_v v (corner_entry old at_v)
  corner_v = corner_at lists old at_v corners.second

  u_in : u < length lists
  u_in = corner_in lists old vertices a.linked at_u corners.first

  v_in : v < length lists
  v_in = corner_in lists old vertices a.linked at_v corners.second

  few : (w : ℕ) → w < length lists → length (list_of lists w) < 4096
  few w l = few_entries lists w a.simple a.few_vertices l

  pub first_put : IsPutWithin old vertices d at_u
  first_put = within (dart_in old) lists old vertices a.linked d u d_none u_in (dart-lt old) (few u u_in) at_u (corner_entry old at_u) corner_u

  more_one : IsDartMore (dart_in old) dart_one d u v
  more_one = record { none = d_none; here = set_dart-here (dart_in old) d (Some (u, v)); other = set_dart-other (dart_in old) d (Some (u, v)) }

  t_none : dart_one t ≡ None
  t_none = set_dart-other (dart_in old) d (Some (u, v)) t pair_d.other ∙ t_dead

  list_v : list_of lists_one v ≡ list_of lists v
  list_v = get_or-set_other lists u v u_list [] (λ e. corners.two_vertices (sym e))

  v_in_one : v < length lists_one
  v_in_one = omega (arith, v_in, length-set lists u u_list)

  module _ (one : List DartRecord) (v_one : List VertexRecord) (put_one : IsPut old one vertices v_one d at_u) where
    first : IsBetween (dart_in old) old one d u
    first = between (dart_in old) lists old one vertices v_one a.linked d u at_u (corner_entry old at_u) corner_u put_one

    linked_one : IsLinked dart_one lists_one one v_one
    linked_one = more_by (dart_in old) dart_one lists old one vertices v_one a.linked d u v more_one corners.not_adjacent u_in at_u (corner_entry old at_u) corner_u put_one

    corner_v_one : CornerAt dart_one lists_one one at_v v (corner_entry old at_v)
    corner_v_one = CornerAt-later (dart_in old) lists old one u_list d u v (Some (u, v)) at_v (corner_entry old at_v) d_none first.spliced.tail_other corners.two_vertices corner_v

    bound_one : (z w x : ℕ) → dart_one z ≡ Some (w, x) → z < length one
    bound_one z w x e =
        elim (cases_eq z d) [
          | inl same ↦ omega (arith, first.spliced.count, d_within)
          | inr other ↦ omega (arith, first.spliced.count, dart-lt old z w x (sym (set_dart-other (dart_in old) d (Some (u, v)) z other) ∙ e))
        ]

    pub twin_within : twin_of old d < length one
    twin_within = omega (arith, first.spliced.count, pair_d.within)

    pub second_put : IsPutWithin one v_one (twin_of old d) at_v
    second_put =
        within dart_one lists_one one v_one linked_one t v t_none v_in_one bound_one (omega (arith, ap length list_v, few v v_in)) at_v (corner_entry old at_v) corner_v_one

    module _ (two : List DartRecord) (v_two : List VertexRecord) (put_two : IsPut one two v_one v_two (twin_of old d) at_v) where
      second : IsBetween dart_one one two t v
      second = between dart_one lists_one one two v_one v_two linked_one t v at_v (corner_entry old at_v) corner_v_one put_two

      d_not_t : d ≢ t
      d_not_t e = pair_d.other (sym e)

      edge_set : IsEdgeSet old two d true
      edge_set = record {
        count = second.spliced.count ∙ first.spliced.count;
        twins = λ z. second.spliced.twins z ∙ first.spliced.twins z;
        live_here = second.spliced.live_other d d_not_t ∙ first.spliced.live_here;
        live_twin = second.spliced.live_here;
        live_other = λ z not_d not_t. second.spliced.live_other z not_t ∙ first.spliced.live_other z not_d;
        tail_other = λ z not_d not_t. second.spliced.tail_other z not_t ∙ first.spliced.tail_other z not_d;
      }

      tail_d : tail_of two d ≡ u
      tail_d = second.spliced.tail_other d d_not_t ∙ first.spliced.tail_here

      pub dart_given : dart_in two d ≡ Some (corner_tail old at_u, corner_tail old at_v)
      dart_given =
          dart_in-live two d edge_set.live_here ∙ ap (λ y. Some (y, head_of two d)) tail_d
          ∙ ap (λ y. Some (u, y)) (ap (λ z. tail_of two z) (edge_set.twins d) ∙ second.spliced.tail_here)

      dart_t : dart_in two t ≡ Some (v, u)
      dart_t =
          dart_in-live two t edge_set.live_twin ∙ ap (λ y. Some (y, head_of two t)) second.spliced.tail_here
          ∙ ap (λ y. Some (v, y)) (ap (λ z. tail_of two z) (edge_set.twins t ∙ pair_d.back) ∙ tail_d)

      kept : (z : ℕ) → z ≢ d → z ≢ t → dart_in two z ≡ dart_in old z
      kept = dart_kept old two d true edge_set d_within a.paired

      more_two : IsDartMore dart_one (dart_in two) t v u
      more_two = record {
        none = t_none;
        here = dart_t;
        other = λ z not_t.
            elim (cases_eq z d) [
              | inl at_d ↦ ap (dart_in two) at_d ∙ dart_given ∙ sym (ap dart_one at_d ∙ set_dart-here (dart_in old) d (Some (u, v)))
              | inr not_d ↦ kept z not_d not_t ∙ sym (set_dart-other (dart_in old) d (Some (u, v)) z not_d)
            ];
      }

      fresh_one : ¬ HasDart lists_one v u
      fresh_one has = corners.not_adjacent (a.simple.both_ways v u (v_in, subst (λ (us : List ℕ). Contains us u) list_v has.1))

      linked_two : IsLinked (dart_in two) (with_edge lists u (corner_entry old at_u) v (corner_entry old at_v)) two v_two
      linked_two =
          subst (λ (us : List ℕ). IsLinked (dart_in two) (set lists_one v (with_entry us (corner_entry old at_v) u)) two v_two) list_v
          (more_by dart_one (dart_in two) lists_one one two v_one v_two linked_one t v u more_two fresh_one v_in_one at_v (corner_entry old at_v) corner_v_one put_two)

      same_free : (z : ℕ) → z < length old → live_of old z ≡ false → prev_of old z < spare - 1 → IsSameFree old two z
      same_free z l dead less =
          let not_d : z ≢ d = λ e. omega (arith, less, free_here.2, ap (λ y. prev_of old y) e) in
          let not_t : z ≢ t = λ e. omega (arith, less, free_here.3, ap (λ y. prev_of old y) e) in
          let none = dart_in-dead old z dead in
          let one_apart = first.apart z not_d none in
          let two_apart = second.apart z not_t (set_dart-other (dart_in old) d (Some (u, v)) z not_d ∙ none) in
          record {
            live = edge_set.live_other z not_d not_t;
            next = second.spliced.next_other z not_t two_apart.0 ∙ first.spliced.next_other z not_d one_apart.0;
            prev = second.spliced.prev_other z not_t two_apart.1 ∙ first.spliced.prev_other z not_d one_apart.1;
            twin = edge_set.twins z;
          }

      length_given : length (with_edge lists u (corner_entry old at_u) v (corner_entry old at_v)) ≡ length lists
      length_given = length-set lists_one v (with_entry (list_of lists v) (corner_entry old at_v) u) ∙ length-set lists u u_list

      pub wired_given : IsWired (with_edge lists (corner_tail old at_u) (corner_entry old at_u) (corner_tail old at_v) (corner_entry old at_v)) two v_two (next_of old d) (spare - 1)
      wired_given =
          let paired = paired_after old two d true edge_set d_within a.paired in
          record {
            linked = linked_two;
            simple = IsSimpleMap-linked _ two v_two (omega (arith, length_given, a.simple.some_vertex)) linked_two paired;
            few_vertices = omega (arith, length_given, a.few_vertices);
            paired = paired;
            threaded = AreFree-frame old two (spare - 1) (omega (arith, edge_set.count)) same_free a.paired (spare - 1) (next_of old d) (omega arith) free_here.4;
          }

      pub ids_given : (z w x : ℕ) → dart_in old z ≡ Some (w, x) → dart_in two z ≡ Some (w, x)
      ids_given z w x e =
          kept z (λ same. none-some (w, x) (sym d_none ∙ ap (dart_in old) (sym same) ∙ e))
          (λ same. none-some (w, x) (sym t_dead ∙ ap (dart_in old) (sym same) ∙ e)) ∙ e

  -- the arena with an edge more
  pub arena_more : (edges next : ℕ) → edges ≡ edge_count lists → length old ≡ 2 * (edges + spare) → edges + spare ≤ 16777216 → (new : List DartRecord) (grown : List VertexRecord) → IsWired (with_edge lists (corner_tail old at_u) (corner_entry old at_u) (corner_tail old at_v) (corner_entry old at_v)) new grown next (spare - 1) → length new ≡ length old → IsArena (arena_lists new grown) new grown (edges + 1) next (spare - 1)
  arena_more edges next edges_are count room new grown w same =
      let more : edge_count (with_edge lists u (corner_entry old at_u) v (corner_entry old at_v)) ≡ edge_count lists + 1 = omega (
        arith,
        sum_by-set length lists u u_list [] u_in,
        sum_by-set length lists_one v (with_entry (list_of lists v) (corner_entry old at_v) u) [] v_in_one,
        ap length list_v,
        length-with_entry (dart_in old) lists old vertices a.linked u v at_u (corner_entry old at_u) corner_u,
        length-with_entry (dart_in old) lists old vertices a.linked v u at_v (corner_entry old at_v) corner_v,
        dart_count-edge_count lists a.simple,
        dart_count-edge_count (with_edge lists u (corner_entry old at_u) v (corner_entry old at_v)) w.simple,
      ) in
      IsArena-from_wired _ new grown (edges + 1) next (spare - 1) w (omega (arith, more, edges_are)) (omega (arith, same, count, some)) (omega (arith, room, some))

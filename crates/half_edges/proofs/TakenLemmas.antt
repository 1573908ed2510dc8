-- An arena once both darts of an edge are taken out and threaded before the free ones.
use Rattle.std.proofs.Common.{ℕ, suc, ◌+◌, ◌<◌, ◌≡◌, ◌≢◌, true, false, List, [], length, set, Option, Some, None, refl, sym, ap, ◌∙◌, subst, inl, inr, arith}
use Rattle.std.proofs.lemmas.List.{get_or-set_other}
use Rattle.std.proofs.lemmas.Bool.{cases_eq, true≢false}
use Rattle.std.proofs.lemmas.Option.{none-some}
use Rattle.map_lists.specs.Lists.{Lists}
use Rattle.map_theory.specs.Maps.{Dart, list_of, HasDart}
use Rattle.map_theory.specs.Edges.{without_entry, without_edge}
use Rattle.map_theory.proofs.WithoutEdge.{IsSimpleMap-without_edge, length-without_edge, dart_old}
use Rattle.half_edges.specs.Arena.{vertex_at, twin_of, prev_of, tail_of, live_of, head_of, dart_in, IsLinked, IsPaired, AreFree, IsWired}
use Rattle.half_edges.specs.Links.{IsThreaded}
use Rattle.half_edges.specs.Edges.{IsTakenOut}
use Rattle.half_edges.specs.declared.dart_records.DartRecord.{DartRecord}
use Rattle.half_edges.specs.declared.dart_records.VertexRecord.{VertexRecord}
use Rattle.half_edges.proofs.ArenaLemmas.{dart_in-live, dart_in-dead, IsDartAt-from, dart-lt, live-lt, prev_is}
use Rattle.half_edges.proofs.FreeLemmas.{IsSameFree, AreFree-frame, IsLinked-frame, IsDartWithin, dart_within}
use Rattle.half_edges.proofs.LinkLemmas.{tails_same, IsDartMore, set_dart, set_dart-here, set_dart-other}
use Rattle.half_edges.proofs.PairLemmas.{IsEdgeSet, paired_after, dart_kept}
use Rattle.half_edges.proofs.StepLemmas.{less_by}

module _ (lists : Lists) (old : List DartRecord) (vertices : List VertexRecord) (free spare : ℕ) (a : IsWired lists old vertices free spare) (d : ℕ) (live : live_of old d ≡ true) where
  abbrev u : ℕ
  u = tail_of old d

  abbrev v : ℕ
  v = head_of old d

  abbrev t : ℕ
  t = twin_of old d

  abbrev lists_one : Lists
  lists_one = set lists u (without_entry (list_of lists u) v)

  abbrev dart_one : ℕ → Option Dart
  dart_one = set_dart (dart_in old) d None

  pub d_in : d < length old
  d_in = live-lt old d live

  pub pair : IsPaired old d
  pair = a.paired d d_in

  d_not_t : d ≢ t
  d_not_t e = pair.other (sym e)

  d_dart : dart_in old d ≡ Some (u, v)
  d_dart = dart_in-live old d live

  t_dart : dart_in old t ≡ Some (v, u)
  t_dart = dart_in-live old t (pair.both ∙ live) ∙ ap (λ z. Some (v, tail_of old z)) pair.back

  edge : HasDart lists u v
  edge = a.linked.is_dart d u v d_dart

  pub ends_apart : tail_of old d ≢ head_of old d
  ends_apart e = a.simple.no_loop u v edge (sym e)

  pub first_within : IsDartWithin lists old vertices d (tail_of old d)
  first_within = dart_within (dart_in old) lists old vertices a.linked (dart-lt old) d u v d_dart

  pub first_degree : 0 < (vertex_at vertices (tail_of old d)).degree
  first_degree = omega (arith, a.linked.degree_at u edge.0, first_within.some)

  less_one : IsDartMore dart_one (dart_in old) d u v
  less_one = record { none = set_dart-here (dart_in old) d None; here = d_dart; other = λ z other. sym (set_dart-other (dart_in old) d None z other) }

  t_dart_one : dart_one t ≡ Some (v, u)
  t_dart_one = set_dart-other (dart_in old) d None t pair.other ∙ t_dart

  was : (z w x : ℕ) → dart_one z ≡ Some (w, x) → dart_in old z ≡ Some (w, x)
  was z w x some = sym (set_dart-other (dart_in old) d None z (λ e. none-some (w, x) (sym (set_dart-here (dart_in old) d None) ∙ ap dart_one (sym e) ∙ some))) ∙ some

  module _ (one : List DartRecord) (v_one : List VertexRecord) (out : IsTakenOut old one vertices v_one d) where
    linked_one : IsLinked dart_one lists_one one v_one
    linked_one = less_by (dart_in old) dart_one lists old one vertices v_one a.linked d u v less_one refl out

    pub second_within : IsDartWithin (set lists (tail_of old d) (without_entry (list_of lists (tail_of old d)) (head_of old d))) one v_one (twin_of old d) (head_of old d)
    second_within = dart_within dart_one lists_one one v_one linked_one (λ z w x some. omega (arith, out.unspliced.count, dart-lt old z w x (was z w x some))) t v u t_dart_one

    pub second_degree : 0 < (vertex_at v_one (tail_of one (twin_of old d))).degree
    second_degree =
        subst (λ y. 0 < (vertex_at v_one y).degree) (sym (out.unspliced.tails t)) (omega (arith, linked_one.degree_at v (linked_one.is_dart t v u t_dart_one).0, second_within.some))

    pub second_vertex : tail_of one (twin_of old d) < length v_one
    second_vertex = omega (arith, out.unspliced.tails t, second_within.vertex)

    module _ (two : List DartRecord) (v_two : List VertexRecord) (out_two : IsTakenOut one two v_one v_two (twin_of old d)) where
      pub twin_in_two : twin_of old d < length two
      twin_in_two = omega (arith, out.unspliced.count, out_two.unspliced.count, pair.within)

      pub d_in_two : d < length two
      d_in_two = omega (arith, out.unspliced.count, out_two.unspliced.count, d_in)

      module _ (new : List DartRecord) (th : IsThreaded two new d (twin_of old d) free spare) where
        edge_set : IsEdgeSet old new d false
        edge_set = record {
          count = th.count ∙ out_two.unspliced.count ∙ out.unspliced.count;
          twins = λ z. th.twins z ∙ out_two.unspliced.twins z ∙ out.unspliced.twins z;
          live_here = th.lives d ∙ out_two.unspliced.live_other d d_not_t ∙ out.unspliced.dead;
          live_twin = th.lives t ∙ out_two.unspliced.dead;
          live_other = λ z not_d not_t. th.lives z ∙ out_two.unspliced.live_other z not_t ∙ out.unspliced.live_other z not_d;
          tail_other = λ z _ _. th.tails z ∙ out_two.unspliced.tails z ∙ out.unspliced.tails z;
        }

        kept : (z : ℕ) → z ≢ d → z ≢ t → dart_in new z ≡ dart_in old z
        kept = dart_kept old new d false edge_set d_in a.paired

        d_none : dart_in new d ≡ None
        d_none = dart_in-dead new d edge_set.live_here

        t_none : dart_in new t ≡ None
        t_none = dart_in-dead new t edge_set.live_twin

        less_two : IsDartMore (dart_in new) dart_one t v u
        less_two = record {
          none = t_none;
          here = t_dart_one;
          other = λ z not_t.
              elim (cases_eq z d) [
                | inl at_d ↦ ap dart_one at_d ∙ set_dart-here (dart_in old) d None ∙ sym (ap (dart_in new) at_d ∙ d_none)
                | inr not_d ↦ set_dart-other (dart_in old) d None z not_d ∙ sym (kept z not_d not_t)
              ];
        }

        linked_two : IsLinked (dart_in new) (without_edge lists u v) two v_two
        linked_two =
            subst (λ (us : List ℕ). IsLinked (dart_in new) (set lists_one v (without_entry us u)) two v_two) (get_or-set_other lists u v (without_entry (list_of lists u) v) [] (λ e. ends_apart (sym e)))
            (less_by dart_one (dart_in new) lists_one one two v_one v_two linked_one t v u less_two (out.unspliced.tails t) out_two)

        linked_new : IsLinked (dart_in new) (without_edge lists u v) new v_two
        linked_new =
            IsLinked-frame (dart_in new) _ two new v_two
            (λ z w x some. th.other z (λ e. none-some (w, x) (sym d_none ∙ ap (dart_in new) (sym e) ∙ some)) (λ e. none-some (w, x) (sym t_none ∙ ap (dart_in new) (sym e) ∙ some)))
            linked_two

        -- a record that is not live is none of those that were written
        not_live : (y z w x : ℕ) → live_of old z ≡ false → dart_in old y ≡ Some (w, x) → z ≢ y
        not_live y z w x dead some e = true≢false (sym (IsDartAt-from old y w x some).live ∙ ap (live_of old) (sym e) ∙ dead)

        same_free : (z : ℕ) → z < length old → live_of old z ≡ false → IsSameFree old new z
        same_free z l dead =
            let before = prev_is (dart_in old) lists old vertices a.linked d u v d_dart in
            let before_t = prev_is dart_one lists_one one v_one linked_one t v u t_dart_one in
            let not_d = not_live d z u v dead d_dart in
            let not_t = not_live t z v u dead t_dart in
            let same = th.other z not_d not_t in
            record {
              live = edge_set.live_other z not_d not_t;
              next = ap (λ (r : DartRecord). r.next) same ∙ out_two.unspliced.next_other z (not_live _ z _ _ dead (was _ _ _ before_t.1.before)) ∙ out.unspliced.next_other z (not_live _ z _ _ dead before.1.before);
              prev = ap (λ (r : DartRecord). r.prev) same ∙ out_two.unspliced.prev_other z (not_live _ z _ _ dead (was _ _ _ (linked_one.next_at t v u t_dart_one))) ∙ out.unspliced.prev_other z (not_live _ z _ _ dead (a.linked.next_at d u v d_dart));
              twin = edge_set.twins z;
            }

        threaded_new : AreFree new d (suc spare)
        threaded_new = (
          omega (arith, edge_set.count, d_in),
          edge_set.live_here,
          th.prev_here,
          ap (λ y. prev_of new y) (edge_set.twins d) ∙ th.prev_twin,
          subst (λ z. AreFree new z spare) (sym th.next_here)
              (AreFree-frame old new spare (omega (arith, edge_set.count)) (λ z l dead less. same_free z l dead) a.paired spare free (omega arith) a.threaded),
        )

        pub wired_new : IsWired (without_edge lists (tail_of old d) (head_of old d)) new v_two d (spare + 1)
        wired_new = record {
          linked = linked_new;
          simple = IsSimpleMap-without_edge lists a.simple u v edge;
          few_vertices = omega (arith, length-without_edge lists a.simple u v edge, a.few_vertices);
          paired = paired_after old new d false edge_set d_in a.paired;
          threaded = let e : spare + 1 ≡ suc spare = omega arith in subst (λ k. AreFree new d k) (sym e) threaded_new;
        }

        -- ids of darts that are left stay
        pub ids_new : (z w x : ℕ) → HasDart (without_edge lists (tail_of old d) (head_of old d)) w x → dart_in old z ≡ Some (w, x) → dart_in new z ≡ Some (w, x)
        ids_new z w x left some =
            let apart = dart_old lists a.simple u v edge w x left in
            kept z
            (λ at_d. let parts = tails_same w u x v (dart_in old d) (ap (dart_in old) (sym at_d) ∙ some) d_dart in apart.1 parts.0 parts.1)
            (λ at_t. let parts = tails_same w v x u (dart_in old t) (ap (dart_in old) (sym at_t) ∙ some) t_dart in apart.2 parts.0 parts.1)
            ∙ some

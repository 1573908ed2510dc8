-- The records that are made of the tables of a map are an arena of it.
use Rattle.std.proofs.Common.{ℕ, ◌+◌, ◌-◌, ◌<◌, ◌≤◌, ◌≡◌, true, cond, eqb, ltb, List, length, get_or, slice_get, Some, None, option_map, refl, sym, ap, ◌∙◌, subst, inl, inr, arith}
use Rattle.std.proofs.lemmas.List.{get_or_past}
use Rattle.std.proofs.lemmas.Option.{slice_get-get_or, slice_get_within, slice_get_past, get_or_from_slice_get}
use Rattle.std.proofs.lemmas.Bool.{cases_lt}
use Rattle.std.proofs.lemmas.Bool.Decides.{nat_tests}
use Rattle.map_lists.specs.Lists.{Lists}
use Rattle.map_theory.specs.Maps.{Dart, list_of, IsSimpleMap, dart_count, edge_count, follows, twin_dart}
use Rattle.map_theory.proofs.DartLemmas.{length-darts}
use Rattle.map_theory.proofs.DartCounts.{dart_count-edge_count, length-le-below, few_darts-simple}
use Rattle.half_edges.specs.Map.{next_dart}
use Rattle.simple_maps.specs.Tables.{AreTables}
use Rattle.half_edges.specs.Tables.{map_of, table_record, AreTableRecords, AreTableVertices}
use Rattle.half_edges.specs.Arena.{no_record, record_at, vertex_at, twin_of, next_of, prev_of, tail_of, live_of, head_of, dart_of_record, dart_in, arena_lists, IsLinked, IsPaired, IsArena}
use Rattle.half_edges.specs.declared.dart_records.DartRecord.{DartRecord}
use Rattle.half_edges.specs.declared.dart_records.VertexRecord.{VertexRecord}
use Rattle.simple_maps.proofs.TwinLemmas.{HasDart-from_slice_get, slice_get-dart_number}
use Rattle.half_edges.proofs.ArenaLemmas.{IsLinked-same, arena_lists_are}
use Rattle.half_edges.proofs.MapLemmas.{dart_at-map_of, IsHalfMap-map_of, from_start, below_end, next_at, first_at}

-- a vertex's list is short
pub few_entries : (lists : Lists) (v : ℕ) → IsSimpleMap lists → length lists < 4096 → v < length lists → length (list_of lists v) < 4096
few_entries lists v simple few l =
    omega (arith, length-le-below (list_of lists v) (length lists) (λ u c. simple.in_range v u (l, c)) (simple.no_repeat v l))

module _ (lists : Lists) (starts : List ℕ) (ends : List Dart) (twins : List ℕ) (t : AreTables lists starts ends twins) where
  module _ (d : ℕ) (l : d < length ends) where
    here : slice_get ends d ≡ Some (get_or ends d (0, 0))
    here = slice_get-get_or ends d (0, 0) l

    pub start_before : get_or starts (get_or ends d (0, 0)).0 0 ≤ d
    start_before = from_start lists starts ends twins t (map_of lists ends (IsHalfMap-map_of lists starts ends twins t)) refl d (get_or ends d (0, 0)) here

    pub end_behind : d < get_or starts ((get_or ends d (0, 0)).0 + 1) 0
    end_behind = below_end lists starts ends twins t (map_of lists ends (IsHalfMap-map_of lists starts ends twins t)) refl d (get_or ends d (0, 0)) here

  -- two numbers with one dart are one
  one_number : (d e v u : ℕ) → slice_get ends d ≡ Some (v, u) → slice_get ends e ≡ Some (v, u) → d ≡ e
  one_number d e v u a b =
      (IsHalfMap-map_of lists starts ends twins t).one_id d e v u (dart_at-map_of lists ends d ∙ a) (dart_at-map_of lists ends e ∙ b)

  module _ (darts : List DartRecord) (vertices : List VertexRecord) (rs : AreTableRecords starts ends twins darts (length ends)) (vs : AreTableVertices lists starts vertices (length lists)) where
    record_is : (d : ℕ) → d < length ends → record_at darts d ≡ table_record starts ends twins d
    record_is d l = rs.at d l

    live_is : (d : ℕ) → d < length ends → live_of darts d ≡ true
    live_is d l = ap (λ (r : DartRecord). r.live) (record_is d l)

    tail_is : (d : ℕ) → d < length ends → tail_of darts d ≡ (get_or ends d (0, 0)).0
    tail_is d l = ap (λ (r : DartRecord). r.tail) (record_is d l)

    twin_is : (d : ℕ) → d < length ends → twin_of darts d ≡ get_or twins d 0
    twin_is d l = ap (λ (r : DartRecord). r.twin) (record_is d l)

    twin_dart_is : (d : ℕ) → d < length ends → slice_get ends (twin_of darts d) ≡ Some (twin_dart (get_or ends d (0, 0)))
    twin_dart_is d l = ap (λ x. slice_get ends x) (twin_is d l) ∙ t.twins_are.at d l

    twin_below : (d : ℕ) → d < length ends → twin_of darts d < length ends
    twin_below d l = slice_get_within ends (twin_of darts d) (twin_dart (get_or ends d (0, 0))) (twin_dart_is d l)

    twin_end : (d : ℕ) → d < length ends → get_or ends (twin_of darts d) (0, 0) ≡ twin_dart (get_or ends d (0, 0))
    twin_end d l = get_or_from_slice_get ends (twin_of darts d) (twin_dart (get_or ends d (0, 0))) (0, 0) (twin_dart_is d l)

    head_is : (d : ℕ) → d < length ends → head_of darts d ≡ (get_or ends d (0, 0)).1
    head_is d l = tail_is (twin_of darts d) (twin_below d l) ∙ ap (λ (x : Dart). x.0) (twin_end d l)

    dart_in_is : (d : ℕ) → dart_in darts d ≡ slice_get ends d
    dart_in_is d =
        elim (cases_lt d (length ends)) [
          | inl l ↦
              ap (λ b. cond b (Some (tail_of darts d, head_of darts d)) None) (live_is d l)
              ∙ ap (λ x. Some (x, head_of darts d)) (tail_is d l) ∙ ap (λ x. Some ((get_or ends d (0, 0)).0, x)) (head_is d l)
              ∙ sym (slice_get-get_or ends d (0, 0) l)
          | inr l ↦
              ap (λ r. dart_of_record darts r) (get_or_past darts d no_record (omega (arith, l, rs.count))) ∙ sym (slice_get_past ends d l)
        ]

    next_is : (d : ℕ) → d < length ends → next_of darts d ≡ cond (ltb (d + 1) (get_or starts ((get_or ends d (0, 0)).0 + 1) 0)) (d + 1) (get_or starts (get_or ends d (0, 0)).0 0)
    next_is d l = ap (λ (r : DartRecord). r.next) (record_is d l)

    prev_is_by : (d : ℕ) → d < length ends → prev_of darts d ≡ cond (eqb d (get_or starts (get_or ends d (0, 0)).0 0)) (get_or starts ((get_or ends d (0, 0)).0 + 1) 0 - 1) (d - 1)
    prev_is_by d l = ap (λ (r : DartRecord). r.prev) (record_is d l)

    next_dart_is : (d v u : ℕ) → slice_get ends d ≡ Some (v, u) → slice_get ends (next_of darts d) ≡ Some (v, follows lists v u)
    next_dart_is d v u e =
        let same : get_or ends d (0, 0) ≡ (v, u) = get_or_from_slice_get ends d (v, u) (0, 0) e in
        let start : get_or starts (get_or ends d (0, 0)).0 0 ≡ get_or starts v 0 = ap (λ (x : Dart). get_or starts x.0 0) same in
        let end : get_or starts ((get_or ends d (0, 0)).0 + 1) 0 ≡ get_or starts (v + 1) 0 = ap (λ (x : Dart). get_or starts (x.0 + 1) 0) same in
        ap (λ x. slice_get ends x) (next_is d (slice_get_within ends d (v, u) e))
        ∙ sym (dart_at-map_of lists ends _)
        ∙ next_at lists starts ends twins t (map_of lists ends (IsHalfMap-map_of lists starts ends twins t)) refl d (v, u) e (get_or starts (get_or ends d (0, 0)).0 0) (get_or starts ((get_or ends d (0, 0)).0 + 1) 0) start end
        ∙ ap (λ o. option_map (next_dart lists) o) (dart_at-map_of lists ends d ∙ e)

    back_again : (s e d n p : ℕ) → s ≤ d → d < e → n ≡ cond (ltb (d + 1) e) (d + 1) s → p ≡ cond (eqb n s) (e - 1) (n - 1) → p ≡ d
    back_again s e d n p h l next prev = grind (arith, nat_tests)

    prev_dart_is : (d v u : ℕ) → slice_get ends d ≡ Some (v, u) → prev_of darts (next_of darts d) ≡ d
    prev_dart_is d v u e =
        let l = slice_get_within ends d (v, u) e in
        let n = next_of darts d in
        let m = slice_get_within ends n (v, follows lists v u) (next_dart_is d v u e) in
        let here_same : (get_or ends d (0, 0)).0 ≡ v = ap (λ (x : Dart). x.0) (get_or_from_slice_get ends d (v, u) (0, 0) e) in
        let next_same : (get_or ends n (0, 0)).0 ≡ v = ap (λ (x : Dart). x.0) (get_or_from_slice_get ends n (v, follows lists v u) (0, 0) (next_dart_is d v u e)) in
        back_again (get_or starts v 0) (get_or starts (v + 1) 0) d n (prev_of darts n)
        (subst (λ x. get_or starts x 0 ≤ d) here_same (start_before d l))
        (subst (λ x. d < get_or starts (x + 1) 0) here_same (end_behind d l))
        (subst (λ x. n ≡ cond (ltb (d + 1) (get_or starts (x + 1) 0)) (d + 1) (get_or starts x 0)) here_same (next_is d l))
        (subst (λ x. prev_of darts n ≡ cond (eqb n (get_or starts x 0)) (get_or starts (x + 1) 0 - 1) (n - 1)) next_same (prev_is_by n m))

    linked_by_tables : IsLinked (λ d. slice_get ends d) lists darts vertices
    linked_by_tables = record {
      distinct = t.simple.no_repeat;
      is_dart = λ d v u e. HasDart-from_slice_get lists ends d v u t.ends_are e;
      has_id = λ v u h. (_, slice_get-dart_number lists ends v u t.ends_are h);
      one_id = one_number;
      next_at = next_dart_is;
      prev_at = prev_dart_is;
      vertex_count = vs.count;
      degree_at = λ v l. vs.degree v l;
      first_at = λ v l some. sym (dart_at-map_of lists ends (vertex_at vertices v).first) ∙ first_at lists starts ends twins t (map_of lists ends (IsHalfMap-map_of lists starts ends twins t)) refl v l (vertex_at vertices v).first (vs.first v l) some;
    }

    paired_by_tables : (d : ℕ) → d < length darts → IsPaired darts d
    paired_by_tables d in_records =
        let l : d < length ends = omega (arith, in_records, rs.count) in
        let m = twin_below d l in
        record {
          within = omega (arith, m, rs.count);
          back = one_number (twin_of darts (twin_of darts d)) d (get_or ends d (0, 0)).0 (get_or ends d (0, 0)).1
              (twin_dart_is (twin_of darts d) m ∙ ap (λ (x : Dart). Some (twin_dart x)) (twin_end d l)) (slice_get-get_or ends d (0, 0) l);
          other = λ e.
              t.simple.no_loop (get_or ends d (0, 0)).0 (get_or ends d (0, 0)).1
              (HasDart-from_slice_get lists ends d (get_or ends d (0, 0)).0 (get_or ends d (0, 0)).1 t.ends_are (slice_get-get_or ends d (0, 0) l))
              (ap (λ (x : Dart). x.0) (sym (twin_end d l) ∙ ap (λ x. get_or ends x (0, 0)) e));
          both = live_is (twin_of darts d) m ∙ sym (live_is d l);
        }

    length_ends : length ends ≡ dart_count lists
    length_ends = ap length t.ends_are ∙ length-darts lists

    pub IsArena-from_tables : (edges : ℕ) → edges ≡ edge_count lists → IsArena lists darts vertices edges 0 0
    IsArena-from_tables edges e = record {
      linked = IsLinked-same (λ d. slice_get ends d) (dart_in darts) lists darts vertices dart_in_is linked_by_tables;
      simple = t.simple;
      few_vertices = t.few_vertices;
      paired = paired_by_tables;
      edges_are = e;
      count = omega (arith, rs.count, length_ends, dart_count-edge_count lists t.simple, e);
      room = omega (arith, e, dart_count-edge_count lists t.simple, few_darts-simple lists t.few_vertices t.simple);
      threaded = tt;
    }

    pub invariant_from_tables : (edges : ℕ) → edges ≡ edge_count lists → IsArena (arena_lists darts vertices) darts vertices edges 0 0
    invariant_from_tables edges e =
        let a = IsArena-from_tables edges e in
        subst (λ ls. IsArena ls darts vertices edges 0 0) (sym (arena_lists_are lists darts vertices a.linked)) a

    pub lists_from_tables : (edges : ℕ) → edges ≡ edge_count lists → arena_lists darts vertices ≡ lists
    lists_from_tables edges e = arena_lists_are lists darts vertices (IsArena-from_tables edges e).linked

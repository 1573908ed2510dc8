-- More free edges in an arena.
use Rattle.std.proofs.Common.{ℕ, suc, ◌+◌, ◌<◌, ◌≤◌, ◌≡◌, ◌≢◌, false, cond, List, [], ◌∷◌, ◌++◌, length, Some, None, sym, ap, ◌∙◌, subst, inl, inr, arith}
use Rattle.std.proofs.lemmas.List.{get_or_append_left, get_or_push, get_or_past, length_push}
use Rattle.std.proofs.lemmas.Bool.{cases_lt, cases_eq}
use Rattle.half_edges.specs.Arena.{no_record, record_at, twin_of, prev_of, tail_of, live_of, head_of, dart_in, dart_of_record, arena_lists, IsLinked, IsPaired, AreFree, IsArena}
use Rattle.half_edges.specs.Links.{IsFreer}
use Rattle.half_edges.specs.declared.dart_records.DartRecord.{DartRecord}
use Rattle.half_edges.specs.declared.dart_records.VertexRecord.{VertexRecord}
use Rattle.half_edges.proofs.ArenaLemmas.{IsLinked-same, arena_lists_are, live-lt, IsDartAt-from}
use Rattle.half_edges.proofs.FreeLemmas.{IsSameFree, AreFree-frame, IsLinked-frame}

-- at first nothing was added
pub IsFreer-none : (old : List DartRecord) (free spare : ℕ) → ((z : ℕ) → z < length old → IsPaired old z) → AreFree old free spare → IsFreer old old free spare 0
IsFreer-none old free spare paired threaded = grind (arith, DartRecord, get_or_past, no_record, AreFree)

module _ (old mid : List DartRecord) (free spare more : ℕ) (h : IsFreer old mid free spare more) (d : ℕ) (d_is : d ≡ length mid) where
  abbrev first : DartRecord
  first = record { twin = d + 1; next = free; prev = spare + more; tail = 0; live = false }

  abbrev second : DartRecord
  second = record { twin = d; next = free; prev = spare + more; tail = 0; live = false }

  abbrev new : List DartRecord
  new = (mid ++ first ∷ []) ++ second ∷ []

  count_one : length (mid ++ first ∷ []) ≡ length mid + 1
  count_one = length_push mid first

  count_new : length new ≡ length mid + 2
  count_new = omega (arith, length_push (mid ++ first ∷ []) second, count_one)

  below : (z : ℕ) → z < length mid → record_at new z ≡ record_at mid z
  below z l =
      get_or_append_left (mid ++ first ∷ []) (second ∷ []) no_record z (omega (arith, l, count_one)) ∙ get_or_append_left mid (first ∷ []) no_record z l

  at_d : record_at new d ≡ first
  at_d = get_or_append_left (mid ++ first ∷ []) (second ∷ []) no_record d (omega (arith, d_is, count_one)) ∙ get_or_push mid first no_record d (sym d_is)

  at_t : record_at new (d + 1) ≡ second
  at_t = get_or_push (mid ++ first ∷ []) second no_record (d + 1) (omega (arith, d_is, count_one))

  at_last : (z : ℕ) → length mid ≤ z → z < length new → z ≢ d → record_at new z ≡ second
  at_last z l m other = let e : z ≡ d + 1 = omega (arith, d_is, l, m, count_new, other) in ap (λ y. record_at new y) e ∙ at_t

  same_twin : (z : ℕ) → z < length mid → twin_of new z ≡ twin_of mid z
  same_twin z l = ap (λ (r : DartRecord). r.twin) (below z l)

  paired_new : (z : ℕ) → z < length new → IsPaired new z
  paired_new z l = grind (arith, cases_lt, length, same_twin, count_new, twin_of, new, live_of, DartRecord, below, cases_eq, at_d, at_t)

  dead_new : (z : ℕ) → length old ≤ z → live_of new z ≡ false
  dead_new z l = grind (arith, cases_lt, length, DartRecord, below, new, cases_eq, live_of, at_d, at_last, get_or_past, no_record)

  same_free : (z : ℕ) → z < length mid → IsSameFree mid new z
  same_free z l = grind (arith, DartRecord, below, same_twin)

  threaded_new : AreFree new d (suc (spare + more))
  threaded_new = grind (arith, count_new, DartRecord, at_d, prev_of, new, at_t, AreFree, AreFree-frame, same_free)

  -- one edge more
  pub IsFreer-more : IsFreer old new d spare (more + 1)
  IsFreer-more = record {
    count = omega (arith, h.count, count_new);
    kept = λ z l. below z (omega (arith, h.count, l)) ∙ h.kept z l;
    dead = dead_new;
    paired = paired_new;
    threaded = let e : spare + (more + 1) ≡ suc (spare + more) = omega arith in subst (λ k. AreFree new d k) (sym e) threaded_new;
  }

module _ (old : List DartRecord) (vertices : List VertexRecord) (edges free spare : ℕ) (a : IsArena (arena_lists old vertices) old vertices edges free spare) (new : List DartRecord) (free_now more : ℕ) (f : IsFreer old new free_now spare more) where
  pub dart_reserved : (z : ℕ) → dart_in new z ≡ dart_in old z
  dart_reserved z =
      elim (cases_lt z (length old)) [
        | inl l ↦
            ap (λ r. dart_of_record new r) (f.kept z l)
            ∙ ap (λ y. cond (live_of old z) (Some (tail_of old z, y)) None) (ap (λ (r : DartRecord). r.tail) (f.kept (twin_of old z) (a.paired z l).within))
        | inr past ↦
            ap (λ b. cond b (Some (tail_of new z, head_of new z)) None) (f.dead z past)
            ∙ sym (ap (λ b. cond b (Some (tail_of old z, head_of old z)) None) (ap (λ (r : DartRecord). r.live) (get_or_past old z no_record past)))
      ]

  linked_new : IsLinked (dart_in new) (arena_lists old vertices) new vertices
  linked_new =
      IsLinked-same (dart_in old) (dart_in new) _ new vertices dart_reserved
      (IsLinked-frame (dart_in old) _ old new vertices (λ z v u e. f.kept z (live-lt old z (IsDartAt-from old z v u e).live)) a.linked)

  pub lists_reserved : arena_lists new vertices ≡ arena_lists old vertices
  lists_reserved = arena_lists_are (arena_lists old vertices) new vertices linked_new

  pub arena_reserved : edges + (spare + more) ≤ 16777216 → IsArena (arena_lists new vertices) new vertices edges free_now (spare + more)
  arena_reserved room =
      subst (λ ls. IsArena ls new vertices edges free_now (spare + more)) (sym lists_reserved)
      (record { linked = linked_new; simple = a.simple; few_vertices = a.few_vertices; paired = f.paired; edges_are = a.edges_are; count = omega (arith, f.count, a.count); room = room; threaded = f.threaded })

-- What the records of an arena say of its darts, its lists and their ids.
use Rattle.std.proofs.Common.{ℕ, zero, suc, ◌+◌, ◌*◌, ◌<◌, ◌≤◌, ◌≡◌, ◌≢◌, true, false, cond, ltb, List, [], ◌∷◌, ◌++◌, map, length, get_or, take, AllPairs, Contains, Option, Some, None, is_some, option_map, refl, sym, ap, ap₂, ◌∙◌, subst, inl, inr, arith}
use Rattle.std.proofs.lemmas.List.{length-append, length_push, map-append, length-map, get_or-map, get_or_past, get_or_default, take_more, take_all, ext_get_or}
use Rattle.std.proofs.lemmas.Option.{cond_some}
use Rattle.std.proofs.lemmas.Bool.{cases_lt, cases_Bool, true≢false, cond-true, lt-ltb}
use Rattle.map_lists.specs.Lists.{Lists}
use Rattle.map_lists.proofs.CutLemmas.{IsStored, IsStored-push}
use Rattle.map_theory.specs.Maps.{Dart, list_of, HasDart, darts_before, place_of, follows, entry_after, twin_dart}
use Rattle.map_theory.proofs.DartLemmas.{darts_before_more, darts_before_end, place_of-lt-length, get_or-place_of, place_of-get_or, place_after, place_before, place_before-lt, place_after-before, entry_after-place}
use Rattle.map_theory.proofs.DartCounts.{dart_count-edge_count}
use Rattle.half_edges.specs.Map.{AreMapFacts, Map, dart_at, IsLive, IsHalfMap, next_dart}
use Rattle.half_edges.specs.Arena.{arena_ids, no_record, no_vertex, vertex_at, twin_of, next_of, prev_of, tail_of, live_of, head_of, dart_of_record, dart_in, steps, walk, IsWalkable, arena_lists, arena_map, IsLinked, IsArena}
use Rattle.half_edges.specs.declared.dart_records.DartRecord.{DartRecord}
use Rattle.half_edges.specs.declared.dart_records.VertexRecord.{VertexRecord}

get_or-map_default : (f : DartRecord → Option Dart) → f no_record ≡ None → (records : List DartRecord) (d : ℕ) → get_or (map f records) d None ≡ f (get_or records d no_record)
get_or-map_default f e [] d = sym e
get_or-map_default f e (r ∷ records) zero = refl
get_or-map_default f e (r ∷ records) (suc d) = get_or-map_default f e records d

-- the dart of an id is that of its record
pub dart_at-arena : (darts : List DartRecord) (vertices : List VertexRecord) (spare d : ℕ) → get_or (arena_ids darts) d None ≡ dart_in darts d
dart_at-arena darts vertices spare d = get_or-map_default (dart_of_record darts) refl darts d

pub dart_in-live : (darts : List DartRecord) (d : ℕ) → live_of darts d ≡ true → dart_in darts d ≡ Some (tail_of darts d, head_of darts d)
dart_in-live darts d e = cond-true (live_of darts d) (Some (tail_of darts d, head_of darts d)) None e

pub dart_in-dead : (darts : List DartRecord) (d : ℕ) → live_of darts d ≡ false → dart_in darts d ≡ None
dart_in-dead darts d e = ap (λ b. cond b (Some (tail_of darts d, head_of darts d)) None) e

-- a record with a dart is live, with that tail and head
pub record IsDartAt (darts : List DartRecord) (d v u : ℕ) : Type 0 where
  pub live : live_of darts d ≡ true
  pub tail : tail_of darts d ≡ v
  pub head : head_of darts d ≡ u

pub IsDartAt-from : (darts : List DartRecord) (d v u : ℕ) → dart_in darts d ≡ Some (v, u) → IsDartAt darts d v u
IsDartAt-from darts d v u e =
    let p = cond_some (live_of darts d) (tail_of darts d, head_of darts d) (v, u) e in
    record { live = p.0; tail = ap (λ (x : Dart). x.0) p.1; head = ap (λ (x : Dart). x.1) p.1 }

pub live-lt : (darts : List DartRecord) (d : ℕ) → live_of darts d ≡ true → d < length darts
live-lt darts d live =
    elim (cases_lt d (length darts)) [
      | inl less ↦ less
      | inr more ↦ absurd (true≢false (sym live ∙ ap (λ (r : DartRecord). r.live) (get_or_past darts d no_record more)))
    ]

pub dart-lt : (darts : List DartRecord) (d v u : ℕ) → dart_in darts d ≡ Some (v, u) → d < length darts
dart-lt darts d v u e = live-lt darts d (IsDartAt-from darts d v u e).live

-- the entry after one that is not the last
pub entry_after-next : (us : List ℕ) (k : ℕ) → AllPairs ◌≢◌ us → k + 1 < length us → entry_after (get_or us k 0) us ≡ get_or us (k + 1) 0
entry_after-next us k distinct l =
    let place = place_of-get_or us k 0 distinct (omega arith) in
    entry_after-place (get_or us k 0) us 0 (omega (arith, place))
    ∙ ap (λ p. get_or us (place_after (length us) p) 0) place
    ∙ ap (λ p. get_or us p 0) (cond-true (ltb (k + 1) (length us)) (k + 1) 0 (lt-ltb (k + 1) (length us) l))

-- each entry comes after one
pub entry_before : (us : List ℕ) (u : ℕ) → AllPairs ◌≢◌ us → Contains us u → (w : ℕ) × Contains us w × (entry_after w us ≡ u)
entry_before us u distinct has =
    let k = place_of u us in
    let n = length us in
    let k_in = place_of-lt-length u us has in
    let p_in = place_before-lt n k k_in in
    let w = get_or us (place_before n k) 0 in
    let place : place_of w us ≡ place_before n k = place_of-get_or us (place_before n k) 0 distinct p_in in (
      w,
      (place_before n k, p_in, get_or_default us (place_before n k) w 0 p_in),
      entry_after-place w us 0 (omega (arith, place, p_in))
          ∙ ap (λ p. get_or us (place_after n p) 0) place ∙ ap (λ p. get_or us p 0) (place_after-before n k k_in) ∙ get_or-place_of u us 0 k_in,
    )

module _ (dart : ℕ → Option Dart) (lists : Lists) (darts : List DartRecord) (vertices : List VertexRecord) (h : IsLinked dart lists darts vertices) where
  -- the dart that is reached in k steps from the first is that of entry k
  pub step_at : (v k : ℕ) → v < length lists → k < length (list_of lists v) → dart (steps darts (vertex_at vertices v).first k) ≡ Some (v, get_or (list_of lists v) k 0)
  step_at v zero l m = h.first_at v l m
  step_at v (suc k) l m =
      let e : k + 1 ≡ suc k = omega arith in
      h.next_at (steps darts (vertex_at vertices v).first k) v (get_or (list_of lists v) k 0) (step_at v k l (omega arith))
      ∙ ap (λ u. Some (v, u)) (entry_after-next (list_of lists v) k (h.distinct v l) (omega arith) ∙ ap (λ i. get_or (list_of lists v) i 0) e)

  -- prev leads to the dart of the entry before
  pub record IsBefore (d v u w : ℕ) : Type 0 where
    pub before : dart (prev_of darts d) ≡ Some (v, w)
    pub follows_it : follows lists v w ≡ u
    pub back : next_of darts (prev_of darts d) ≡ d

  pub prev_is : (d v u : ℕ) → dart d ≡ Some (v, u) → (w : ℕ) × IsBefore d v u w
  prev_is d v u e =
      let has = h.is_dart d v u e in
      let w = entry_before (list_of lists v) u (h.distinct v has.0) has.1 in
      let c = h.has_id v w.0 (has.0, w.1) in
      let next : next_of darts c.0 ≡ d = h.one_id (next_of darts c.0) d v u (h.next_at c.0 v w.0 c.1 ∙ ap (λ x. Some (v, x)) w.2) e in
      let prev : prev_of darts d ≡ c.0 = ap (λ x. prev_of darts x) (sym next) ∙ h.prev_at c.0 v w.0 c.1 in
      (w.0, record { before = ap dart prev ∙ c.1; follows_it = w.2; back = ap (λ x. next_of darts x) prev ∙ next })

-- the same links, of a function that gives the same darts
pub IsLinked-same : (dart other : ℕ → Option Dart) (lists : Lists) (darts : List DartRecord) (vertices : List VertexRecord) → ((d : ℕ) → other d ≡ dart d) → IsLinked dart lists darts vertices → IsLinked other lists darts vertices
IsLinked-same dart other lists darts vertices same h = record {
  distinct = h.distinct;
  is_dart = λ d v u e. h.is_dart d v u (sym (same d) ∙ e);
  has_id = λ v u d. let i = h.has_id v u d in (i.0, same i.0 ∙ i.1);
  one_id = λ d e v u a b. h.one_id d e v u (sym (same d) ∙ a) (sym (same e) ∙ b);
  next_at = λ d v u e. same (next_of darts d) ∙ h.next_at d v u (sym (same d) ∙ e);
  prev_at = λ d v u e. h.prev_at d v u (sym (same d) ∙ e);
  vertex_count = h.vertex_count;
  degree_at = h.degree_at;
  first_at = λ v l some. same (vertex_at vertices v).first ∙ h.first_at v l some;
}

module _ (lists : Lists) (darts : List DartRecord) (vertices : List VertexRecord) (h : IsLinked (dart_in darts) lists darts vertices) where
  -- a walk from the first dart meets the entries
  walk_is : (v k : ℕ) → v < length lists → k ≤ length (list_of lists v) → walk darts (vertex_at vertices v).first k ≡ take k (list_of lists v)
  walk_is v zero l m = refl
  walk_is v (suc k) l m =
      let e : k + 1 ≡ suc k = omega arith in
      let d = steps darts (vertex_at vertices v).first k in
      let head = (IsDartAt-from darts d v (get_or (list_of lists v) k 0) (step_at (dart_in darts) lists darts vertices h v k l (omega arith))).head in
      ap (λ xs. xs ++ head_of darts d ∷ []) (walk_is v k l (omega arith))
      ∙ ap (λ x. take k (list_of lists v) ++ x ∷ []) head
      ∙ sym (take_more (list_of lists v) k 0 (omega arith)) ∙ ap (λ n. take n (list_of lists v)) e

  -- so the lists are those of the arena
  pub arena_lists_are : arena_lists darts vertices ≡ lists
  arena_lists_are =
      let count : length (arena_lists darts vertices) ≡ length lists = length-map vertices (λ v. walk darts v.first v.degree) ∙ h.vertex_count in
      ext_get_or [] (arena_lists darts vertices) lists count
      (λ i l.
      let in_lists : i < length lists = omega (arith, l, count) in
      get_or-map (λ v. walk darts v.first v.degree) vertices i no_vertex [] (omega (arith, in_lists, h.vertex_count))
      ∙ ap (λ n. walk darts (vertex_at vertices i).first n) (h.degree_at i in_lists)
      ∙ walk_is i (length (list_of lists i)) in_lists (omega arith) ∙ take_all (length (list_of lists i)) (list_of lists i) (omega arith))

-- the facts that readers need, of a map that is the view of an arena
module _ (darts : List DartRecord) (vertices : List VertexRecord) (edges free spare : ℕ) (a : IsArena (arena_lists darts vertices) darts vertices edges free spare) where
  pub known_here : AreMapFacts (arena_lists darts vertices) spare (arena_ids darts)
  known_here = record {
    simple = a.simple;
    few_vertices = a.few_vertices;
    is_dart = λ d v u e. a.linked.is_dart d v u (sym (dart_at-arena darts vertices spare d) ∙ e);
    has_id = λ v u d. let i = a.linked.has_id v u d in (i.0, dart_at-arena darts vertices spare i.0 ∙ i.1);
    one_id = λ d e v u one other. a.linked.one_id d e v u (sym (dart_at-arena darts vertices spare d) ∙ one) (sym (dart_at-arena darts vertices spare e) ∙ other);
    few_ids = omega (arith, length-map darts (dart_of_record darts), a.count, a.edges_are);
    few_edges = omega (arith, a.room, a.edges_are);
  }

  module _ {k : AreMapFacts (arena_lists darts vertices) spare (arena_ids darts)} (map : Map) (view : arena_map darts vertices spare k ≡ map) where
    pub known : IsHalfMap map
    known = map.known

    pub same_lists : map.lists ≡ arena_lists darts vertices
    same_lists = ap (λ (m : Map). m.lists) (sym view)

    pub dart_at-in : (d : ℕ) → dart_at map d ≡ dart_in darts d
    dart_at-in d = ap (λ m. dart_at m d) (sym view) ∙ dart_at-arena darts vertices spare d

    pub live_here : (d : ℕ) → IsLive map d → live_of darts d ≡ true
    live_here d live =
        elim (cases_Bool (live_of darts d)) [
          | inl is_live ↦ is_live
          | inr is_dead ↦ absurd (true≢false (sym live ∙ ap (λ o. is_some o) (dart_at-in d ∙ ap (λ b. cond b (Some (tail_of darts d, head_of darts d)) None) is_dead)))
        ]

    pub dart_here : (d : ℕ) → IsLive map d → dart_at map d ≡ Some (tail_of darts d, head_of darts d)
    dart_here d live = dart_at-in d ∙ dart_in-live darts d (live_here d live)

    dart_in-here : (d : ℕ) → IsLive map d → dart_in darts d ≡ Some (tail_of darts d, head_of darts d)
    dart_in-here d live = dart_in-live darts d (live_here d live)

    pub in_darts : (d : ℕ) → IsLive map d → d < length darts
    in_darts d live = live-lt darts d (live_here d live)

    pub twin_in : (d : ℕ) → IsLive map d → twin_of darts d < length darts
    twin_in d live = (a.paired d (in_darts d live)).within

    pub twin_here : (d : ℕ) → IsLive map d → dart_at map (twin_of darts d) ≡ option_map twin_dart (dart_at map d)
    twin_here d live =
        let p = a.paired d (in_darts d live) in
        dart_at-in (twin_of darts d) ∙ dart_in-live darts (twin_of darts d) (p.both ∙ live_here d live)
        ∙ ap (λ x. Some (head_of darts d, x)) (ap (λ x. tail_of darts x) p.back) ∙ ap (λ o. option_map twin_dart o) (sym (dart_here d live))

    pub next_here : (d : ℕ) → IsLive map d → dart_at map (next_of darts d) ≡ option_map (next_dart map.lists) (dart_at map d)
    next_here d live =
        dart_at-in (next_of darts d) ∙ a.linked.next_at d (tail_of darts d) (head_of darts d) (dart_in-here d live)
        ∙ ap (λ (ls : Lists). Some (tail_of darts d, follows ls (tail_of darts d) (head_of darts d))) (sym same_lists)
        ∙ ap (λ o. option_map (next_dart map.lists) o) (sym (dart_here d live))

    prev_before : (d : ℕ) → IsLive map d → (w : ℕ) × IsBefore (dart_in darts) (arena_lists darts vertices) darts vertices a.linked d (tail_of darts d) (head_of darts d) w
    prev_before d live = prev_is (dart_in darts) (arena_lists darts vertices) darts vertices a.linked d (tail_of darts d) (head_of darts d) (dart_in-here d live)

    pub prev_live : (d : ℕ) → IsLive map d → IsLive map (prev_of darts d)
    prev_live d live = ap (λ o. is_some o) (dart_at-in (prev_of darts d) ∙ (prev_before d live).1.before)

    pub prev_here : (d : ℕ) → IsLive map d → option_map (next_dart map.lists) (dart_at map (prev_of darts d)) ≡ dart_at map d
    prev_here d live =
        let w = prev_before d live in
        ap (λ o. option_map (next_dart map.lists) o) (dart_at-in (prev_of darts d) ∙ w.1.before)
        ∙ ap (λ (ls : Lists). Some (tail_of darts d, follows ls (tail_of darts d) w.0)) same_lists
        ∙ ap (λ u. Some (tail_of darts d, u)) w.1.follows_it ∙ sym (dart_here d live)

    pub vertex_in : (v : ℕ) → v < length map.lists → v < length vertices
    vertex_in v l = omega (arith, l, ap length same_lists, a.linked.vertex_count)

    pub degree_here : (v : ℕ) → v < length map.lists → (vertex_at vertices v).degree ≡ length (list_of map.lists v)
    degree_here v l = a.linked.degree_at v (omega (arith, l, ap length same_lists)) ∙ ap (λ (ls : Lists). length (list_of ls v)) (sym same_lists)

    pub step_here : (v k : ℕ) → v < length map.lists → k < length (list_of map.lists v) → dart_at map (steps darts (vertex_at vertices v).first k) ≡ Some (v, get_or (list_of map.lists v) k 0)
    step_here v k l m =
        dart_at-in (steps darts (vertex_at vertices v).first k)
        ∙ step_at (dart_in darts) (arena_lists darts vertices) darts vertices a.linked v k (omega (arith, l, ap length same_lists)) (omega (arith, m, ap (λ (ls : Lists). length (list_of ls v)) same_lists))
        ∙ ap (λ (ls : Lists). Some (v, get_or (list_of ls v) k 0)) (sym same_lists)

    pub walkable : (v : ℕ) → v < length map.lists → IsWalkable darts (vertex_at vertices v).first (vertex_at vertices v).degree
    walkable v l k m =
        let d = steps darts (vertex_at vertices v).first k in
        let live = ap (λ o. is_some o) (step_here v k l (omega (arith, m, degree_here v l))) in
        (in_darts d live, twin_in d live)

    -- no step from a vertex leads to a number that is no neighbour
    pub no_dart : (v u : ℕ) → v < length map.lists → ((k : ℕ) → k < (vertex_at vertices v).degree → head_of darts (steps darts (vertex_at vertices v).first k) ≡ u → ⊥) → ¬ HasDart map.lists v u
    no_dart v u l none has =
        let k = has.1.0 in
        let m : k < length (list_of map.lists v) = has.1.1 in
        let d = steps darts (vertex_at vertices v).first k in
        let e = step_here v k l m in
        none k (omega (arith, m, degree_here v l)) ((IsDartAt-from darts d v (get_or (list_of map.lists v) k 0) (sym (dart_at-in d) ∙ e)).head ∙ get_or_default (list_of map.lists v) k 0 u m ∙ has.1.2)

    -- a step that leads to u is the dart to u
    pub dart_to_here : (v u k d : ℕ) → v < length map.lists → k < (vertex_at vertices v).degree → d ≡ steps darts (vertex_at vertices v).first k → head_of darts d ≡ u → dart_at map d ≡ Some (v, u)
    dart_to_here v u k d l m e head =
        let at : dart_at map d ≡ Some (v, get_or (list_of map.lists v) k 0) = ap (λ x. dart_at map x) e ∙ step_here v k l (omega (arith, m, degree_here v l)) in
        at ∙ ap (λ x. Some (v, x)) (sym (IsDartAt-from darts d v (get_or (list_of map.lists v) k 0) (sym (dart_at-in d) ∙ at)).head ∙ head)

-- the steps from a vertex's first dart stay within the records
pub walkable_here : (darts : List DartRecord) (vertices : List VertexRecord) (edges free spare : ℕ) → IsArena (arena_lists darts vertices) darts vertices edges free spare → (v : ℕ) → v < length vertices → IsWalkable darts (vertex_at vertices v).first (vertex_at vertices v).degree
walkable_here darts vertices edges free spare a v l =
    walkable darts vertices edges free spare a (arena_map darts vertices spare (known_here darts vertices edges free spare a)) refl v (omega (arith, l, a.linked.vertex_count))

-- what a reader of a vertex's record and of all records of darts has read
pub walkable_read : (darts read : List DartRecord) (vertex other : VertexRecord) → read ≡ darts → other ≡ vertex → IsWalkable darts vertex.first vertex.degree → IsWalkable read other.first other.degree
walkable_read darts read vertex other e i h =
    subst (λ (v : VertexRecord). IsWalkable read v.first v.degree) (sym i) (subst (λ ds. IsWalkable ds vertex.first vertex.degree) (sym e) h)

length-walk : (darts : List DartRecord) (d n : ℕ) → length (walk darts d n) ≡ n
length-walk darts d zero = refl
length-walk darts d (suc n) = length_push (walk darts d n) (head_of darts (steps darts d n)) ∙ omega (arith, length-walk darts d n)

-- where there is room for all darts, there is room for those of a vertex behind those of the vertices before it
pub walk_room : (darts : List DartRecord) (vertices others : List VertexRecord) (edges free spare v len room : ℕ) → IsArena (arena_lists darts vertices) darts vertices edges free spare → others ≡ vertices → v < length vertices → len ≡ darts_before (arena_lists darts vertices) v → 2 * edges ≤ room → len + (vertex_at others v).degree ≤ room
walk_room darts vertices others edges free spare v len room a same l met space =
    let lists = arena_lists darts vertices in
    let degree = a.linked.degree_at v (omega (arith, l, a.linked.vertex_count)) in
    omega (arith, ap (λ vs. (vertex_at vs v).degree) same, degree, met, space, darts_before_end lists v, dart_count-edge_count lists a.simple, a.edges_are)

pub walk_met : (darts read : List DartRecord) (vertices others : List VertexRecord) (edges free spare v : ℕ) (entries new_entries : List ℕ) → IsArena (arena_lists darts vertices) darts vertices edges free spare → read ≡ darts → others ≡ vertices → v < length vertices → length entries ≡ darts_before (arena_lists darts vertices) v → new_entries ≡ entries ++ walk read (vertex_at others v).first (vertex_at others v).degree → length new_entries ≡ darts_before (arena_lists darts vertices) (v + 1)
walk_met darts read vertices others edges free spare v entries new_entries a same_darts same l met grown =
    let lists = arena_lists darts vertices in
    let degree = a.linked.degree_at v (omega (arith, l, a.linked.vertex_count)) in
    let us = walk read (vertex_at others v).first (vertex_at others v).degree in
    omega (arith, ap length grown, length-append entries us, length-walk read (vertex_at others v).first (vertex_at others v).degree, ap (λ vs. (vertex_at vs v).degree) same, degree, met, darts_before_more lists v)

-- a list more: the entries and ends of the lists of the first vertices, and then those with the next list
pub IsStored-walk : (darts read : List DartRecord) (vertices others : List VertexRecord) (v : ℕ) (entries new_entries ends new_ends : List ℕ) (end : ℕ) → read ≡ darts → others ≡ vertices → v < length vertices → IsStored (arena_lists darts (take v vertices)) entries ends → new_entries ≡ entries ++ walk read (vertex_at others v).first (vertex_at others v).degree → new_ends ≡ ends ++ end ∷ [] → end ≡ length new_entries → IsStored (arena_lists darts (take (v + 1) vertices)) new_entries new_ends
IsStored-walk darts read vertices others v entries new_entries ends new_ends end same_darts same l is grown ended size =
    let us = walk darts (vertex_at vertices v).first (vertex_at vertices v).degree in
    let added : new_entries ≡ entries ++ us = grown ∙ ap₂ (λ ds vs. entries ++ walk ds (vertex_at vs v).first (vertex_at vs v).degree) same_darts same in
    let e : end ≡ length entries + length us = size ∙ ap length added ∙ length-append entries us in
    let more : arena_lists darts (take (v + 1) vertices) ≡ arena_lists darts (take v vertices) ++ us ∷ [] =
    ap (λ vs. arena_lists darts vs) (take_more vertices v no_vertex l)
    ∙ map-append (λ (w : VertexRecord). walk darts w.first w.degree) (take v vertices) (vertex_at vertices v ∷ []) in
    subst (λ lists. IsStored lists new_entries new_ends) (sym more)
    (subst (λ es. IsStored (arena_lists darts (take v vertices) ++ us ∷ []) es new_ends) (sym added)
    (subst (λ ks. IsStored (arena_lists darts (take v vertices) ++ us ∷ []) (entries ++ us) ks) (sym (ended ∙ ap (λ k. ends ++ k ∷ []) e))
    (IsStored-push (arena_lists darts (take v vertices)) entries ends us is)))

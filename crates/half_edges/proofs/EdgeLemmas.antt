-- What a map is once an edge of its arena has come or gone.
use Rattle.std.proofs.Common.{None, get_or, ℕ, ◌+◌, ◌-◌, ◌*◌, ◌<◌, ◌≤◌, ◌≡◌, ◌≢◌, List, [], ◌++◌, length, take, drop, Option, Some, option_map, refl, sym, ap, ◌∙◌, subst, arith}
use Rattle.std.proofs.lemmas.List.{take_at}
use Rattle.std.proofs.lemmas.Option.{some_pair_parts}
use Rattle.map_lists.specs.Lists.{Lists}
use Rattle.map_theory.specs.Maps.{Dart, HasDart, list_of, edge_count}
use Rattle.map_theory.specs.Edges.{without_edge}
use Rattle.map_theory.proofs.WithoutEdge.{edge_count-without}
use Rattle.map_theory.proofs.DartCounts.{dart_count-edge_count, few_darts-simple}
use Rattle.half_edges.specs.Map.{AreMapFacts, Map, dart_at, IsLive}
use Rattle.half_edges.specs.Arena.{arena_ids, tail_of, head_of, dart_in, arena_lists, arena_map, IsArena, IsWired}
use Rattle.half_edges.specs.Edges.{corner_place, IsCorner, corner_tail, corner_entry, IsCornerIn, AreCornersIn}
use Rattle.half_edges.specs.declared.edge_edits.Corner.{Corner}
use Rattle.half_edges.specs.declared.edge_edits.Corner.TheVariants.{After, Only}
use Rattle.half_edges.specs.declared.dart_records.DartRecord.{DartRecord}
use Rattle.half_edges.specs.declared.dart_records.VertexRecord.{VertexRecord}
use Rattle.half_edges.proofs.ArenaLemmas.{arena_lists_are, dart_at-arena, dart_at-in, dart_here, same_lists, live_here, dart_in-live, IsDartAt, IsDartAt-from}

-- a list was lent whole, and comes back whole
pub record IsLent {A : Type 0} (items read new after : List A) : Type 0 where
  pub was : read ≡ items
  pub is : after ≡ new

pub lent : {A : Type 0} (items read new : List A) (len : ℕ) → read ≡ items → length new ≡ length read → len ≡ length items → IsLent items read new (take len (new ++ drop (length new) items))
lent items read new len was same count = record { was = was; is = take_at new (drop (length new) items) len (omega (arith, ap length was, same, count)) }

-- what holds of the lists that were lent holds of those that lent them
pub through : {A B : Type 0} {xs read_xs new_xs after_xs : List A} {ys read_ys new_ys after_ys : List B} (P : List A → List B → List A → List B → Type 0) → IsLent xs read_xs new_xs after_xs → IsLent ys read_ys new_ys after_ys → P read_xs read_ys new_xs new_ys → P xs ys after_xs after_ys
through {xs = xs} {read_xs = read_xs} {new_xs = new_xs} {after_xs = after_xs} {ys = ys} {read_ys = read_ys} {new_ys = new_ys} P a b p =
    subst (λ k. P xs ys after_xs k) (sym b.is)
    (subst (λ k. P xs ys k new_ys) (sym a.is) (subst (λ k. P xs k new_xs new_ys) b.was (subst (λ k. P k read_ys new_xs new_ys) a.was p)))

pub IsArena-from_wired : (lists : Lists) (darts : List DartRecord) (vertices : List VertexRecord) (edges free spare : ℕ) → IsWired lists darts vertices free spare → edges ≡ edge_count lists → length darts ≡ 2 * (edges + spare) → edges + spare ≤ 16777216 → IsArena (arena_lists darts vertices) darts vertices edges free spare
IsArena-from_wired lists darts vertices edges free spare w e count room =
    subst (λ ls. IsArena ls darts vertices edges free spare) (sym (arena_lists_are lists darts vertices w.linked))
    (record { linked = w.linked; simple = w.simple; few_vertices = w.few_vertices; paired = w.paired; edges_are = e; count = count; room = room; threaded = w.threaded })

-- there are fewer than 2 ^ 23 edges
pub few_edges : (darts : List DartRecord) (vertices : List VertexRecord) (edges free spare : ℕ) → IsArena (arena_lists darts vertices) darts vertices edges free spare → edges < 8388608
few_edges darts vertices edges free spare a =
    omega (arith, a.edges_are, dart_count-edge_count (arena_lists darts vertices) a.simple, few_darts-simple (arena_lists darts vertices) a.few_vertices a.simple)

module _ (darts : List DartRecord) (vertices : List VertexRecord) (edges free spare : ℕ) (a : IsArena (arena_lists darts vertices) darts vertices edges free spare) {k : AreMapFacts (arena_lists darts vertices) spare (arena_ids darts)} (map : Map) (view : arena_map darts vertices spare k ≡ map) where
  -- an id's dart, in the records
  pub ends_are : (d u v : ℕ) → dart_at map d ≡ Some (u, v) → IsDartAt darts d u v
  ends_are d u v e = IsDartAt-from darts d u v (sym (dart_at-in darts vertices edges free spare a map view d) ∙ e)

  -- an id keeps its dart where its record does
  pub ids_kept : (new : List DartRecord) (after : List VertexRecord) (left : ℕ) (e v u : ℕ) → (dart_in darts e ≡ Some (v, u) → dart_in new e ≡ Some (v, u)) → dart_at map e ≡ Some (v, u) → get_or (arena_ids new) e None ≡ Some (v, u)
  ids_kept new after left e v u kept some = dart_at-arena new after left e ∙ kept (sym (dart_at-in darts vertices edges free spare a map view e) ∙ some)

  -- the lists of a map are those of the arena
  pub of_lists : {A : Type 0} (f : Lists → A) → f (arena_lists darts vertices) ≡ f map.lists
  of_lists f = ap f (sym (same_lists darts vertices edges free spare a map view))

  -- a corner names the same in the records
  corner_here : (c : Corner) → IsCorner map c → IsCornerIn (arena_lists darts vertices) darts c
  corner_here (After e) live = live_here darts vertices edges free spare a map view e.0 live
  corner_here (Only v) corner = subst (λ (ls : Lists). (v.0 < length ls) × (list_of ls v.0 ≡ [])) (same_lists darts vertices edges free spare a map view) corner

  -- and has its place there
  place_here : (c : Corner) → IsCorner map c → corner_place map c ≡ Some (corner_tail darts c, corner_entry darts c)
  place_here (After e) live = ap (λ o. option_map (λ (dart : Dart). (dart.0, Some dart.1)) o) (dart_here darts vertices edges free spare a map view e.0 live)
  place_here (Only v) corner = refl

  pub place_is : (c : Corner) → IsCorner map c → (u : ℕ) (b : Option ℕ) → corner_place map c ≡ Some (u, b) → (corner_tail darts c ≡ u) × (corner_entry darts c ≡ b)
  place_is c corner u b e = some_pair_parts (corner_tail darts c) u (corner_entry darts c) b (sym (place_here c corner) ∙ e)

  -- two corners for an edge name in the records what they name in the map
  pub corners_here : (c e : Corner) → IsCorner map c → IsCorner map e → ((u v : ℕ) (a b : Option ℕ) → corner_place map c ≡ Some (u, a) → corner_place map e ≡ Some (v, b) → u ≢ v) → ((u v : ℕ) (a b : Option ℕ) → corner_place map c ≡ Some (u, a) → corner_place map e ≡ Some (v, b) → ¬ HasDart map.lists u v) → AreCornersIn (arena_lists darts vertices) darts c e
  corners_here c e at_c at_e two fresh = grind (arith, corner_here, place_here, Lists, HasDart, corner_tail, of_lists)

  module _ (d : ℕ) (live : IsLive map d) where
    is_edge : HasDart (arena_lists darts vertices) (tail_of darts d) (head_of darts d)
    is_edge = a.linked.is_dart d (tail_of darts d) (head_of darts d) (dart_in-live darts d (live_here darts vertices edges free spare a map view d live))

    pub edges_fall : edges ≡ edge_count (without_edge (arena_lists darts vertices) (tail_of darts d) (head_of darts d)) + 1
    edges_fall = a.edges_are ∙ edge_count-without (arena_lists darts vertices) a.simple (tail_of darts d) (head_of darts d) is_edge

    pub arena_less : (new : List DartRecord) (shrunk : List VertexRecord) → IsWired (without_edge (arena_lists darts vertices) (tail_of darts d) (head_of darts d)) new shrunk d (spare + 1) → length new ≡ length darts → IsArena (arena_lists new shrunk) new shrunk (edges - 1) d (spare + 1)
    arena_less new shrunk w count =
        IsArena-from_wired (without_edge (arena_lists darts vertices) (tail_of darts d) (head_of darts d)) new shrunk (edges - 1) d (spare + 1) w
        (omega (arith, edges_fall)) (omega (arith, count, a.count, edges_fall)) (omega (arith, a.room, edges_fall))

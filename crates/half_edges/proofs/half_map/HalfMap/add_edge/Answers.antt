use Rattle.std.specs.Prelude.{None, slice_index_or}
use Rattle.std.proofs.Common.{◌≡◌, ◌+◌, ◌-◌, ◌++◌, Some, List, length, take, drop, refl, sym, ap, ap₂, is_some, ◌∙◌, subst, arith}
use Rattle.map_lists.specs.Lists.{Lists}
use Rattle.half_edges.specs.Map.{Map, dart_at}
use Rattle.half_edges.specs.Arena.{arena_ids, arena_lists, arena_map, dart_in, next_of, IsArena, IsWired}
use Rattle.half_edges.specs.Edges.{with_edge, corner_tail, corner_entry}
use Rattle.half_edges.specs.declared.dart_records.DartRecord.{DartRecord}
use Rattle.half_edges.specs.declared.dart_records.VertexRecord.{VertexRecord}
use Rattle.half_edges.proofs.ArenaLemmas.{known_here, known, dart_at-arena, arena_lists_are}
use Rattle.half_edges.proofs.FreeLemmas.{IsWired-arena}
use Rattle.half_edges.proofs.EdgeLemmas.{IsLent, lent, through, ids_kept, of_lists, corners_here, place_is}
use Rattle.half_edges.proofs.GivenLemmas.{arena_more}
use Rattle.half_edges.proofs.half_map.HalfMap.add_edge.Goals as goal
use Rattle.half_edges.proofs.half_map.HalfMap.add_edge.Goals.{After-put_edge}

pub first_free_behind-next-requires : goal.first_free_behind-next-requires
first_free_behind-next-requires c =
    let ds = c.deref.ensures.value in
    record { threaded = rw ds c.self.invariant.threaded; some = omega (arith, c.requires.spare, ap (λ (m : Map). m.spare) c.self.view_is) }

pub put_edge-requires : goal.put_edge-requires
put_edge-requires c =
    let ds = c.deref_mut.ensures.value in
    let vs = c.deref_mut-2.ensures.value in
    record {
      wired = rw (ds, vs) (IsWired-arena _ _ _ _ _ _ c.self.invariant);
      some = omega (arith, c.requires.spare, ap (λ (m : Map). m.spare) c.self.view_is);
      corners = rw (ds, vs) (corners_here _ _ _ _ _ c.self.invariant c.args.self.now c.self.view_is c.args.at_u c.args.at_v c.requires.corner_u c.requires.corner_v c.requires.two_vertices c.requires.not_adjacent);
    }

-- the records afterwards
abbrev darts_after : After-put_edge → List DartRecord
darts_after c = take c.self.inside.darts.len (c.put_edge.new.darts ++ drop (length c.put_edge.new.darts) c.self.inside.darts.items)

abbrev vertices_after : After-put_edge → List VertexRecord
vertices_after c = take c.self.inside.vertices.len (c.put_edge.new.vertices ++ drop (length c.put_edge.new.vertices) c.self.inside.vertices.items)

lent_darts : (c : After-put_edge) → IsLent c.self.inside.darts.items c.deref_mut.result.now c.put_edge.new.darts (darts_after c)
lent_darts c = lent c.self.inside.darts.items c.deref_mut.result.now c.put_edge.new.darts c.self.inside.darts.len c.deref_mut.ensures.value c.put_edge.auto.darts (omega (arith, c.self.inside.darts.ok.0))

lent_vertices : (c : After-put_edge) → IsLent c.self.inside.vertices.items c.deref_mut-2.result.now c.put_edge.new.vertices (vertices_after c)
lent_vertices c = lent c.self.inside.vertices.items c.deref_mut-2.result.now c.put_edge.new.vertices c.self.inside.vertices.len c.deref_mut-2.ensures.value c.put_edge.auto.vertices (omega (arith, c.self.inside.vertices.ok.0))

-- the lists afterwards, of the records before
abbrev joined : After-put_edge → List DartRecord → List VertexRecord → Lists
joined c ds vs = with_edge (arena_lists ds vs) (corner_tail ds c.args.at_u) (corner_entry ds c.args.at_u) (corner_tail ds c.args.at_v) (corner_entry ds c.args.at_v)

wired_after : (c : After-put_edge) → IsWired (joined c c.self.inside.darts.items c.self.inside.vertices.items) (darts_after c) (vertices_after c) c.first_free_behind-next.result (c.self.inside.spare - 1)
wired_after c =
    subst (λ n. IsWired (joined c c.self.inside.darts.items c.self.inside.vertices.items) (darts_after c) (vertices_after c) n (c.self.inside.spare - 1))
    (sym (c.first_free_behind-next.ensures ∙ ap (λ ds. next_of ds c.self.inside.free) c.deref.ensures.value))
    (through (λ ds vs nds nvs. IsWired (joined c ds vs) nds nvs (next_of ds c.self.inside.free) (c.self.inside.spare - 1)) (lent_darts c) (lent_vertices c) c.put_edge.ensures.wired)

arena_after : (c : After-put_edge) → IsArena (arena_lists (darts_after c) (vertices_after c)) (darts_after c) (vertices_after c) (c.self.inside.edges + 1) c.first_free_behind-next.result (c.self.inside.spare - 1)
arena_after c =
    arena_more _ _ _ _ _ (IsWired-arena _ _ _ _ _ _ c.self.invariant) (omega (arith, c.requires.spare, ap (λ (m : Map). m.spare) c.self.view_is)) c.args.at_u c.args.at_v
    (corners_here _ _ _ _ _ c.self.invariant c.args.self.now c.self.view_is c.args.at_u c.args.at_v c.requires.corner_u c.requires.corner_v c.requires.two_vertices c.requires.not_adjacent)
    c.self.inside.edges c.first_free_behind-next.result c.self.invariant.edges_are c.self.invariant.count c.self.invariant.room
    (darts_after c) (vertices_after c) (wired_after c) (ap length (lent_darts c).is ∙ c.put_edge.auto.darts ∙ ap length c.deref_mut.ensures.value)

pub invariant_of-self-inside : goal.invariant_of-self-inside
invariant_of-self-inside c = (known_here _ _ _ _ _ (arena_after ((goal.at.invariant_of-self-inside c).After-put_edge)), tt)

pub invariant_of-self : goal.invariant_of-self
invariant_of-self c = arena_after ((goal.at.invariant_of-self c).After-put_edge)

pub returns-clause-lists : goal.returns-clause-lists
returns-clause-lists c u v a b at_u at_v =
    let w = (goal.at.returns-clause-lists c).After-put_edge in
    let pu = place_is _ _ _ _ _ c.self.invariant c.args.self.now c.self.view_is c.args.at_u c.requires.corner_u u a at_u in
    let pv = place_is _ _ _ _ _ c.self.invariant c.args.self.now c.self.view_is c.args.at_v c.requires.corner_v v b at_v in
    let ls = arena_lists c.self.inside.darts.items c.self.inside.vertices.items in
    arena_lists_are _ (darts_after w) (vertices_after w) (wired_after w).linked
    ∙ ap₂ (λ x o. with_edge ls x o (corner_tail c.self.inside.darts.items c.args.at_v) (corner_entry c.self.inside.darts.items c.args.at_v)) pu.0 pu.1
    ∙ ap₂ (λ y o. with_edge ls u a y o) pv.0 pv.1
    ∙ of_lists _ _ _ _ _ c.self.invariant c.args.self.now c.self.view_is (λ lists. with_edge lists u a v b)

pub returns-clause-spare : goal.returns-clause-spare
returns-clause-spare c =
    let e : c.self.inside.spare ≡ c.args.self.now.spare = ap (λ (m : Map). m.spare) c.self.view_is in
    omega (arith, e, c.requires.spare)

-- the new dart, in the records before
dart_after : (c : After-put_edge) → slice_index_or (arena_ids (darts_after c)) c.self.inside.free None ≡ Some (corner_tail c.self.inside.darts.items c.args.at_u, corner_tail c.self.inside.darts.items c.args.at_v)
dart_after c =
    dart_at-arena (darts_after c) (vertices_after c) (c.self.inside.spare - 1) c.self.inside.free
    ∙ through (λ ds _ nds _. dart_in nds c.self.inside.free ≡ Some (corner_tail ds c.args.at_u, corner_tail ds c.args.at_v)) (lent_darts c) (lent_vertices c) c.put_edge.ensures.dart

pub returns-clause-dart : goal.returns-clause-dart
returns-clause-dart c u v a b at_u at_v =
    let pu = place_is _ _ _ _ _ c.self.invariant c.args.self.now c.self.view_is c.args.at_u c.requires.corner_u u a at_u in
    let pv = place_is _ _ _ _ _ c.self.invariant c.args.self.now c.self.view_is c.args.at_v c.requires.corner_v v b at_v in
    dart_after ((goal.at.returns-clause-dart c).After-put_edge) ∙ ap₂ (λ x y. Some (x, y)) pu.0 pv.0

pub returns-clause-live : goal.returns-clause-live
returns-clause-live c = ap (λ o. is_some o) (dart_after ((goal.at.returns-clause-live c).After-put_edge))

pub returns-clause-ids : goal.returns-clause-ids
returns-clause-ids c e v u =
    let w = (goal.at.returns-clause-ids c).After-put_edge in
    ids_kept _ _ _ _ _ c.self.invariant c.args.self.now c.self.view_is (darts_after w) (vertices_after w) (c.self.inside.spare - 1) e v u
    (through (λ ds _ nds _. dart_in ds e ≡ Some (v, u) → dart_in nds e ≡ Some (v, u)) (lent_darts w) (lent_vertices w) (c.put_edge.ensures.ids e v u))

pub returns-clause-known : goal.returns-clause-known
returns-clause-known c = known_here _ _ _ _ _ (arena_after ((goal.at.returns-clause-known c).After-put_edge))

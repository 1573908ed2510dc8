use Rattle.std.proofs.Common.{◌≡◌, ◌+◌, ◌-◌, ◌++◌, ℕ, Some, List, length, take, drop, refl, ap, ap₂, ◌∙◌, subst, arith}
use Rattle.std.specs.Prelude.{min, max}
use Rattle.map_lists.specs.Lists.{Lists}
use Rattle.map_theory.specs.Maps.{HasDart}
use Rattle.map_theory.specs.Edges.{without_edge}
use Rattle.half_edges.specs.Map.{Map, dart_at}
use Rattle.half_edges.specs.Arena.{arena_lists, dart_in, tail_of, head_of, live_of, IsArena, IsWired}
use Rattle.half_edges.specs.declared.dart_records.DartRecord.{DartRecord}
use Rattle.half_edges.specs.declared.dart_records.VertexRecord.{VertexRecord}
use Rattle.half_edges.proofs.ArenaLemmas.{known_here, arena_lists_are, known, live_here, IsDartAt}
use Rattle.half_edges.proofs.FreeLemmas.{IsWired-arena}
use Rattle.half_edges.proofs.EdgeLemmas.{IsLent, lent, through, ends_are, ids_kept, of_lists, edges_fall, arena_less}
use Rattle.half_edges.proofs.half_map.HalfMap.remove_edge.Goals as goal
use Rattle.half_edges.proofs.half_map.HalfMap.remove_edge.Goals.{After-take_edge-ends}

pub take_edge-ends-requires : goal.take_edge-ends-requires
take_edge-ends-requires c =
    let ds = c.deref_mut.ensures.value in
    let vs = c.deref_mut-2.ensures.value in
    record {
      wired = rw (ds, vs) (IsWired-arena _ _ _ _ _ _ c.self.invariant);
      live = ap (λ (x : List DartRecord). live_of x c.args.d.0) ds ∙ live_here _ _ _ _ _ c.self.invariant c.args.self.now c.self.view_is c.args.d.0 c.requires;
    }

-- the records afterwards
abbrev darts_after : After-take_edge-ends → List DartRecord
darts_after c = take c.self.inside.darts.len (c.take_edge-ends.new.darts ++ drop (length c.take_edge-ends.new.darts) c.self.inside.darts.items)

abbrev vertices_after : After-take_edge-ends → List VertexRecord
vertices_after c = take c.self.inside.vertices.len (c.take_edge-ends.new.vertices ++ drop (length c.take_edge-ends.new.vertices) c.self.inside.vertices.items)

lent_darts : (c : After-take_edge-ends) → IsLent c.self.inside.darts.items c.deref_mut.result.now c.take_edge-ends.new.darts (darts_after c)
lent_darts c = lent c.self.inside.darts.items c.deref_mut.result.now c.take_edge-ends.new.darts c.self.inside.darts.len c.deref_mut.ensures.value c.take_edge-ends.auto.darts (omega (arith, c.self.inside.darts.ok.0))

lent_vertices : (c : After-take_edge-ends) → IsLent c.self.inside.vertices.items c.deref_mut-2.result.now c.take_edge-ends.new.vertices (vertices_after c)
lent_vertices c = lent c.self.inside.vertices.items c.deref_mut-2.result.now c.take_edge-ends.new.vertices c.self.inside.vertices.len c.deref_mut-2.ensures.value c.take_edge-ends.auto.vertices (omega (arith, c.self.inside.vertices.ok.0))

-- the lists afterwards, of the records before
abbrev left : List DartRecord → List VertexRecord → ℕ → Lists
left ds vs d = without_edge (arena_lists ds vs) (tail_of ds d) (head_of ds d)

wired_after : (c : After-take_edge-ends) → IsWired (left c.self.inside.darts.items c.self.inside.vertices.items c.args.d.0) (darts_after c) (vertices_after c) c.args.d.0 (c.self.inside.spare + 1)
wired_after c = through (λ ds vs nds nvs. IsWired (left ds vs c.args.d.0) nds nvs c.args.d.0 (c.self.inside.spare + 1)) (lent_darts c) (lent_vertices c) c.take_edge-ends.ensures.wired

ids_after : (c : After-take_edge-ends) (e v u : ℕ) → HasDart (left c.self.inside.darts.items c.self.inside.vertices.items c.args.d.0) v u → dart_in c.self.inside.darts.items e ≡ Some (v, u) → dart_in (darts_after c) e ≡ Some (v, u)
ids_after c = through (λ ds vs nds _. (e v u : ℕ) → HasDart (left ds vs c.args.d.0) v u → dart_in ds e ≡ Some (v, u) → dart_in nds e ≡ Some (v, u)) (lent_darts c) (lent_vertices c) c.take_edge-ends.ensures.ids

arena_after : (c : After-take_edge-ends) → IsArena (arena_lists (darts_after c) (vertices_after c)) (darts_after c) (vertices_after c) (c.self.inside.edges - 1) c.args.d.0 (c.self.inside.spare + 1)
arena_after c =
    arena_less _ _ _ _ _ c.self.invariant c.args.self.now c.self.view_is c.args.d.0 c.requires (darts_after c) (vertices_after c) (wired_after c)
    (ap length (lent_darts c).is ∙ c.take_edge-ends.auto.darts ∙ ap length c.deref_mut.ensures.value)

pub invariant_of-self-inside : goal.invariant_of-self-inside
invariant_of-self-inside c = (known_here _ _ _ _ _ (arena_after ((goal.at.invariant_of-self-inside c).After-take_edge-ends)), tt)

pub invariant_of-self : goal.invariant_of-self
invariant_of-self c = arena_after ((goal.at.invariant_of-self c).After-take_edge-ends)

pub returns-clause-lists : goal.returns-clause-lists
returns-clause-lists c u v some =
    let a = (goal.at.returns-clause-lists c).After-take_edge-ends in
    let at = ends_are _ _ _ _ _ c.self.invariant c.args.self.now c.self.view_is c.args.d.0 u v some in
    arena_lists_are _ (darts_after a) (vertices_after a) (wired_after a).linked
    ∙ ap₂ (λ x y. without_edge (arena_lists c.self.inside.darts.items c.self.inside.vertices.items) x y) at.tail at.head
    ∙ of_lists _ _ _ _ _ c.self.invariant c.args.self.now c.self.view_is (λ ls. without_edge ls u v)

pub returns-clause-spare : goal.returns-clause-spare
returns-clause-spare c = ap (λ (m : Map). m.spare + 1) c.self.view_is

pub returns-clause-ids : goal.returns-clause-ids
returns-clause-ids c e v u has some =
    let a = (goal.at.returns-clause-ids c).After-take_edge-ends in
    ids_kept _ _ _ _ _ c.self.invariant c.args.self.now c.self.view_is (darts_after a) (vertices_after a) (c.self.inside.spare + 1) e v u
    (ids_after a e v u (subst (λ (ls : Lists). HasDart ls v u) (arena_lists_are _ (darts_after a) (vertices_after a) (wired_after a).linked) has)) some

-- the ends of an id's dart, as they were lent
ends_lent : (c : After-take_edge-ends) (u v : ℕ) → dart_at c.args.self.now c.args.d.0 ≡ Some (u, v) → IsDartAt c.deref_mut.result.now c.args.d.0 u v
ends_lent c u v some = rw c.deref_mut.ensures.value (ends_are _ _ _ _ _ c.self.invariant c.args.self.now c.self.view_is c.args.d.0 u v some)

pub returns-clause-lesser : goal.returns-clause-lesser
returns-clause-lesser c u v some =
    let at = ends_lent ((goal.at.returns-clause-lesser c).After-take_edge-ends) u v some in
    c.take_edge-ends.ensures.lesser ∙ ap₂ min at.tail at.head

pub returns-clause-greater : goal.returns-clause-greater
returns-clause-greater c u v some =
    let at = ends_lent ((goal.at.returns-clause-greater c).After-take_edge-ends) u v some in
    c.take_edge-ends.ensures.greater ∙ ap₂ max at.tail at.head

pub returns-clause-known : goal.returns-clause-known
returns-clause-known c = known_here _ _ _ _ _ (arena_after ((goal.at.returns-clause-known c).After-take_edge-ends))

pub overflow_sub-self : goal.overflow_sub-self
overflow_sub-self c = omega (arith, edges_fall _ _ _ _ _ c.self.invariant c.args.self.now c.self.view_is c.args.d.0 c.requires)

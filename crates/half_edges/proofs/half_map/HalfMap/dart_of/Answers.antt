use Rattle.std.proofs.Common.{◌≡◌, ◌<◌, ℕ, List, subst}
use Rattle.std.proofs.lemmas.List.{get_or_read}
use Rattle.half_edges.specs.Arena.{no_vertex, vertex_at, steps, head_of}
use Rattle.half_edges.specs.declared.dart_records.DartRecord.{DartRecord}
use Rattle.half_edges.specs.declared.dart_records.VertexRecord.{VertexRecord}
use Rattle.half_edges.proofs.ArenaLemmas.{walkable, walkable_read, vertex_in, no_dart, dart_to_here}
use Rattle.half_edges.proofs.half_map.HalfMap.dart_of.Goals as goal
use Rattle.half_edges.proofs.half_map.HalfMap.dart_of.Goals.{After-dart_to}

vertex_is : (c : After-dart_to) → c.index-vertex.result.now ≡ vertex_at c.self.inside.vertices.items c.args.u.0
vertex_is c =
    get_or_read c.self.inside.vertices.items c.args.u.0 c.index-vertex.result.now
    (vertex_in _ _ _ _ _ c.self.invariant c.args.self.now c.self.view_is c.args.u.0 c.requires.u_in) c.index-vertex.ensures no_vertex

pub dart_to-requires : goal.dart_to-requires
dart_to-requires c =
    walkable_read c.self.inside.darts.items _ (vertex_at c.self.inside.vertices.items c.args.u.0) c.index-vertex.result.now c.deref.ensures.value
    (get_or_read c.self.inside.vertices.items c.args.u.0 c.index-vertex.result.now
    (vertex_in _ _ _ _ _ c.self.invariant c.args.self.now c.self.view_is c.args.u.0 c.requires.u_in) c.index-vertex.ensures no_vertex)
    (walkable _ _ _ _ _ c.self.invariant c.args.self.now c.self.view_is c.args.u.0 c.requires.u_in)

pub returns-in-Some : goal.returns-in-Some
returns-in-Some c =
    let vertex = vertex_is ((goal.at.returns-in-Some c).After-dart_to) in
    let found = subst (λ (ds : List DartRecord). (k : ℕ) × (k < c.index-vertex.result.now.degree) × (c.in-Some.d ≡ steps ds c.index-vertex.result.now.first k) × (head_of ds c.in-Some.d ≡ c.args.v.0)) c.deref.ensures.value c.in-Some.ensures in
    let here = subst (λ (x : VertexRecord). (k : ℕ) × (k < x.degree) × (c.in-Some.d ≡ steps c.self.inside.darts.items x.first k) × (head_of c.self.inside.darts.items c.in-Some.d ≡ c.args.v.0)) vertex found in
    dart_to_here _ _ _ _ _ c.self.invariant c.args.self.now c.self.view_is c.args.u.0 c.args.v.0 here.0 c.in-Some.d c.requires.u_in here.1 here.2 here.3

pub returns-in-None : goal.returns-in-None
returns-in-None c =
    let vertex = vertex_is ((goal.at.returns-in-None c).After-dart_to) in
    let none = subst (λ (ds : List DartRecord). (k : ℕ) → k < c.index-vertex.result.now.degree → head_of ds (steps ds c.index-vertex.result.now.first k) ≡ c.args.v.0 → ⊥) c.deref.ensures.value c.in-None.ensures in
    let here = subst (λ (x : VertexRecord). (k : ℕ) → k < x.degree → head_of c.self.inside.darts.items (steps c.self.inside.darts.items x.first k) ≡ c.args.v.0 → ⊥) vertex none in
    no_dart _ _ _ _ _ c.self.invariant c.args.self.now c.self.view_is c.args.u.0 c.args.v.0 c.requires.u_in here

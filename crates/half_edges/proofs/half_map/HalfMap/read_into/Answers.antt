use Rattle.std.proofs.Common.{◌<◌, length, ap, ◌∙◌, arith}
use Rattle.std.proofs.lemmas.List.{length_push, take_all}
use Rattle.map_lists.proofs.CutLemmas.{IsStored-cut, IsStored-cuts, length-cut}
use Rattle.half_edges.specs.Arena.{vertex_at, arena_lists}
use Rattle.half_edges.proofs.ArenaLemmas.{IsStored-walk, walk_met, walk_room, walkable_here, walkable_read}
use Rattle.half_edges.proofs.half_map.HalfMap.read_into.Goals as goal

pub push_heads-requires-clause-room : goal.push_heads-requires-clause-room
push_heads-requires-clause-room c =
    let v = c.loop-vertex.vertex-index in
    let vertices = c.self.inside.vertices.items in
    let same = c.deref-vertex-items.ensures.value in
    let l : v < length vertices = omega (arith, c.loop-vertex-test.true, c.deref-vertex-items.ensures.len, ap length same) in
    let i = c.loop-vertex.invariant in
    omega (arith, walk_room c.self.inside.darts.items vertices _ _ _ _ v _ _ c.self.invariant same l i.met i.space, c.loop-vertex.entries.ok.0)

pub push_heads-requires-clause-walkable : goal.push_heads-requires-clause-walkable
push_heads-requires-clause-walkable c =
    let v = c.loop-vertex.vertex-index in
    let vertices = c.self.inside.vertices.items in
    let l : v < length vertices = omega (arith, c.loop-vertex-test.true, c.deref-vertex-items.ensures.len, ap length c.deref-vertex-items.ensures.value) in
    walkable_read c.self.inside.darts.items _ (vertex_at vertices v) _ c.deref.ensures.value
    (ap (λ vs. vertex_at vs v) c.deref-vertex-items.ensures.value)
    (walkable_here _ _ _ _ _ c.self.invariant v l)

pub loop-vertex-preserved : goal.loop-vertex-preserved
loop-vertex-preserved c =
    let v = c.loop-vertex.vertex-index in
    let vertices = c.self.inside.vertices.items in
    let same = c.deref-vertex-items.ensures.value in
    let l : v < length vertices = omega (arith, c.loop-vertex-test.true, c.deref-vertex-items.ensures.len, ap length same) in
    let i = c.loop-vertex.invariant in
    record {
      stored = IsStored-walk c.self.inside.darts.items _ vertices _ v _ _ _ _ _ c.deref.ensures.value same l i.stored
          c.push_heads.ensures.heads c.push_reserved.ensures.items (omega (arith, c.len-in-loop-vertex.ensures, c.push_heads.new.entries.ok.0));
      met = walk_met c.self.inside.darts.items _ vertices _ _ _ _ v _ _ c.self.invariant c.deref.ensures.value same l i.met c.push_heads.ensures.heads;
      space = omega (arith, i.space, c.push_heads.ensures.capacity);
      count = ap length c.push_reserved.ensures.items ∙ omega (arith, length_push c.loop-vertex.ends.items (c.len-in-loop-vertex.result), i.count);
      room = omega (arith, i.room, c.push_reserved.ensures.capacity);
    }

pub push_reserved-requires : goal.push_reserved-requires
push_reserved-requires c =
    let vertices = c.self.inside.vertices.items in
    let same = c.deref-vertex-items.ensures.value in
    let l : c.loop-vertex.vertex-index < length vertices = omega (arith, c.loop-vertex-test.true, c.deref-vertex-items.ensures.len, ap length same) in
    let i = c.loop-vertex.invariant in
    omega (arith, l, i.count, i.room, c.loop-vertex.ends.ok.0, c.self.inside.vertices.ok.0)

pub from_parts-requires : goal.from_parts-requires
from_parts-requires c =
    let vertices = c.self.inside.vertices.items in
    let ends = c.loop-vertex.ends.items in
    let entries = c.loop-vertex.entries.items in
    let all = take_all c.loop-vertex.vertex-index vertices (omega (arith, c.loop-vertex-test.false, c.deref-vertex-items.ensures.len, ap length c.deref-vertex-items.ensures.value)) in
    record {
      cuts = IsStored-cuts _ _ _ c.loop-vertex.invariant.stored;
      few = omega (arith, length-cut 0 ends entries, ap length (IsStored-cut _ _ _ c.loop-vertex.invariant.stored ∙ ap (λ vs. arena_lists c.self.inside.darts.items vs) all), c.self.invariant.few_vertices);
    }

pub returns : goal.returns
returns c =
    let vertices = c.self.inside.vertices.items in
    c.from_parts.ensures ∙ IsStored-cut _ _ _ c.loop-vertex.invariant.stored
    ∙ ap (λ vs. arena_lists c.self.inside.darts.items vs) (take_all c.loop-vertex.vertex-index vertices (omega (arith, c.loop-vertex-test.false, c.deref-vertex-items.ensures.len, ap length c.deref-vertex-items.ensures.value)))
    ∙ ap (λ m. m.lists) c.self.view_is

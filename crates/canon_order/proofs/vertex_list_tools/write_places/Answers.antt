use Rattle.std.proofs.Common.{◌≡◌, ◌<◌, ◌+◌, ℕ, map, get_or, set, subst, arith}
use Rattle.std.proofs.Math.ListN.{get_or-map}
use Rattle.std.proofs.lemmas.List.{length-map}
use Rattle.map_lists.specs.declared.ids.VertexId.{VertexId}
use Rattle.canon_order.proofs.Counters.{places_more}
use Rattle.canon_order.proofs.vertex_list_tools.write_places.Goals as goal

pub bounds-ranks-v : goal.bounds-ranks-v
bounds-ranks-v c =
    let at = c.args.at.now in
    let i = c.loop-i.i in
    let all = length-map at (λ (v : VertexId). v.0) in
    let is = get_or-map (λ (v : VertexId). v.0) at i (record { 0 = 0 }) in
    let test = c.loop-i-test.true in
    let within = c.requires.within i 0 (omega arith) in
    omega (arith, c.requires.count, c.loop-i.auto.ranks)

pub loop-i-preserved : goal.loop-i-preserved
loop-i-preserved c =
    let at = c.args.at.now in
    let i = c.loop-i.i in
    let us = map (λ (v : VertexId). v.0) at in
    let all = length-map at (λ (v : VertexId). v.0) in
    let is = get_or-map (λ (v : VertexId). v.0) at i (record { 0 = 0 }) in
    let test = c.loop-i-test.true in
    let within = c.requires.within i 0 (omega arith) in
    subst (λ (x : ℕ). (k : ℕ) → k < i + 1 → get_or (set c.loop-i.ranks x i) (get_or us k 0) 0 ≡ k) is
    (places_more c.loop-i.ranks us i (omega arith) (omega (arith, c.requires.count, c.loop-i.auto.ranks)) c.requires.distinct c.loop-i.invariant)

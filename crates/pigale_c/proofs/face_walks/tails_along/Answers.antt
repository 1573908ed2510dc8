-- A tail more.
use Rattle.std.proofs.Common.{◌<◌, ℕ, length, ap, ◌∙◌, subst, arith}
use Rattle.std.proofs.lemmas.List.{get_or-map, length-map}
use Rattle.map_lists.specs.declared.ids.DartId.{DartId}
use Rattle.half_edges.specs.Map.{IsLive, dart_at}
use Rattle.euler_faces.specs.FaceWalks.{ids_of}
use Rattle.pigale_c.proofs.WalkLemmas.{by_tail, more_tails}
use Rattle.pigale_c.proofs.face_walks.tails_along.Goals as goal

pub tail-requires : goal.tail-requires
tail-requires c =
    subst (λ (d : ℕ). IsLive c.args.map.now d) (get_or-map (λ (d : DartId). d.0) c.args.walk.now c.loop-d.d-index (record { 0 = 0 }) 0 c.loop-d-test.true)
    (c.requires c.loop-d.d-index c.loop-d-test.true)

pub loop-d-preserved : goal.loop-d-preserved
loop-d-preserved c =
    let walk = ids_of c.args.walk.now in
    let inside : c.loop-d.d-index < length walk = omega (arith, c.loop-d-test.true, length-map c.args.walk.now (λ (d : DartId). d.0)) in
    let at = get_or-map (λ (d : DartId). d.0) c.args.walk.now c.loop-d.d-index (record { 0 = 0 }) 0 c.loop-d-test.true in
    let here = by_tail _ c.tail.result.0 c.tail.ensures in
    more_tails c.args.map.now walk c.loop-d.tails.items c.push.new.self.items c.loop-d.d-index c.tail.result.0 c.loop-d.invariant inside
    (here.0, ap (λ (d : ℕ). dart_at c.args.map.now d) at ∙ here.1) c.in_ok-push.ensures.items

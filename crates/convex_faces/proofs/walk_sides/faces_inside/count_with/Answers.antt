use Rattle.std.proofs.Common.{◌∙◌, rules}
use Rattle.convex_laws.specs.Walks.{is_odd_on}
use Rattle.convex_faces.proofs.CountLemmas.{count_is}
use Rattle.convex_faces.proofs.walk_sides.faces_inside.count_with.Goals as goal

pub returns : goal.returns
returns c = λ start v walk e closed marks.
    let map = c.args.map.now in
    let known = c.args.map.now.known in
    count_is map known _ c.in_ok-all.ensures.walks c.requires.plane c.requires.connected start v walk (known.is_dart c.args.base.0 start.0 start.1 e) closed c.mark_reached.new.met
    (c.in_ok-mark_reached.ensures start (is_odd_on walk) e (λ d answer x y at s. search rules ∙ marks d.0 x y at)) c.of_dart.result.0
    (c.of_dart.ensures.face, (c.args.base.0, c.of_dart.ensures.stands, e)) c.counted.result c.counted.ensures

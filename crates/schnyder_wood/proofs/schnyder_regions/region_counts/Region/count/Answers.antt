use Rattle.std.proofs.Common.{◌≡◌, length, ◌∙◌, ap, arith, rules}
use Rattle.classes.specs.Classes.{count_below}
use Rattle.euler_faces.specs.Numbers.{mark_at}
use Rattle.schnyder_wood.proofs.CountLemmas.{count_is}
use Rattle.schnyder_wood.proofs.CrossedEdges.{is_edge_of, are_marked, told_same}
use Rattle.schnyder_wood.proofs.schnyder_regions.region_counts.Region.count.Goals as goal

pub returns : goal.returns
returns c = λ base parent k v start edges vertices.
    let map = c.args.self.now.map.now in
    let path = c.args.self.now.path.now in
    let known = c.args.self.now.map.now.known in
    let reached = are_marked map known path base parent k v c.mark_reached.new.met (known.is_dart c.args.self.now.start.0 base.0 base.1 start) edges
    (c.in_ok-mark_reached.ensures base (is_edge_of path) start (λ d answer x y e s. told_same map path d answer x y e (search rules))) in
    let all : c.loop-u.u ≡ length map.lists = omega (arith, c.loop-u.auto.u-end, c.loop-u-test.false, c.n-u-end.ensures.count) in
    count_is map known base parent k v path c.mark_reached.new.met c.args.inside.now c.mark_tails.new.inside c.mark_boundary.new.inside c.loop-u.count reached vertices c.requires.none c.requires.count c.mark_tails.auto.inside c.mark_tails.ensures c.mark_boundary.ensures
    (c.loop-u.invariant.count ∙ ap (count_below (mark_at c.mark_boundary.new.inside)) all)

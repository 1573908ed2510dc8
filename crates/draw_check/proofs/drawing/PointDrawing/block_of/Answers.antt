use Rattle.std.proofs.Common.{◌≡◌, ◌+◌, take, sym, subst, inl, inr, arith}
use Rattle.std.proofs.lemmas.Bool.{cases_lt}
use Rattle.std.proofs.lemmas.List.{length-take-le}
use Rattle.draw_check.specs.Spans.{IsIn}
use Rattle.draw_check.specs.Stars.{Reaches}
use Rattle.draw_check.proofs.StarLemmas.{few_neighbours, heads_below, reaches_from, reaches_more}
use Rattle.draw_check.proofs.drawing.PointDrawing.block_of.Goals as goal

pub star_heads-count-requires-clause-room : goal.star_heads-count-requires-clause-room
star_heads-count-requires-clause-room c =
    let few = few_neighbours c.args.self.now.map.now.lists c.loop-v.v c.args.self.now.map.now.known.simple c.args.self.now.map.now.known.few_vertices (omega arith) in
    omega arith

pub box_of-star-requires-clause-heads : goal.box_of-star-requires-clause-heads
box_of-star-requires-clause-heads c = λ k d l.
    let heads = take c.star_heads-count.result c.star_heads-count.new.heads in
    let below = heads_below c.args.self.now.map.now.lists c.loop-v.v (c.loop-v.v + 1) heads c.args.self.now.map.now.known.simple c.star_heads-count.ensures.heads k d l in
    let n = c.args.self.now.places.count in
    omega arith

pub loop-v-preserved : goal.loop-v-preserved
loop-v-preserved c =
    let lists = c.args.self.now.map.now.lists in
    let points = c.args.self.now.points.now in
    let heads = take c.star_heads-count.result c.star_heads-count.new.heads in
    let wide = c.joined-span.ensures in
    let star : Reaches lists points c.widened.result c.loop-v.v = reaches_from lists points c.loop-v.v heads c.box_of-star.result c.widened.result c.star_heads-count.ensures.heads
    (λ i l. c.box_of-star.ensures.holds i (omega arith) (omega (arith, l, length-take-le c.star_heads-count.result c.star_heads-count.new.heads c.star_heads-count.ensures.count)))
    (subst (IsIn c.widened.result) c.spot.ensures c.widened.ensures.point) c.widened.ensures.more in
    record {
      range = wide.range;
      reach = λ w late less. elim (cases_lt w c.loop-v.v) [
        | inl before ↦ reaches_more lists points c.loop-v.span c.joined-span.result w wide.first (c.loop-v.invariant.reach w late before)
        | inr more ↦
            (let same : w ≡ c.loop-v.v = omega arith in
            subst (Reaches lists points c.joined-span.result) (sym same) (reaches_more lists points c.widened.result c.joined-span.result c.loop-v.v wide.second star))
      ];
    }

pub returns-clause-reach : goal.returns-clause-reach
returns-clause-reach c = λ w late less. c.loop-v.invariant.reach w late (omega arith)

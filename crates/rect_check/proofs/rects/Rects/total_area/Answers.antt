use Rattle.std.proofs.Common.{arith}
use Rattle.std.proofs.lemmas.Int.{ints}
use Rattle.rect_check.proofs.AreaLemmas.{area_of-more}
use Rattle.rect_check.proofs.rects.Rects.total_area.Goals as goal

pub loop-v-preserved : goal.loop-v-preserved
loop-v-preserved c =
    let total = c.loop-v.invariant.total in let low = c.loop-v.invariant.low in let high = c.loop-v.invariant.high in
    let area = c.area-total.ensures.area in let low' = c.area-total.ensures.low in let high' = c.area-total.ensures.high in
    let more = area_of-more c.args.self.now.fig.now c.loop-v.v in let few = c.args.self.now.map.now.known.few_vertices in
    record {
      total = omega (arith, ints);
      low = omega (arith, ints);
      high = omega (arith, ints);
    }

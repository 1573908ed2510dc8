use Rattle.std.proofs.Common.{ℕ, ◌+◌, ◌*◌, ◌<◌, ◌≤◌, length, arith}
use Rattle.draw_check.specs.Spans.{IsBoxInRange}
use Rattle.draw_check.specs.Stars.{Reaches}
use Rattle.draw_check.specs.declared.bounding_boxes.BoundingBox.{BoundingBox}
use Rattle.draw_check.proofs.StarLemmas.{runs-more}
use Rattle.draw_check.proofs.drawing.PointDrawing.fill_blocks.Goals as goal

pub loop-k-preserved : goal.loop-k-preserved
loop-k-preserved c =
    let lists = c.args.self.now.map.now.lists in
    let blocks = c.loop-k.blocks in
    let k = c.loop-k.k in
    let h = c.loop-k.invariant in
    let Held : ℕ → BoundingBox → Type 0 = λ j span. (v : ℕ) → 16 * j ≤ v → v < 16 * (j + 1) → v < length lists → Reaches lists c.args.self.now.points.now span v in
    record {
      in_range = runs-more blocks k c.block_of.result (λ j span. IsBoxInRange span) (omega arith) c.block_of.ensures.range h.in_range;
      reach = λ j v less. runs-more blocks k c.block_of.result Held (omega arith) (λ u late early within. c.block_of.ensures.reach u late (omega (arith, c.batch_begin.ensures, c.n-n.ensures.count, early, within))) (λ m before u. h.reach m u before) j less v;
    }

pub returns : goal.returns
returns c = record {
  in_range = λ k l. c.loop-k.invariant.in_range k (omega arith);
  reach = λ k v l. c.loop-k.invariant.reach k v (omega arith);
}

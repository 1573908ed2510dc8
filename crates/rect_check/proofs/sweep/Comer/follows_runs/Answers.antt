use Rattle.std.proofs.Common.{length, arith, length-set, ◌<◌, ◌∙◌}
use Rattle.std.proofs.lemmas.Bool.{OnTrue_at}
use Rattle.rect_check.specs.Axes.{sides}
use Rattle.rect_check.proofs.RunLemmas.{set_zero-le}
use Rattle.rect_check.proofs.SweepLemmas.{AreTaken-more}
use Rattle.rect_check.proofs.sweep.Comer.follows_runs.Goals as goal

pub loop-at-smaller : goal.loop-at-smaller
loop-at-smaller c = omega (arith, c.loop-at-test.true, c.if-next-at.false)

pub loop-at-preserved : goal.loop-at-preserved
loop-at-preserved c =
    let a = c.args in let l = c.loop-at in let h = l.invariant in let f = c.follows_entry in
    let follows = OnTrue_at c.if-not-follows_entry.false f.ensures.follow in
    let in_table : l.at < length l.until = omega (arith, c.loop-at-test.true, h.runs, a.self.now.within, c.requires.rows) in
    let ends = h.ends in let size = length-set l.until l.at 0 in
    record {
      size = f.ensures.size ∙ h.size;
      kept = λ v m. f.ensures.kept v (h.kept v m);
      runs = size ∙ h.runs;
      ends = λ s. (let e = set_zero-le l.until l.at in_table s in let g = ends s in omega (arith, e, g, size));
      from = omega (arith, h.from, c.if-next-at.false);
      within = (let g = ends l.at in omega (arith, g, size));
      vertex = c.requires.vertices l.at;
      taken = λ row runs. AreTaken-more a.self.now.axis.map.now.lists (sides a.self.now.axis) a.last.now row a.self.now.low a.self.now.high a.self.now.v.0 l.marks f.new.marks f.ensures.kept l.until l.at l.entry h.from (omega (arith, c.if-next-at.false)) follows c.loop-at-test.true (h.taken row runs);
    }

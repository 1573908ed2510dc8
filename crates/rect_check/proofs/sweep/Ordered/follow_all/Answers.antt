use Rattle.std.proofs.Common.{ℕ, ◌<◌, ◌≤◌, ◌∙◌, length, get_or, refl, arith, rules}
use Rattle.rect_check.specs.Axes.{sides}
use Rattle.rect_check.specs.Loops.{HasReached}
use Rattle.rect_check.proofs.RunLemmas.{AreRuns-opened}
use Rattle.rect_check.proofs.SweepLemmas.{AreLast-put, DoFollow-more, DoFollow-kept, row-le}
use Rattle.rect_check.proofs.sweep.Ordered.follow_all.Goals as goal

pub loop-i-preserved : goal.loop-i-preserved
loop-i-preserved c =
    let axis = c.args.self.now.axis in
    let lists = axis.map.now.lists in
    let order = c.args.self.now.order.now in
    let l = c.loop-i in
    let h = l.invariant in
    let f = c.follows_runs in
    let last = h.last in
    let n = length lists in
    let v = get_or order l.i 0 in
    let low = c.natural-low.result in
    let reached : HasReached lists f.new.marks (sides axis) l.last l.until f.new.until low c.natural-high.result v c.in-Some.reached c.in-Some.rest = rw (c.in-Some.reached-is, c.in-Some.rest-is) at c.in-Some.ensures.follow in
    let taken = reached.taken last.row (AreRuns-opened l.last l.until last.row last.runs low c.if-until-low.false) in
    let before = DoFollow-kept lists l.marks f.new.marks f.ensures.kept (sides axis) order l.i h.follow in
    let lv = c.args.self.now.vertices l.i 0 c.loop-i-test.true in
    let few : (y : ℕ) → y < n → last.row y ≤ n = λ y m. row-le n l.last l.until last.row last.runs last.vertices y (omega (arith, m, h.runs)) in
    let up = reached.order in
    record {
      size = c.put_interval-in-loop-i.ensures.last ∙ (c.put_interval.ensures.last ∙ h.size);
      runs = c.put_interval-in-loop-i.ensures.until ∙ (c.put_interval.ensures.until ∙ (f.ensures.runs ∙ h.runs));
      last =
          AreLast-put lists f.new.marks (sides axis) axis.spans axis.rows order l.i last.row v refl lv few last.each before low c.natural-high.result (search rules) (search rules) (λ y u m less e. taken.follow y u m (omega (arith, less, up)) e)
          l.last c.put_interval.new.last c.put_interval-in-loop-i.new.last l.until f.new.until c.put_interval.new.until c.put_interval-in-loop-i.new.until c.in-Some.reached c.in-Some.rest
          (λ y. c.put_interval-in-loop-i.ensures.entries n y reached.vertex (c.put_interval.ensures.entries n y (omega (arith, lv)) (last.vertices y)))
          up taken c.put_interval.ensures.put c.put_interval-in-loop-i.ensures.put;
      marks = f.ensures.size ∙ h.marks;
      kept = λ u m. f.ensures.kept u (h.kept u m);
      follow = DoFollow-more lists f.new.marks (sides axis) axis.spans axis.rows order l.i last.row v refl lv few last.each before low c.natural-high.result (search rules) (search rules) (λ y u m less e. taken.follow y u m (omega (arith, less, up)) e);
    }

pub returns-clause-follow : goal.returns-clause-follow
returns-clause-follow c = λ j k l m. c.loop-i.invariant.follow j k l (omega (arith, m, c.loop-i-test.false))

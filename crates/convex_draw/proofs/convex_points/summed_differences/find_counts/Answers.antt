use Rattle.std.proofs.Common.{◌∙◌, ℕ, length, subst, sym}
use Rattle.contour_runs.specs.FaceRuns.{stage_after}
use Rattle.convex_counts.specs.Counts.{face_counts}
use Rattle.convex_draw.specs.Runs.{IsCountRun}
use Rattle.convex_draw.specs.Sums.{IsLast}
use Rattle.convex_draw.proofs.Downs.{IsLast-kept, AreDone-walked, all_done}
use Rattle.convex_draw.proofs.convex_points.summed_differences.find_counts.Goals as goal

pub walk-requires : goal.walk-requires
walk-requires c =
    let w = c.requires.run in
    let n : ℕ = length c.args.run.now.rows.now.rows in
    let same = c.put_all-width.auto.spots in
    let last = IsLast-kept w.0 w.1 c.args.run.now.rows.now (length c.args.spots.now) w.2 c.put_all-width.result c.args.run.now.s.0 c.put_all-width.new.spots same w.4 (c.put_all-width.ensures w.0 w.1 w.2 w.3 w.4) in
    record { last = (stage_after w.0 n, face_counts w.0 n, w.1, subst (λ faces. IsLast (stage_after w.0 n) (face_counts w.0 n) w.1 c.put_all-width.new.spots c.args.run.now.s.0 faces c.put_all-width.result) w.5 last) }

pub add_all-requires : goal.add_all-requires
add_all-requires c =
    let w = c.requires.run in
    let n : ℕ = length c.args.run.now.rows.now.rows in
    let same = c.put_all-width.auto.spots in
    let same' = c.walk.auto.spots in
    let kept = c.put_all-width.ensures w.0 w.1 w.2 w.3 w.4 in
    let last = IsLast-kept w.0 w.1 c.args.run.now.rows.now (length c.args.spots.now) w.2 c.put_all-width.result c.args.run.now.s.0 c.put_all-width.new.spots same w.4 kept in
    let walked = c.walk.ensures (stage_after w.0 n) (face_counts w.0 n) w.1 (subst (λ faces. IsLast (stage_after w.0 n) (face_counts w.0 n) w.1 c.put_all-width.new.spots c.args.run.now.s.0 faces c.put_all-width.result) w.5 last) in
    record { run = (w.0, w.1, subst (λ m. IsCountRun w.0 w.1 c.args.run.now.rows.now m) (sym (same' ∙ same)) w.2, AreDone-walked w.0 w.1 c.args.run.now.rows.now (length c.args.spots.now) w.2 c.put_all-width.result c.put_all-width.new.spots c.walk.new.spots same same' kept walked) }

pub returns : goal.returns
returns c = λ steps name h e f made r l.
    let n : ℕ = length c.args.run.now.rows.now.rows in
    let same = c.put_all-width.auto.spots in
    let same' = c.walk.auto.spots in
    let same'' = c.add_all.auto.spots in
    let kept = c.put_all-width.ensures steps name h e f in
    let last = IsLast-kept steps name c.args.run.now.rows.now (length c.args.spots.now) h c.put_all-width.result c.args.run.now.s.0 c.put_all-width.new.spots same f kept in
    let walked = c.walk.ensures (stage_after steps n) (face_counts steps n) name (subst (λ faces. IsLast (stage_after steps n) (face_counts steps n) name c.put_all-width.new.spots c.args.run.now.s.0 faces c.put_all-width.result) made last) in
    let done = AreDone-walked steps name c.args.run.now.rows.now (length c.args.spots.now) h c.put_all-width.result c.put_all-width.new.spots c.walk.new.spots same same' kept walked in
    let all = c.add_all.ensures steps name (subst (λ m. IsCountRun steps name c.args.run.now.rows.now m) (sym (same' ∙ same)) h) done in
    let sum = all_done steps name c.args.run.now.rows.now (length c.args.spots.now) h c.add_all.new.spots (same'' ∙ same' ∙ same) all r l in
    (sum.one, sum.two)

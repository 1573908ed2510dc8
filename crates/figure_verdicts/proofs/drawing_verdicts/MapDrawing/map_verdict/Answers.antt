-- The verdict in the grid of the job.
use Rattle.std.proofs.Common.{◌≡◌, length, sym, rules, w32, FitsSigned}
use Rattle.std.proofs.lemmas.Int.{to_z-of_z}
use Rattle.map_theory.specs.Maps.{face_count}
use Rattle.figure_text.specs.declared.figure.GridJob.TheVariants.{Convex}
use Rattle.figure_verdicts.proofs.VerdictLemmas.{IsFittingVerdict-of}
use Rattle.figure_verdicts.proofs.drawing_verdicts.MapDrawing.map_verdict.Goals as goal

pub returns : goal.returns
returns c =
    let wide : FitsSigned w32 c.width-wide.result = search rules in
    let high : FitsSigned w32 c.height-high.result = search rules in
    let drawn = rw (to_z-of_z w32 c.width-wide.result wide, to_z-of_z w32 c.height-high.result high) at c.in_ok-verdict.ensures in
    let lists = c.args.self.now.map.now.lists in
    let long : length lists ≡ c.from-n.result = search rules in
    let faces : (job : c.args.job ≡ Convex) → face_count lists ≡ c.args.self.now.count.f = λ job. sym c.args.self.now.counted.f in
    IsFittingVerdict-of c.args.job c.args.self.now.map.now.lists c.args.self.now.points.now c.width-wide.result c.height-high.result c.in_ok-verdict.verdict (c.width-wide.ensures lists long faces) (c.height-high.ensures lists long faces) drawn

use Rattle.std.proofs.Common.{◌∙◌, ℕ, length, arith}
use Rattle.std.proofs.lemmas.Result.{IfOk-weaker}
use Rattle.convex_counts.specs.Turns.{well_turned}
use Rattle.convex_counts.proofs.Whole.{touched_turns}
use Rattle.convex_laws.proofs.ConvexWoodsTurned.{faces_made-well_turned}
use Rattle.convex_draw.proofs.Listed.{IsCountRun-listed, small_counts, ArePointsOf-placed}
use Rattle.convex_draw.proofs.convex_points.point_calls.run_points.Goals as goal

pub find_counts-requires : goal.find_counts-requires
find_counts-requires c =
    let w = c.requires.run in
    let h = w.2 in
    let n : ℕ = length c.args.run.now.rows.now.rows in
    let whole = touched_turns w.0 n h.touched in
    let run = IsCountRun-listed w.0 w.1 c.args.run.now.rows.now c.args.run.now.d.0 c.args.run.now.s.0 (length c.args.spots.now) c.args.run.now.faces h whole c.args.run.now.few c.requires.small in
    record { run = (well_turned w.0, w.1, run, h.first, h.second, faces_made-well_turned w.0 n ∙ h.made) }

pub points_of-requires : goal.points_of-requires
points_of-requires c =
    let w = c.requires.run in
    let h = w.2 in
    let n : ℕ = length c.args.run.now.rows.now.rows in
    let whole = touched_turns w.0 n h.touched in
    let run = IsCountRun-listed w.0 w.1 c.args.run.now.rows.now c.args.run.now.d.0 c.args.run.now.s.0 (length c.args.spots.now) c.args.run.now.faces h whole c.args.run.now.few c.requires.small in
    let same = c.find_counts.auto.spots in
    record { small = λ u l. small_counts (well_turned w.0) w.1 c.args.run.now.rows.now (length c.args.spots.now) c.find_counts.new.spots run (c.find_counts.ensures (well_turned w.0) w.1 run h.first h.second (faces_made-well_turned w.0 n ∙ h.made)) u (omega arith) }

pub returns : goal.returns
returns c =
    let n : ℕ = length c.args.run.now.rows.now.rows in
    let same = c.find_counts.auto.spots in
    IfOk-weaker c.points_of.result _ _
    (λ points placed steps at h.
    let whole = touched_turns steps n h.touched in
    let run = IsCountRun-listed steps at c.args.run.now.rows.now c.args.run.now.d.0 c.args.run.now.s.0 (length c.args.spots.now) c.args.run.now.faces h whole c.args.run.now.few c.requires.small in
    ArePointsOf-placed (well_turned steps) at c.args.run.now.rows.now (length c.args.spots.now) (length c.find_counts.new.spots) c.find_counts.new.spots points run same (c.find_counts.ensures (well_turned steps) at run h.first h.second (faces_made-well_turned steps n ∙ h.made)) placed) c.points_of.ensures

use Rattle.std.proofs.Common.{◌≡◌, ◌+◌, ◌*◌, ◌<◌, ◌≤◌, ℕ, length, take, ap, subst, ◌∙◌, arith, rules}
use Rattle.std.proofs.lemmas.List.{get_or-take, length-take-le}
use Rattle.fpp_shift.specs.Sums.{AreMet, own_point}
use Rattle.fpp_shift.proofs.MetLemmas.{AreMet-first, AreMet-beyond, AreMet-both, ArePointsOf-all, next-left-met, next-right-kept}
use Rattle.fpp_shift.proofs.offset_trees.summed_points.find_points.Goals as goal

pub loop-i-init : goal.loop-i-init
loop-i-init g c =
    let inside = c.requires.tree.inside in
    let one = c.get-first.ensures.step in
    record {
      met = AreMet-first c.args.tree.now c.args.root.0 c.requires.tree c.args.met.now c.meet.new.met c.args.points.now c.put_point.new.points c.own_point.result c.requires.met c.requires.points c.meet.ensures c.put_point.ensures (c.own_point.ensures ∙ ap own_point c.get-first.ensures.node);
      within = omega (arith, inside);
      met_count = search rules;
      points_count = search rules;
      most = omega (arith, one);
      least = omega (arith, one);
    }

pub loop-i-preserved-then-filled-place : goal.loop-i-preserved-then-filled-place
loop-i-preserved-then-filled-place g c =
    let h = c.loop-i.invariant in
    let test : c.loop-i.filled ≤ c.loop-i.i = search rules in
    let n = length-take-le c.loop-i.filled c.loop-i.met (omega (arith, h.within, h.met_count)) in
    let most = h.most in
    record {
      met = AreMet-beyond _ c.args.root.0 _ _ c.loop-i.i (omega (arith, n, test)) h.met;
      within = h.within;
      met_count = h.met_count;
      points_count = h.points_count;
      most = omega (arith, most);
      least = h.least;
    }

pub get-node-requires : goal.get-node-requires
get-node-requires g c =
    let h = c.loop-i.invariant in
    let test : c.loop-i.i < c.loop-i.filled = search rules in
    let n = length-take-le c.loop-i.filled c.loop-i.met (omega (arith, h.within, h.met_count)) in
    h.met.inside _ (c.loop-i.i, omega (arith, n, test), get_or-take c.loop-i.filled c.loop-i.met c.loop-i.i 0 test)

pub follow-left-requires-clause-next : goal.follow-left-requires-clause-next
follow-left-requires-clause-next g c =
    let h = c.loop-i.invariant in
    let test : c.loop-i.i < c.loop-i.filled = search rules in
    (c.args.root.0, 2 * c.loop-i.i, c.requires.tree, h.met, next-left-met c.args.tree.now c.loop-i.met c.loop-i.i c.loop-i.filled c.get-node.result test (omega (arith, h.within, h.met_count)) c.get-node.ensures.node)

pub follow-filled-requires-clause-next : goal.follow-filled-requires-clause-next
follow-filled-requires-clause-next g c =
    let h = c.loop-i.invariant in
    let root = c.args.root.0 in
    let test : c.loop-i.i < c.loop-i.filled = search rules in
    let one = next-left-met c.args.tree.now c.loop-i.met c.loop-i.i c.loop-i.filled c.get-node.result test (omega (arith, h.within, h.met_count)) c.get-node.ensures.node in
    let m = c.follow-left.ensures.met root (2 * c.loop-i.i) c.requires.tree h.met one in
    (root, 2 * c.loop-i.i + 1, c.requires.tree, m, next-right-kept c.args.tree.now c.loop-i.met c.follow-left.new.met c.loop-i.i c.loop-i.filled c.follow-left.result c.get-node.result test c.follow-left.ensures.grows (omega (arith, c.follow-left.ensures.within, c.follow-left.ensures.met_count, h.met_count)) c.follow-left.ensures.kept c.get-node.ensures.node)

pub loop-i-preserved : goal.loop-i-preserved
loop-i-preserved g c =
    let h = c.loop-i.invariant in
    let root = c.args.root.0 in
    let test : c.loop-i.i < c.loop-i.filled = search rules in
    let one = next-left-met c.args.tree.now c.loop-i.met c.loop-i.i c.loop-i.filled c.get-node.result test (omega (arith, h.within, h.met_count)) c.get-node.ensures.node in
    let m = c.follow-left.ensures.met root (2 * c.loop-i.i) c.requires.tree h.met one in
    let two = next-right-kept c.args.tree.now c.loop-i.met c.follow-left.new.met c.loop-i.i c.loop-i.filled c.follow-left.result c.get-node.result test c.follow-left.ensures.grows (omega (arith, c.follow-left.ensures.within, c.follow-left.ensures.met_count, h.met_count)) c.follow-left.ensures.kept c.get-node.ensures.node in
    record {
      met = AreMet-both _ root _ _ c.loop-i.i (c.follow-filled.ensures.met root (2 * c.loop-i.i + 1) c.requires.tree m two);
      within = c.follow-filled.ensures.within;
      met_count = c.follow-filled.ensures.met_count ∙ (c.follow-left.ensures.met_count ∙ h.met_count);
      points_count = c.follow-filled.ensures.points_count ∙ (c.follow-left.ensures.points_count ∙ h.points_count);
      most = omega (arith, h.most, c.get-node.ensures.step, c.follow-left.ensures.steps, c.follow-filled.ensures.steps);
      least = omega (arith, h.least, c.get-node.ensures.step, c.follow-left.ensures.never_falls, c.follow-filled.ensures.never_falls);
    }

pub returns-clause-points : goal.returns-clause-points
returns-clause-points g c =
    let h = c.loop-i.invariant in
    let root = c.args.root.0 in
    let all : c.loop-i.i ≡ length c.args.tree.now = omega (arith, c.loop-i.auto.i-end, c.loop-i-test.false, c.len-i-end.ensures) in
    ArePointsOf-all c.args.tree.now root c.requires.tree (take c.loop-i.filled c.loop-i.met) c.loop-i.points (subst (λ (i : ℕ). AreMet c.args.tree.now root (take c.loop-i.filled c.loop-i.met) c.loop-i.points (2 * i)) all h.met) h.points_count

pub returns-clause-uses : goal.returns-clause-uses
returns-clause-uses g c =
    (c.loop-i.invariant.least, omega (arith, c.requires.tree.inside, c.loop-i.invariant.most, c.loop-i.auto.i-end, c.loop-i-test.false, c.len-i-end.ensures))

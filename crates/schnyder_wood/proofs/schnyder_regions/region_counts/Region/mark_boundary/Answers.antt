use Rattle.std.proofs.Common.{length-set, sym, ◌∙◌, arith, true}
use Rattle.std.proofs.lemmas.Bool.{true≢false}
use Rattle.schnyder_wood.proofs.CountLemmas.{boundary-passed, boundary-marked}
use Rattle.schnyder_wood.proofs.schnyder_regions.region_counts.Region.mark_boundary.Goals as goal

pub has_vertex-requires : goal.has_vertex-requires
has_vertex-requires c = omega (arith, c.args.self.now.map.now.known, c.loop-u-test.true, c.n-u-end.ensures.count)

pub loop-u-preserved-then-not-has_vertex : goal.loop-u-preserved-then-not-has_vertex
loop-u-preserved-then-not-has_vertex c =
    let h = c.loop-u.invariant in
    record {
      count = h.count;
      marks = boundary-passed c.args.self.now.path.now c.loop-u.u c.args.inside.now c.loop-u.inside h.marks (λ on. true≢false (sym (c.has_vertex.ensures.1 on) ∙ c.if-not-has_vertex.true));
    }

pub loop-u-preserved : goal.loop-u-preserved
loop-u-preserved c =
    let h = c.loop-u.invariant in
    record {
      count = length-set c.loop-u.inside c.loop-u.u true ∙ h.count;
      marks = boundary-marked c.args.self.now.path.now c.loop-u.u c.args.inside.now c.loop-u.inside h.marks (omega (arith, h.count, c.requires)) (c.has_vertex.ensures.0 c.if-not-has_vertex.false);
    }

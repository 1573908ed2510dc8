use Rattle.std.proofs.Common.{length-set, sym, ◌∙◌, arith, true}
use Rattle.std.proofs.lemmas.Bool.{true≢false}
use Rattle.half_edges.specs.Map.{dart_at}
use Rattle.euler_faces.proofs.NumberLemmas.{live_from}
use Rattle.schnyder_wood.proofs.CountLemmas.{tails-passed, tails-marked}
use Rattle.schnyder_wood.proofs.schnyder_regions.region_counts.Region.mark_tails.Goals as goal

pub loop-d-preserved-then-not-odd : goal.loop-d-preserved-then-not-odd
loop-d-preserved-then-not-odd c =
    let h = c.loop-d.invariant in
    record {
      count = h.count;
      marks = tails-passed c.args.self.now.map.now c.args.met.now c.loop-d.d c.args.inside.now c.loop-d.inside h.marks (λ w y is odd. true≢false (sym odd ∙ c.if-not-odd.true));
    }

pub loop-d-preserved-then-not-is_live : goal.loop-d-preserved-then-not-is_live
loop-d-preserved-then-not-is_live c =
    let h = c.loop-d.invariant in
    let map = c.args.self.now.map.now in
    record {
      count = h.count;
      marks = tails-passed map c.args.met.now c.loop-d.d c.args.inside.now c.loop-d.inside h.marks (λ w y is odd. true≢false (sym (c.is_live.ensures.1 (live_from (dart_at map c.loop-d.d) (w, y) is)) ∙ c.if-not-is_live.true));
    }

pub loop-d-preserved : goal.loop-d-preserved
loop-d-preserved c =
    let h = c.loop-d.invariant in
    let v = c.tail-v.result.0 in
    record {
      count = length-set c.loop-d.inside v true ∙ h.count;
      marks = tails-marked c.args.self.now.map.now c.args.met.now c.loop-d.d c.args.inside.now c.loop-d.inside h.marks v (omega (arith, h.count, c.requires.count)) (c.is_live.ensures.0 c.if-not-is_live.false) c.tail-v.ensures c.if-not-odd.false;
    }

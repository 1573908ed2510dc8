use Rattle.std.proofs.Common.{◌≢◌, set, refl, sym, ◌∙◌, arith, length-set}
use Rattle.simple_maps.proofs.PassLemmas.{AreMutual-pair}
use Rattle.simple_maps.proofs.twin_pass.ListPart.pair.Goals as goal

pub along-preserved : goal.along-preserved
along-preserved c =
    let twins = c.along.twins in
    let d = c.along.d in
    let e = c.place_named-twin.result in
    let h = c.along.invariant in
    let ne : d ≢ e = omega arith in
    record {
      count = length-set (set twins d e) e d ∙ length-set twins d e ∙ h.count;
      below = omega arith;
      pairs = AreMutual-pair c.args.self.now.entries.now c.args.tails.now c.args.tails.now twins c.args.self.now.end d e h.pairs (λ i. refl) (omega arith) (omega arith) ne (omega arith) (omega arith)
          c.if-self-twin.false (c.if-self-d.false ∙ sym (c.requires.here e c.if-twin-self.false c.if-twin-self-2.false));
    }

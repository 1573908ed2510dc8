use Rattle.std.proofs.Common.{◌+◌, get_or, refl, ◌∙◌, arith, length-set}
use Rattle.simple_maps.proofs.PassLemmas.{HasThreaded-more}
use Rattle.simple_maps.proofs.twin_pass.ListPart.thread.Goals as goal

pub loop-d-preserved : goal.loop-d-preserved
loop-d-preserved c =
    let d = c.loop-d.d in
    let entries = c.args.self.now.entries.now in
    let h = c.loop-d.invariant in
    let numbers = c.requires.numbers d 0 (omega arith) in
    record {
      tails = length-set c.loop-d.tails d c.args.self.now.v ∙ h.tails;
      twins = length-set c.loop-d.twins d (get_or c.loop-d.newest (get_or entries d 0) 0) ∙ h.twins;
      vertices = length-set c.loop-d.newest (get_or entries d 0) (16777217 + d) ∙ h.vertices;
      threaded = HasThreaded-more entries c.args.tails.now c.args.twins.now c.loop-d.tails c.loop-d.twins c.loop-d.newest c.args.self.now.start d c.args.self.now.v h.threaded
          (get_or c.loop-d.newest (get_or entries d 0) 0) (16777217 + d) (d + 1) (omega arith) (omega arith) (omega arith) (omega arith) (omega arith) refl c.if-older-base.false refl refl;
    }

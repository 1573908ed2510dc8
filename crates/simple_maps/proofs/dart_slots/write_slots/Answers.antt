use Rattle.std.proofs.Common.{◌≡◌, ℕ, ◌+◌, length, get_or, map, refl, subst, ◌∙◌, arith, length-set}
use Rattle.std.proofs.lemmas.List.{length-map, map-set}
use Rattle.simple_maps.specs.Pass.{AreInLine}
use Rattle.simple_maps.proofs.LineLemmas.{AreInLine-more}
use Rattle.simple_maps.proofs.PassLemmas.{written_more}
use Rattle.simple_maps.proofs.dart_slots.write_slots.Goals as goal

pub loop-d-preserved : goal.loop-d-preserved
loop-d-preserved g c =
    let tail = g.P.DartSlot.tail_of in
    let twin = g.P.DartSlot.twin_of in
    let slots = c.loop-d.slots in
    let d = c.loop-d.d in
    let x = c.new.result in
    let h = c.loop-d.invariant in
    let tails = length-map {B = ℕ} slots tail in
    let twins = length-map {B = ℕ} slots twin in
    record {
      count = length-set slots d x ∙ h.count;
      tails = rw (map-set tail slots d x) (written_more (map tail slots) (λ i. get_or c.args.tails.now i 0) d (tail x) (omega arith) c.new.ensures.tail h.tails);
      twins = rw (map-set twin slots d x) (written_more (map twin slots) (λ i. get_or c.args.twins.now i 0) d (twin x) (omega arith) c.new.ensures.twin h.twins);
      line = AreInLine-more g.P.DartSlot.IsInLine slots d x (omega arith) (d + 1) refl c.new.ensures.line h.line;
    }

pub returns-clause-line : goal.returns-clause-line
returns-clause-line g c =
    let h = c.loop-d.invariant in
    let all : c.loop-d.d ≡ length c.loop-d.slots = omega (arith, h.count) in
    subst (λ n. AreInLine g.P.DartSlot.IsInLine c.loop-d.slots n) all h.line

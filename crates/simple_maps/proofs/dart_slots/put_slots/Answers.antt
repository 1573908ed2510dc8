use Rattle.std.proofs.Common.{◌≡◌, ℕ, length, drop, arith, ap, ◌∙◌}
use Rattle.std.proofs.lemmas.List.{take_at, length-map}
use Rattle.std.specs.Prelude.{slice_get}
use Rattle.map_theory.specs.Maps.{darts}
use Rattle.map_theory.proofs.DartLemmas.{length-darts}
use Rattle.map_theory.proofs.DartCounts.{few_darts-simple}
use Rattle.simple_maps.proofs.dart_slots.put_slots.Goals as goal

pub write_slots-requires-clause-few : goal.write_slots-requires-clause-few
write_slots-requires-clause-few g c =
    let s = c.requires.known in
    let few = few_darts-simple c.args.lists.now c.facts.ensures s.simple in
    omega (arith, s.twins_are.count, length-darts c.args.lists.now)

pub returns-clause-slots : goal.returns-clause-slots
returns-clause-slots g c =
    let s = c.requires.known in
    let new = c.write_slots.new.slots in
    let long : length new ≡ c.resize.new.self.len = c.write_slots.auto.slots ∙ c.deref_mut.ensures.len in
    let count : length new ≡ length (darts c.args.lists.now) = omega (arith, long, s.twins_are.count, c.in_ok-resize.ensures.len) in
    rw (take_at new (drop (length new) c.resize.new.self.items) c.resize.new.self.len long) (record {
      simple = s.simple;
      tails_are = λ d l. c.write_slots.ensures.tails d (omega arith) ∙ s.tails_are d l;
      twins_are = record {
        count = length-map {B = ℕ} new g.P.DartSlot.twin_of ∙ count;
        at = λ d l. ap (λ i. slice_get (darts c.args.lists.now) i) (c.write_slots.ensures.twins d (omega arith)) ∙ s.twins_are.at d l;
      };
    })

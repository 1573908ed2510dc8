use Rattle.std.proofs.Common.{rules, length, refl, ap, sym, subst, ◌∙◌, arith}
use Rattle.std.proofs.lemmas.Bool.{OnTrue_at, OnTrue_from}
use Rattle.map_lists.proofs.CutLemmas.{AreCuts-at, IsStored, IsStored-cuts, IsStored-cut, length-cut}
use Rattle.simple_maps.specs.Tables.{AreSlots}
use Rattle.simple_maps.proofs.PassedLemmas.{pairs-placed, HasPassed-more, AreSlots-passed}
use Rattle.simple_maps.proofs.twin_pass.finds_twins.Goals as goal

pub loop-v-init : goal.loop-v-init
loop-v-init c =
    let stored : IsStored c.args.lists.now c.entries-entries.result.now c.ends-ends.result.now = record { entries_are = c.entries-entries.ensures; ends_are = c.ends-ends.ensures } in
    record {
      tails = c.requires.tails ∙ ap length (sym c.entries-entries.ensures);
      twins = c.requires.twins ∙ ap length (sym c.entries-entries.ensures);
      vertices = omega (arith, c.requires.newest, ap length (IsStored-cut _ _ _ stored), length-cut 0 c.ends-ends.result.now c.entries-entries.result.now);
      passed = search rules;
    }

pub invariant_of-list-clause-order : goal.invariant_of-list-clause-order
invariant_of-list-clause-order c =
    let stored : IsStored c.args.lists.now c.entries-entries.result.now c.ends-ends.result.now = record { entries_are = c.entries-entries.ensures; ends_are = c.ends-ends.ensures } in
    let at = AreCuts-at 0 c.ends-ends.result.now (length c.entries-entries.result.now) c.loop-v.v (IsStored-cuts _ _ _ stored) c.loop-v-test.true in
    omega (arith, c.loop-v.invariant.passed.start_is)

pub invariant_of-list-clause-within : goal.invariant_of-list-clause-within
invariant_of-list-clause-within c =
    let stored : IsStored c.args.lists.now c.entries-entries.result.now c.ends-ends.result.now = record { entries_are = c.entries-entries.ensures; ends_are = c.ends-ends.ensures } in
    (AreCuts-at 0 c.ends-ends.result.now (length c.entries-entries.result.now) c.loop-v.v (IsStored-cuts _ _ _ stored) c.loop-v-test.true).1

pub invariant_of-list-clause-few : goal.invariant_of-list-clause-few
invariant_of-list-clause-few c = omega (arith, c.requires.few, ap length c.entries-entries.ensures)

pub pair-requires-clause-pairs : goal.pair-requires-clause-pairs
pair-requires-clause-pairs c =
    let stored : IsStored c.args.lists.now c.entries-entries.result.now c.ends-ends.result.now = record { entries_are = c.entries-entries.ensures; ends_are = c.ends-ends.ensures } in
    let at = AreCuts-at 0 c.ends-ends.result.now (length c.entries-entries.result.now) c.loop-v.v (IsStored-cuts _ _ _ stored) c.loop-v-test.true in
    pairs-placed _ _ _ _ _ c.loop-v.start c.loop-v.v c.loop-v.invariant.passed _ _ _ (omega (arith, c.loop-v.invariant.passed.start_is)) c.if-not-thread.ensures.placed

pub loop-v-preserved : goal.loop-v-preserved
loop-v-preserved c =
    let stored : IsStored c.args.lists.now c.entries-entries.result.now c.ends-ends.result.now = record { entries_are = c.entries-entries.ensures; ends_are = c.ends-ends.ensures } in
    let at = AreCuts-at 0 c.ends-ends.result.now (length c.entries-entries.result.now) c.loop-v.v (IsStored-cuts _ _ _ stored) c.loop-v-test.true in
    let h = c.loop-v.invariant in
    record {
      tails = c.thread.auto.tails ∙ h.tails;
      twins = c.pair.auto.twins ∙ c.thread.auto.twins ∙ h.twins;
      vertices = c.thread.auto.newest ∙ h.vertices;
      passed = HasPassed-more _ _ _ _ _ c.loop-v.start c.loop-v.v h.passed _ _ _ (omega (arith, h.passed.start_is)) c.if-not-thread.ensures.placed _ _ _ _ refl
          c.if-not-thread.ensures.list (λ d. refl) c.pair.ensures c.thread.ensures.unset refl;
    }

pub returns : goal.returns
returns c =
    let h = c.loop-v.invariant in
    let entries = c.entries-entries.result.now in
    let ends = c.ends-ends.result.now in
    let stored : IsStored c.args.lists.now entries ends = record { entries_are = c.entries-entries.ensures; ends_are = c.ends-ends.ensures } in
    OnTrue_from c.are_paired.result (AreSlots c.args.lists.now c.loop-v.tails c.loop-v.twins) (λ t.
    subst (λ lists. AreSlots lists c.loop-v.tails c.loop-v.twins) (IsStored-cut _ _ _ stored)
    (AreSlots-passed entries ends c.loop-v.tails c.loop-v.twins c.loop-v.newest c.loop-v.start c.loop-v.v (IsStored-cuts _ _ _ stored) h.passed (omega arith) c.if-not-are_below.ensures h.twins (OnTrue_at t c.are_paired.ensures)
    (omega (arith, c.requires.some_list, ap length (IsStored-cut _ _ _ stored), length-cut 0 ends entries))))

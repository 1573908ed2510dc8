use Rattle.std.proofs.Common.{◌≡◌, ◌+◌, ◌<◌, length, sym, ap, ◌∙◌, refl, arith, ◌==◌}
use Rattle.classes.specs.Classes.{label}
use Rattle.classes.proofs.Classes.{same_class-from}
use Rattle.classes.proofs.Counting.{count_below-le}
use Rattle.map_theory.specs.Maps.{component_classes}
use Rattle.map_theory.proofs.DartPermutations.{IsLabels-components, edge_together}
use Rattle.conn_parts.proofs.PartLemmas.{least-from_number, not_least-from_number, least_counted, not_least_counted, first_counted}
use Rattle.augment_tri.proofs.Growth.{IsGrown-itself, IsGrown-chained, grown_join, spare_for_join}
use Rattle.augment_tri.proofs.JoinedParts.{AreJoined-none, AreJoined-apart, AreJoined-skip, AreJoined-more, AreJoined-all, next_apart}
use Rattle.augment_tri.proofs.joined_components.join_parts.Goals as goal
use Rattle.augment_tri.proofs.joined_components.join_parts.Goals.{then-of-joined, else-of-joined}

pub loop-v-init : goal.loop-v-init
loop-v-init c =
    let lists = c.args.map.now.lists in
    let simple = c.requires.roomy.known.simple in
    record {
      roomy = c.requires.roomy;
      grown = IsGrown-itself c.args.map.now;
      some = omega arith;
      counted = first_counted lists simple;
      joined = AreJoined-none (component_classes lists) (IsLabels-components lists simple) lists refl;
    }

pub join-requires-clause-spare : goal.join-requires-clause-spare
join-requires-clause-spare c =
    let h = c.loop-v.invariant in
    let same = h.grown.extended.vertices in
    let in_v : c.loop-v.v < length c.loop-v.map.lists = omega (arith, c.n-v-end.ensures.count, c.loop-v-test.true) in
    let far = next_apart c.args.map.now.lists c.requires.roomy.known.simple c.args.parts.now c.requires.parts c.loop-v.map.lists c.loop-v.v h.joined h.some in_v (omega arith) (sym c.of.ensures ∙ (c.if-of-joined.true ∙ h.counted)) in
    spare_for_join c.loop-v.map 0 c.loop-v.v h.roomy (omega arith) in_v far

pub join-requires-clause-not_adjacent : goal.join-requires-clause-not_adjacent
join-requires-clause-not_adjacent c = λ edge.
    let h = c.loop-v.invariant in
    let same = h.grown.extended.vertices in
    let in_v : c.loop-v.v < length c.loop-v.map.lists = omega (arith, c.n-v-end.ensures.count, c.loop-v-test.true) in
    let far = next_apart c.args.map.now.lists c.requires.roomy.known.simple c.args.parts.now c.requires.parts c.loop-v.map.lists c.loop-v.v h.joined h.some in_v (omega arith) (sym c.of.ensures ∙ (c.if-of-joined.true ∙ h.counted)) in
    far (same_class-from (component_classes c.loop-v.map.lists) 0 c.loop-v.v (edge_together c.loop-v.map.lists h.roomy.known.simple 0 c.loop-v.v edge))

pub overflow_add-joined : goal.overflow_add-joined
overflow_add-joined c =
    let first = c.args.map.now.lists in
    let few = c.requires.roomy.known.few_vertices in
    let le = count_below-le (λ u. label (component_classes first) u == u) c.loop-v.v in
    omega (arith, c.loop-v.invariant.counted, c.n-v-end.ensures.count, c.loop-v-test.true)

pub loop-v-preserved : goal.loop-v-preserved
loop-v-preserved c =
    let first = c.args.map.now.lists in
    let simple = c.requires.roomy.known.simple in
    let h = c.loop-v.invariant in
    let same = h.grown.extended.vertices in
    let some = h.some in
    let in_v : c.loop-v.v < length c.loop-v.map.lists = omega (arith, c.n-v-end.ensures.count, c.loop-v-test.true) in
    let in_0 : 0 < length c.loop-v.map.lists = omega arith in
    let labels = IsLabels-components first simple in
    elim c.if-of-joined.branch [
      | then-of-joined w ↦
          let own : label (component_classes first) c.loop-v.v ≡ c.loop-v.v = least-from_number first simple c.loop-v.v
          (sym (c.requires.parts.number c.loop-v.v (omega arith)) ∙ (sym c.of.ensures ∙ (w.if-of-joined.true ∙ h.counted))) in
          let far = AreJoined-apart (component_classes first) labels c.loop-v.map.lists c.loop-v.v h.joined some in_v own in
          let put = w.join.ensures.put in
          let more = grown_join c.loop-v.map w.join.new.map h.roomy w.join.ensures.known w.join.ensures.spare w.join.ensures.ids 0 c.loop-v.v in_0 in_v far put in
          rw (w.map-is, w.joined-is) (record {
            roomy = more.0;
            grown = IsGrown-chained _ _ _ h.grown more.1;
            some = omega arith;
            counted = ap (λ n. n + 1) h.counted ∙ least_counted first simple c.loop-v.v (c.loop-v.v + 1) own refl;
            joined = AreJoined-more (component_classes first) labels c.loop-v.map.lists c.loop-v.v h.joined some in_v w.join.new.map.lists h.roomy.known.simple own put;
          })
      | else-of-joined w ↦
          let below : label (component_classes first) c.loop-v.v < c.loop-v.v = not_least-from_number first simple c.loop-v.v
          (λ e. w.if-of-joined.false (c.of.ensures ∙ (c.requires.parts.number c.loop-v.v (omega arith) ∙ (e ∙ sym h.counted)))) in
          rw (w.map-is, w.joined-is) (record {
            roomy = h.roomy;
            grown = h.grown;
            some = omega arith;
            counted = h.counted ∙ not_least_counted first simple c.loop-v.v (c.loop-v.v + 1) below refl;
            joined = AreJoined-skip (component_classes first) labels c.loop-v.map.lists c.loop-v.v h.joined some in_v below;
          })
    ]

pub returns-clause-one : goal.returns-clause-one
returns-clause-one c =
    let first = c.args.map.now.lists in
    let h = c.loop-v.invariant in
    let same = h.grown.extended.vertices in
    AreJoined-all (component_classes first) (IsLabels-components first c.requires.roomy.known.simple) c.loop-v.map.lists c.loop-v.v h.roomy.known.simple
    (omega (arith, c.n-v-end.ensures.count, c.loop-v-test.false)) h.joined

pub returns-then-count-eq1-clause-grown : goal.returns-then-count-eq1-clause-grown
returns-then-count-eq1-clause-grown c = IsGrown-itself c.args.map.now

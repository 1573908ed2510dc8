use Rattle.std.proofs.Common.{◌+◌, ◌≤◌, ◌≡◌, inl, inr, ◌&&◌, nat_lt, ℕ, take, count_by, sym, subst, ◌∙◌, arith}
use Rattle.map_theory.specs.Maps.{list_of}
use Rattle.vertex_rounds.proofs.RoundLemmas.{head_at, place_at, at_place, place_at-later, LeavesFrom-later, head_at-result}
use Rattle.drawings.proofs.EdgeCounts.{edges_until-all, edges_until-none, count_more}
use Rattle.bar_check.proofs.Rounds.{fewer_left}
use Rattle.bar_check.proofs.edge_indices.edges_until.Goals as goal
use Rattle.bar_check.proofs.edge_indices.edges_until.Goals.{then-v-u+then-u-end, else-v-u, else-v-u-via-then-v-u+else-u-end, else-v-u-via-else-v-u}

pub overflow_add-count : goal.overflow_add-count
overflow_add-count c =
    let l = (at_place c.args.map.now c.args.map.now.known c.args.v.0 c.round.d.0 c.round.invariant.dart).0 in
    let few = c.round.invariant.few in
    let degree = c.degree-degree.ensures in
    omega arith

pub round-smaller : goal.round-smaller
round-smaller c = fewer_left c.args.map.now c.args.map.now.known c.args.v.0 c.round.d.0 c.in-Some-later_dart.next.0 c.round.invariant.dart c.in-Some-later_dart.ensures

pub round-preserved : goal.round-preserved
round-preserved c =
    let map = c.args.map.now in
    let v = c.args.v.0 in
    let d = c.round.d.0 in
    let dart = c.round.invariant.dart in
    let at = at_place map c.args.map.now.known v d dart in
    let next = c.in-Some-later_dart.ensures v (head_at map d) dart in
    let place = place_at-later map v d c.in-Some-later_dart.next.0 next in
    let us = list_of map.lists v in
    let k = place_at map v d in
    let more = count_more v c.args.end us k c.head-u.result.0 c.round.count c.if-v-u.count at.0 (at.1 ∙ head_at-result map v d c.head-u.result.0 dart c.head-u.ensures) c.round.invariant.count (elim c.if-v-u.branch [
      | then-v-u+then-u-end w ↦ inl (w.if-v-u.true, w.if-u-end.true, w.count-is)
      | else-v-u w ↦ inr (elim w.else-v-u.branch [ else-v-u-via-then-v-u+else-u-end w' ↦ inr w'.if-u-end.false | else-v-u-via-else-v-u w' ↦ inl w'.if-v-u.false ], w.count-is)
    ]) in
    let few : c.if-v-u.count ≤ c.round.count + 1 = elim c.if-v-u.branch [ then-v-u+then-u-end w ↦ omega (arith, w.count-is) | else-v-u w ↦ omega (arith, w.count-is) ] in
    let few' = c.round.invariant.few in
    record {
      dart = LeavesFrom-later map v d c.in-Some-later_dart.next.0 next;
      count = subst (λ (k : ℕ). c.if-v-u.count ≡ count_by (λ w. nat_lt v w && nat_lt w c.args.end) (take k us)) (sym place) more;
      few = omega arith;
    }

pub returns-in-None-clause-count : goal.returns-in-None-clause-count
returns-in-None-clause-count c =
    let map = c.args.map.now in
    let v = c.args.v.0 in
    let d = c.round.d.0 in
    let dart = c.round.invariant.dart in
    let at = at_place map c.args.map.now.known v d dart in
    let us = list_of map.lists v in
    let k = place_at map v d in
    let more = count_more v c.args.end us k c.head-u.result.0 c.round.count c.if-v-u.count at.0 (at.1 ∙ head_at-result map v d c.head-u.result.0 dart c.head-u.ensures) c.round.invariant.count (elim c.if-v-u.branch [
      | then-v-u+then-u-end w ↦ inl (w.if-v-u.true, w.if-u-end.true, w.count-is)
      | else-v-u w ↦ inr (elim w.else-v-u.branch [ else-v-u-via-then-v-u+else-u-end w' ↦ inr w'.if-u-end.false | else-v-u-via-else-v-u w' ↦ inl w'.if-v-u.false ], w.count-is)
    ]) in
    edges_until-all map.lists v c.args.end (k + 1) c.if-v-u.count (c.in-None.ensures v (head_at map d) dart) more

pub returns-in_default-clause-count : goal.returns-in_default-clause-count
returns-in_default-clause-count c = edges_until-none c.args.map.now.lists c.args.v.0 c.args.end c.in_default.ensures.dart

use Rattle.convex_class.proofs.PairMarks.{IsMarkingRound-later, left_of_round-later, pair_of_round, least_of_round, no_pair_alone}
use Rattle.convex_class.proofs.face_pairs.uncut_map.UncutMap.partner.Goals as goal

pub round-smaller : goal.round-smaller
round-smaller c = left_of_round-later c.args.self.now.map.now c.facts.ensures.known c.args.u.0 c.round.d.0 c.next-d.result.0 c.in-Some.first.0 c.round.marks c.mark_walk-best.new.marks c.round.best c.mark_walk-best.result c.next-d.ensures c.in-Some.ensures.dart _ _ c.walk-walk.ensures.walk c.of_dart.ensures.stands c.round.invariant.round c.mark_walk-best.ensures.marked c.if-d-first.false

pub round-preserved : goal.round-preserved
round-preserved c =
    record {
      round = IsMarkingRound-later c.args.self.now.map.now c.facts.ensures.known c.args.u.0 c.round.d.0 c.next-d.result.0 c.in-Some.first.0 c.round.marks c.mark_walk-best.new.marks c.round.best c.mark_walk-best.result c.next-d.ensures c.in-Some.ensures.dart _ _ c.walk-walk.ensures.walk c.of_dart.ensures.stands c.round.invariant.round c.mark_walk-best.ensures.marked c.if-d-first.false;
      unused = λ x ne old. c.mark_walk-best.ensures.unused x ne (c.round.invariant.unused x ne old);
    }

pub returns-then-d-first-clause-pair : goal.returns-then-d-first-clause-pair
returns-then-d-first-clause-pair c = pair_of_round c.args.self.now.map.now c.facts.ensures.known c.facts.ensures.uncut c.args.u.0 c.round.d.0 c.next-d.result.0 c.in-Some.first.0 c.round.marks c.mark_walk-best.new.marks c.round.best c.mark_walk-best.result c.next-d.ensures c.in-Some.ensures.dart _ _ c.walk-walk.ensures.walk c.of_dart.ensures.stands c.round.invariant.round c.mark_walk-best.ensures.marked c.if-d-first.true

pub returns-then-d-first-clause-least : goal.returns-then-d-first-clause-least
returns-then-d-first-clause-least c = least_of_round c.args.self.now.map.now c.facts.ensures.known c.facts.ensures.uncut c.args.u.0 c.round.d.0 c.next-d.result.0 c.in-Some.first.0 c.round.marks c.mark_walk-best.new.marks c.round.best c.mark_walk-best.result c.next-d.ensures c.in-Some.ensures.dart _ _ c.walk-walk.ensures.walk c.of_dart.ensures.stands c.round.invariant.round c.mark_walk-best.ensures.marked c.if-d-first.true

pub returns-then-d-first-clause-unused : goal.returns-then-d-first-clause-unused
returns-then-d-first-clause-unused c = λ x ne old. c.mark_walk-best.ensures.unused x ne (c.round.invariant.unused x ne old)

pub returns-in_default-clause-least : goal.returns-in_default-clause-least
returns-in_default-clause-least c = λ w pair. absurd (no_pair_alone c.args.self.now.map.now.lists c.args.u.0 w c.facts.ensures.uncut c.in_default.ensures.dart pair)

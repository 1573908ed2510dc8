use Rattle.std.proofs.Common.{◌≡◌, suc, ◌+◌, length, refl, inl, inr, arith}
use Rattle.std.proofs.lemmas.Bool.{cases_lt}
use Rattle.map_lists.proofs.CutLemmas.{AreCuts-at}
use Rattle.half_edges.proofs.RoundLemmas.{AreRounds-more, AreRoundVertices-push}
use Rattle.half_edges.proofs.dart_records.close_rounds.Goals as goal

pub overflow_cast-start : goal.overflow_cast-start
overflow_cast-start c =
    let at = AreCuts-at 0 c.args.ends.now (length c.args.darts.now) c.loop-v.v c.requires.cuts c.loop-v-test.true in
    omega (arith, c.loop-v.invariant.start_is, c.requires.few)

pub overflow_cast-end : goal.overflow_cast-end
overflow_cast-end c =
    let at = AreCuts-at 0 c.args.ends.now (length c.args.darts.now) c.loop-v.v c.requires.cuts c.loop-v-test.true in
    omega (arith, c.requires.few)

pub close_round-requires-clause-order : goal.close_round-requires-clause-order
close_round-requires-clause-order c =
    let at = AreCuts-at 0 c.args.ends.now (length c.args.darts.now) c.loop-v.v c.requires.cuts c.loop-v-test.true in
    omega (arith, c.loop-v.invariant.start_is)

pub close_round-requires-clause-within : goal.close_round-requires-clause-within
close_round-requires-clause-within c =
    let at = AreCuts-at 0 c.args.ends.now (length c.args.darts.now) c.loop-v.v c.requires.cuts c.loop-v-test.true in
    omega (arith, c.loop-v.invariant.rounds.count)

pub close_round-requires-clause-line : goal.close_round-requires-clause-line
close_round-requires-clause-line c =
    let h = c.loop-v.invariant in
    let at = AreCuts-at 0 c.args.ends.now (length c.args.darts.now) c.loop-v.v c.requires.cuts c.loop-v-test.true in
    λ d from to. rw (h.rounds.elsewhere d (omega (arith, h.start_is))) (c.requires.line d (omega arith))

pub overflow_cast-start-in-loop-v : goal.overflow_cast-start-in-loop-v
overflow_cast-start-in-loop-v c =
    let at = AreCuts-at 0 c.args.ends.now (length c.args.darts.now) c.loop-v.v c.requires.cuts c.loop-v-test.true in
    omega (arith, c.loop-v.invariant.start_is, c.requires.few)

pub overflow_sub-end : goal.overflow_sub-end
overflow_sub-end c =
    let at = AreCuts-at 0 c.args.ends.now (length c.args.darts.now) c.loop-v.v c.requires.cuts c.loop-v-test.true in
    omega (arith, c.loop-v.invariant.start_is)

pub loop-v-preserved : goal.loop-v-preserved
loop-v-preserved c =
    let ends = c.args.ends.now in
    let v = c.loop-v.v in
    let h = c.loop-v.invariant in
    let at = AreCuts-at 0 ends (length c.args.darts.now) v c.requires.cuts c.loop-v-test.true in
    let one : v + 1 ≡ suc v = omega arith in
    record {
      start_is = rw one refl;
      before = λ w l. elim (cases_lt w v) [
        | inl m ↦ omega (arith, h.before w m, h.start_is)
        | inr m ↦ (let e : w ≡ v = omega arith in rw e (omega arith))
      ];
      rounds = AreRounds-more ends c.args.darts.now c.loop-v.darts c.close_round.new.darts c.loop-v.start _ v (v + 1) h.rounds h.before h.start_is refl (omega (arith, h.start_is)) c.close_round.auto.darts c.close_round.ensures.here c.close_round.ensures.elsewhere refl;
      vertices = rw c.push_reserved.ensures.items (AreRoundVertices-push ends c.loop-v.vertices.items v _ h.vertices h.start_is (let begins = h.start_is in omega arith));
      room = omega (arith, h.room, c.push_reserved.ensures.capacity);
    }

pub push_reserved-requires : goal.push_reserved-requires
push_reserved-requires c =
    let h = c.loop-v.invariant in
    omega (arith, h.room, h.vertices.count, c.loop-v-test.true, c.loop-v.vertices.ok.0)

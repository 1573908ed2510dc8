use Rattle.std.proofs.Common.{◌≡◌, true, sym, ◌∙◌}
use Rattle.std.proofs.lemmas.Bool.{true≢false}
use Rattle.vertex_rounds.proofs.RoundLemmas.{head_at}
use Rattle.vertex_rounds.proofs.LeastRounds.{later_left}
use Rattle.vertex_rounds.proofs.OnceLemmas.{once_later, once_last, once_twice}
use Rattle.vertex_rounds.proofs.one_turn.passes_once.Goals as goal
use Rattle.vertex_rounds.proofs.one_turn.passes_once.Goals.{else-passed-via-then-passed+else-passes, else-passed-via-else-passed}

pub returns-then-passes : goal.returns-then-passes
returns-then-passes g c =
    once_twice c.args.map.now c.args.map.now.known _ c.args.v.0 c.round.d c.round.passed c.round.invariant c.test-passes.result c.test-passes.ensures c.if-passed.true c.if-passes.true

pub round-smaller : goal.round-smaller
round-smaller g c =
    let map = c.args.map.now in
    let v = c.args.v.0 in
    let d = c.round.d.0 in
    let dart = c.round.invariant.dart in
    later_left map v d c.args.map.now.known dart c.in-Some.next.0 (c.in-Some.ensures v (head_at map d) dart)

pub round-preserved : goal.round-preserved
round-preserved g c =
    let never : c.round.passed ≡ true → c.test-passes.result ≡ true → ⊥ = λ t s.
    elim c.else-passed.branch [
      | else-passed-via-then-passed+else-passes w ↦ (let f = w.if-passes.false in true≢false (sym s ∙ f))
      | else-passed-via-else-passed w ↦ (let f = w.if-passed.false in true≢false (sym t ∙ f))
    ] in
    once_later c.args.map.now c.args.map.now.known _ c.args.v.0 c.round.d c.round.passed c.round.invariant c.test-passes.result c.test-passes.ensures c.in-Some.next.0 (c.in-Some.ensures c.args.v.0 (head_at c.args.map.now c.round.d.0) c.round.invariant.dart) c.either-passed.result c.either-passed.ensures never

pub returns-in-None : goal.returns-in-None
returns-in-None g c =
    let never : c.round.passed ≡ true → c.test-passes.result ≡ true → ⊥ = λ t s.
    elim c.else-passed.branch [
      | else-passed-via-then-passed+else-passes w ↦ (let f = w.if-passes.false in true≢false (sym s ∙ f))
      | else-passed-via-else-passed w ↦ (let f = w.if-passed.false in true≢false (sym t ∙ f))
    ] in
    once_last c.args.map.now c.args.map.now.known _ c.args.v.0 c.round.d c.round.passed c.round.invariant c.test-passes.result c.test-passes.ensures (c.in-None.ensures c.args.v.0 (head_at c.args.map.now c.round.d.0) c.round.invariant.dart) c.either-passed.result c.either-passed.ensures never

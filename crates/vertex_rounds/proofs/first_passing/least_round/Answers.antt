use Rattle.vertex_rounds.proofs.LeastRounds.{IsRound-later, later_left, IsRound-last}
use Rattle.vertex_rounds.proofs.RoundLemmas.{head_at}
use Rattle.vertex_rounds.proofs.first_passing.least_round.Goals as goal

pub round-smaller : goal.round-smaller
round-smaller g c =
    let map = c.args.map.now in
    let v = c.args.v.0 in
    let dart = c.round.invariant.dart in
    later_left map v c.round.d.0 c.args.map.now.known dart _ (c.in-Some.ensures v (head_at map c.round.d.0) dart)

pub round-preserved : goal.round-preserved
round-preserved g c =
    let map = c.args.map.now in
    let v = c.args.v.0 in
    let d = c.round.d.0 in
    let dart = c.round.invariant.dart in
    IsRound-later map _ v d c.args.map.now.known _ _ c.round.invariant _ (c.in-Some.ensures v (head_at map d) dart) (c.better-best.ensures v (head_at map d) dart)

pub returns-in-None : goal.returns-in-None
returns-in-None g c =
    let map = c.args.map.now in
    let v = c.args.v.0 in
    let d = c.round.d.0 in
    let dart = c.round.invariant.dart in
    IsRound-last map _ v d c.args.map.now.known _ c.better-best.result c.round.invariant (c.in-None.ensures v (head_at map d) dart) (c.better-best.ensures v (head_at map d) dart)

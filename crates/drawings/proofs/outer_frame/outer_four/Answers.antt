use Rattle.std.proofs.Common.{sym, ◌∙◌}
use Rattle.std.proofs.lemmas.Bool.{true≢false}
use Rattle.drawings.proofs.FrameLemmas.{IsRoundOfFour-frame}
use Rattle.drawings.proofs.outer_frame.outer_four.Goals as goal

pub returns-else-is_round_of_four : goal.returns-else-is_round_of_four
returns-else-is_round_of_four c = λ h.
    let t =
    c.is_round_of_four.ensures.1 (IsRoundOfFour-frame c.args.map.now c.in-Some.first.0 c.face_step-second.result.0 c.face_step-third.result.0 c.face_step-fourth.result.0 c.face_step-fifth.result.0 c.head-top.result.0 c.head-right.result.0 c.head-bottom.result.0 c.head.result.0 c.head-2.result.0 c.in-Some.ensures.dart c.face_step-second.ensures c.face_step-third.ensures c.face_step-fourth.ensures c.face_step-fifth.ensures c.head-top.ensures c.head-right.ensures c.head-bottom.ensures c.head.ensures c.head-2.ensures h) in
    true≢false (sym t ∙ c.if-is_round_of_four.false)

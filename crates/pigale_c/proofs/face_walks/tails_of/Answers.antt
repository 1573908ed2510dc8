-- The tails of a walk more.
use Rattle.std.proofs.Common.{List, [], ◌∷◌, ◌++◌, ℕ, ap, ◌∙◌, subst, arith}
use Rattle.pigale_c.specs.Walked.{HasTails}
use Rattle.pigale_c.proofs.WalkLemmas.{more_rows}
use Rattle.pigale_c.proofs.face_walks.tails_of.Goals as goal

pub loop-f-preserved : goal.loop-f-preserved
loop-f-preserved c =
    more_rows c.args.map.now c.args.found.now c.loop-f.rows c.push.new.self c.loop-f.f c.in_ok-tails.tails.items c.loop-f.invariant (omega (arith, c.loop-f-test.true, c.count-f-end.ensures))
    (subst (λ (walk : List ℕ). HasTails c.args.map.now walk c.in_ok-tails.tails.items) c.walk.ensures.walk c.in_ok-tails.ensures)
    (c.in_ok-push.ensures.ok ∙ ap (λ (us : List ℕ). c.loop-f.rows ++ us ∷ []) c.deref.ensures.value)

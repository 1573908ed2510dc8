use Rattle.std.proofs.Common.{◌∷◌, ◌++◌, [], ℕ, Bool, cond, length, get_or, append-nil, sym, ap, ◌∙◌}
use Rattle.rect_class.specs.Upper.{has_degree}
use Rattle.rect_class.proofs.UpperLemmas.{put-more}
use Rattle.rect_class.proofs.upper_neighbours.put_row.Goals as goal
use Rattle.rect_class.proofs.upper_neighbours.put_row.Goals.{then-has_degree+in_ok-push, else-has_degree}

pub loop-u-preserved : goal.loop-u-preserved
loop-u-preserved c =
    let us = c.args.us.now in
    let u : ℕ = get_or us c.loop-u.u-index 0 in
    let now = c.loop-u.entries.items in
    let test = has_degree c.args.lists.now (length us) in
    elim c.if-has_degree.branch [
      | then-has_degree+in_ok-push w ↦
          rw w.entries-is (put-more test us c.loop-u.u-index _ now _ c.loop-u-test.true c.loop-u.invariant (w.in_ok-push.ensures.items ∙ ap (λ (b : Bool). now ++ cond b (u ∷ []) []) (sym (sym c.has_degree.ensures ∙ w.if-has_degree.true))))
      | else-has_degree w ↦
          rw w.entries-is (put-more test us c.loop-u.u-index _ now _ c.loop-u-test.true c.loop-u.invariant (sym (append-nil now) ∙ ap (λ (b : Bool). now ++ cond b (u ∷ []) []) (sym (sym c.has_degree.ensures ∙ w.if-has_degree.false))))
    ]

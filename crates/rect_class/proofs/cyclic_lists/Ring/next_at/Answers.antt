use Rattle.std.proofs.Common.{length, get_or, ap, sym, ◌∙◌, arith}
use Rattle.rect_class.proofs.CornerLemmas.{entry_after-at, place_after-next, place_after-end}
use Rattle.rect_class.proofs.cyclic_lists.Ring.next_at.Goals as goal

pub returns-then-k-us : goal.returns-then-k-us
returns-then-k-us c =
    let us = c.args.self.now.us.now in
    let k = c.args.k in
    sym (entry_after-at us k c.args.self.now.distinct c.requires ∙ ap (λ n. get_or us n 0) (place_after-next (length us) k (let l = c.if-k-us.true in omega arith)))

pub returns-else-k-us : goal.returns-else-k-us
returns-else-k-us c =
    let us = c.args.self.now.us.now in
    let k = c.args.k in
    sym (entry_after-at us k c.args.self.now.distinct c.requires ∙ ap (λ n. get_or us n 0) (place_after-end (length us) k (let l = c.if-k-us.false in omega arith)))

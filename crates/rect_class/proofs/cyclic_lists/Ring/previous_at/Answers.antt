use Rattle.std.proofs.Common.{◌-◌, length, get_or, ap, ◌∙◌, arith}
use Rattle.rect_class.proofs.CornerLemmas.{entry_after-at, place_after-next, place_after-end}
use Rattle.rect_class.proofs.cyclic_lists.Ring.previous_at.Goals as goal

pub returns-then-k-gt0 : goal.returns-then-k-gt0
returns-then-k-gt0 c =
    let us = c.args.self.now.us.now in
    let k = c.args.k in
    let some = c.if-k-gt0.true in
    let l = c.requires in
    let next = place_after-next (length us) (k - 1) (omega arith) in
    entry_after-at us (k - 1) c.args.self.now.distinct (omega arith) ∙ ap (λ n. get_or us n 0) (omega (arith, next, some))

pub returns-else-k-gt0 : goal.returns-else-k-gt0
returns-else-k-gt0 c =
    let us = c.args.self.now.us.now in
    let k = c.args.k in
    let none = c.if-k-gt0.false in
    let l = c.requires in
    let next = place_after-end (length us) (length us - 1) (omega arith) in
    entry_after-at us (length us - 1) c.args.self.now.distinct (omega arith) ∙ ap (λ n. get_or us n 0) (omega (arith, next, none))

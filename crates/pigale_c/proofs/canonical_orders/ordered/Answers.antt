-- The order and the completion are what the arrays have.
use Rattle.std.proofs.Common.{ap, ◌∙◌, inr, refl, rules, arith}
use Rattle.map_lists.specs.Cuts.{joined, ends_from}
use Rattle.map_lists.specs.Lists.{Lists}
use Rattle.pigale_c.proofs.EmbedLemmas.{written_as, no_room_as}
use Rattle.pigale_c.proofs.canonical_orders.ordered.Goals as goal

pub returns-then-not-put_lists : goal.returns-then-not-put_lists
returns-then-not-put_lists c =
    let said = rw c.in_ok-lists.ensures.lists at c.in_ok-made.ensures in
    let put = rw c.if-not-put_lists.true at c.put_lists.ensures in
    let bounds = c.ends.ensures ∙ ap (λ (lists : Lists). ends_from 0 lists) c.in_ok-tri.ensures in
    let entries = c.entries.ensures ∙ ap (λ (lists : Lists). joined lists) c.in_ok-tri.ensures in
    (inr (c.in_ok-made.made, said.order, no_room_as _ _ _ _ c.args.full_ends.now c.args.full.now bounds entries put.0), refl, put.1, put.2)

pub returns : goal.returns
returns c =
    let said = rw c.in_ok-lists.ensures.lists at c.in_ok-made.ensures in
    let put = rw c.if-not-put_lists.false at c.put_lists.ensures in
    let bounds = c.ends.ensures ∙ ap (λ (lists : Lists). ends_from 0 lists) c.in_ok-tri.ensures in
    let entries = c.entries.ensures ∙ ap (λ (lists : Lists). joined lists) c.in_ok-tri.ensures in (
      record { map = c.in_ok-lists.ensures.given; count = omega (arith, c.if-order-len.false, c.len.ensures.is, c.in_ok-lists.ensures.count) },
      said.served,
      record {
        found = c.in_ok-made.made;
        drawing_order = said.order;
        order_is = search rules;
        written = written_as _ _ _ _ c.args.full_ends.now c.args.full.now c.put_lists.new.ends c.put_lists.new.neighbours bounds entries put;
      },
    )

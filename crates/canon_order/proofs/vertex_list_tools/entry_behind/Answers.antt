use Rattle.std.proofs.Common.{◌≡◌, ◌+◌, ◌-◌, get_or, sym, ap, ◌∙◌, arith}
use Rattle.map_theory.specs.Maps.{entry_after}
use Rattle.half_edges.proofs.ArenaLemmas.{entry_after-next}
use Rattle.canon_order.proofs.EntryLemmas.{entry_after-last}
use Rattle.canon_order.proofs.vertex_list_tools.entry_behind.Goals as goal

pub returns-then-list-i : goal.returns-then-list-i
returns-then-list-i c =
    let list = c.args.list.now in
    let i = c.loop-i.i in
    let low = c.loop-i.auto.i in
    let test = c.loop-i-test.true in
    let d : i ≡ i - 1 + 1 = omega arith in
    ap (λ n. get_or list n 0) d ∙ sym (entry_after-next list (i - 1) c.requires.distinct (omega arith)) ∙ ap (λ x. entry_after x list) c.if-list-i.true

pub returns : goal.returns
returns c =
    let test = c.loop-i-test.false in
    entry_after-last c.args.list.now c.args.u c.requires.some (λ k l. c.loop-i.invariant k (omega arith))

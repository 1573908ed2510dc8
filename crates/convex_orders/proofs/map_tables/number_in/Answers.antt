use Rattle.std.proofs.Common.{ℕ, List, ◌<◌, ◌≡◌, length, get_or, sym, ap, ◌∙◌, subst, arith}
use Rattle.std.proofs.lemmas.List.{get_or_default}
use Rattle.map_theory.specs.Maps.{list_of}
use Rattle.convex_orders.proofs.ContourCountsRows.{entry_of_place}
use Rattle.convex_orders.proofs.map_tables.number_in.Goals as goal

pub returns-then-us-k : goal.returns-then-us-k
returns-then-us-k c =
    let k = c.loop-k.k in
    let us = c.list-us.result.now in
    ap (λ (z : List ℕ). get_or z k 0) c.list.ensures
    ∙ entry_of_place c.args.lists.now c.args.table.now c.requires.simple c.args.x c.args.y k c.requires.dart
    (subst (λ (z : List ℕ). k < length z) c.list-us.ensures c.loop-k-test.true)
    (ap (λ (z : List ℕ). get_or z k 0) (sym c.list-us.ensures) ∙ c.if-us-k.true)

pub returns : goal.returns
returns c =
    let (i, l, e) = c.requires.dart.1 in
    let at : get_or (list_of c.args.lists.now c.args.x) i 0 ≡ c.args.y = get_or_default (list_of c.args.lists.now c.args.x) i 0 c.args.y l ∙ e in
    absurd (omega (arith, c.loop-k.invariant i l at, l, c.loop-k-test.false, ap length c.list-us.ensures))

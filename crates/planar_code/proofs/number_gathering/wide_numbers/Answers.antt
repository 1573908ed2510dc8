-- The number of a pair of bytes joins the lists, and closes the last of them only behind a list of its own.
use Rattle.std.proofs.Common.{◌+◌, ◌-◌, ◌*◌, ◌≢◌, get_or, ap, ◌∙◌, arith}
use Rattle.planar_code.proofs.GatherLemmas.{wide-gathers, wide-some_room, still-some}
use Rattle.planar_code.proofs.number_gathering.wide_numbers.Goals as goal

pub collect-requires-clause-room : goal.collect-requires-clause-room
collect-requires-clause-room c =
    wide-some_room c.args.count c.list.k c.args.piece.now c.args.gathered.now c.list.gathered c.requires.room (omega (arith, c.list.invariant.within, c.pairs_to_last_zero-end.ensures.within)) c.list.invariant.gathers

pub list-preserved : goal.list-preserved
list-preserved c =
    let k = c.list.k in
    let end = c.pairs_to_last_zero-end.result in
    let piece = c.args.piece.now in
    let h = c.list.invariant in
    let other : k ≢ end - 1 =
    λ e. c.list-test.true (h.number_is ∙ ap (λ i. 256 * get_or piece (2 * i) 0 + get_or piece (2 * i + 1) 0) e ∙ c.pairs_to_last_zero-end.ensures.zero (omega (arith, h.within))) in
    record {
      from = omega (arith, h.from);
      within = omega (arith, h.within);
      number_is = c.pair_at-number-in-list.ensures;
      gathers = wide-gathers c.args.count k c.list.number piece c.args.gathered.now c.list.gathered c.collect.new.self (λ j. omega (arith, c.type_inv.piece j)) (omega (arith, h.within, c.pairs_to_last_zero-end.ensures.within)) h.number_is h.some_left h.gathers c.collect.ensures.collects c.collect.ensures.room c.collect.ensures.most;
      some_left = still-some c.args.count c.list.number c.list.gathered c.collect.new.self h.some_left c.collect.ensures.collects (λ e all. c.list-test.true e);
    }

pub collect-requires-in-lists-clause-room : goal.collect-requires-in-lists-clause-room
collect-requires-in-lists-clause-room c =
    wide-some_room c.args.count c.list.k c.args.piece.now c.args.gathered.now c.list.gathered c.requires.room (omega (arith, c.list.invariant.within, c.pairs_to_last_zero-end.ensures.within)) c.list.invariant.gathers

pub returns-then-closed-count-clause-gathers : goal.returns-then-closed-count-clause-gathers
returns-then-closed-count-clause-gathers c =
    let k = c.list.k in
    let piece = c.args.piece.now in
    let h = c.list.invariant in
    wide-gathers c.args.count k 0 piece c.args.gathered.now c.list.gathered c.collect-in-lists.new.self (λ j. omega (arith, c.type_inv.piece j)) (omega (arith, h.within, c.pairs_to_last_zero-end.ensures.within)) (omega (arith, h.number_is, c.list-test.false)) h.some_left h.gathers c.collect-in-lists.ensures.collects c.collect-in-lists.ensures.room c.collect-in-lists.ensures.most

pub lists-preserved : goal.lists-preserved
lists-preserved c =
    let k = c.list.k in
    let piece = c.args.piece.now in
    let h = c.list.invariant in
    record {
      within = omega (arith, h.within);
      gathers = wide-gathers c.args.count k 0 piece c.args.gathered.now c.list.gathered c.collect-in-lists.new.self (λ j. omega (arith, c.type_inv.piece j)) (omega (arith, h.within, c.pairs_to_last_zero-end.ensures.within)) (omega (arith, h.number_is, c.list-test.false)) h.some_left h.gathers c.collect-in-lists.ensures.collects c.collect-in-lists.ensures.room c.collect-in-lists.ensures.most;
      some_left = still-some c.args.count 0 c.list.gathered c.collect-in-lists.new.self h.some_left c.collect-in-lists.ensures.collects (λ e all. c.if-closed-count.false (c.closed.ensures ∙ all));
    }

pub collect-requires-in-loop-i-clause-room : goal.collect-requires-in-loop-i-clause-room
collect-requires-in-loop-i-clause-room c =
    wide-some_room c.args.count c.loop-i.i c.args.piece.now c.args.gathered.now c.loop-i.gathered c.requires.room (omega arith) c.loop-i.invariant.gathers

pub loop-i-preserved : goal.loop-i-preserved
loop-i-preserved c =
    let i = c.loop-i.i in
    let piece = c.args.piece.now in
    let h = c.loop-i.invariant in
    let some = c.pairs_to_last_zero-end.ensures.none i (omega (arith, c.lists-test.false)) (omega arith) in
    record {
      gathers = wide-gathers c.args.count i c.pair_at.result piece c.args.gathered.now c.loop-i.gathered c.collect-in-loop-i.new.self (λ j. omega (arith, c.type_inv.piece j)) (omega arith) c.pair_at.ensures h.some_left h.gathers c.collect-in-loop-i.ensures.collects c.collect-in-loop-i.ensures.room c.collect-in-loop-i.ensures.most;
      some_left = still-some c.args.count c.pair_at.result c.loop-i.gathered c.collect-in-loop-i.new.self h.some_left c.collect-in-loop-i.ensures.collects (λ e all. omega (arith, some, c.pair_at.ensures, e));
    }

-- The bytes of a count, and the low byte of a number, with which the lists are whole or go on.
use Rattle.std.proofs.Common.{get_or, refl, arith}
use Rattle.planar_code.specs.declared.record_scanner.Phase.TheVariants.{Start, WideStart, WideHigh, Narrow, Wide, WideHalf}
use Rattle.planar_code.specs.declared.record_scanner.Scanned.TheVariants.{More, Ended, Bad}
use Rattle.planar_code.proofs.AdvanceLemmas.{begins-wide, begins-narrow, begins-high, count-bad, count-ends, half-gathers, half-more, half-ends, Advances-same, Advances-at}
use Rattle.planar_code.proofs.record_scanner.advance.Goals as goal

pub returns-then-piece-eq0 : goal.returns-then-piece-eq0
returns-then-piece-eq0 c =
    Advances-at _ Start WideStart _ _ _ _ _ (More 1) c.in-Start.is
    (begins-wide c.args.piece.now c.requires.some c.args.gathered.now c.args.lent.now c.if-piece-eq0.true (rw c.in-Start.is at c.requires.is))

pub returns-else-piece-eq0 : goal.returns-else-piece-eq0
returns-else-piece-eq0 c =
    let b = get_or c.args.piece.now 0 0 in
    let small = c.type_inv.piece 0 in
    Advances-at _ Start (Narrow b) _ _ _ _ _ (More 1) c.in-Start.is
    (begins-narrow c.args.piece.now c.requires.some c.args.gathered.now c.args.lent.now b refl (omega arith) (omega arith) (rw c.in-Start.is at c.requires.is))

pub returns-in-WideStart : goal.returns-in-WideStart
returns-in-WideStart c =
    let b = get_or c.args.piece.now 0 0 in
    Advances-at _ WideStart (WideHigh b) _ _ _ _ _ (More 1) c.in-WideStart.is
    (begins-high c.args.piece.now c.requires.some c.args.gathered.now c.args.lent.now b refl (rw c.in-WideStart.is at c.requires.is))

pub returns-then-count-gt-MOST_VERTICES : goal.returns-then-count-gt-MOST_VERTICES
returns-then-count-gt-MOST_VERTICES c =
    let high = c.in-WideHigh.high in
    Advances-at _ (WideHigh high) (WideHigh high) _ _ _ _ _ (Bad 1) c.in-WideHigh.is
    (count-bad c.args.piece.now c.requires.some c.args.gathered.now c.args.lent.now high (get_or c.args.piece.now 0 0) c.number_of-count.result refl c.number_of-count.ensures c.if-count-gt-MOST_VERTICES.either (rw c.in-WideHigh.is at c.requires.is))

pub returns-else-count-gt-MOST_VERTICES : goal.returns-else-count-gt-MOST_VERTICES
returns-else-count-gt-MOST_VERTICES c =
    let high = c.in-WideHigh.high in
    let small = c.type_inv.piece 0 in
    let some = c.if-count-gt-MOST_VERTICES.false.0 in
    Advances-at _ (WideHigh high) (Wide c.number_of-count.result) _ _ _ _ _ (More 1) c.in-WideHigh.is
    (count-ends c.args.piece.now c.requires.some c.args.gathered.now c.args.lent.now high (get_or c.args.piece.now 0 0) c.number_of-count.result refl (omega arith) c.number_of-count.ensures (omega arith) (omega arith) (rw c.in-WideHigh.is at c.requires.is))

pub lend_whole-requires-clause-whole : goal.lend_whole-requires-clause-whole
lend_whole-requires-clause-whole c =
    let half = c.in-WideHalf in
    let small = c.type_inv.piece 0 in
    let is = rw half.is at c.requires.is in
    let gathers = half-gathers half.count half.high (get_or c.args.piece.now 0 0) c.number_of.result c.args.gathered.now c.collect.new.self c.args.lent.now c.args.piece.now c.requires.some refl (omega arith) c.number_of.ensures (omega arith)
    is c.collect.ensures.collects c.collect.ensures.room c.collect.ensures.most in
    λ all. gathers.full (omega arith)

pub returns-then-lend_whole : goal.returns-then-lend_whole
returns-then-lend_whole c =
    let half = c.in-WideHalf in
    let small = c.type_inv.piece 0 in
    let is = rw half.is at c.requires.is in
    let whole = c.if-lend_whole.ensures.whole in
    Advances-at _ (WideHalf half.count half.high) Start _ _ _ _ _ (Ended 1) half.is
    (half-ends half.count half.high (get_or c.args.piece.now 0 0) c.number_of.result c.args.gathered.now c.collect.new.self c.args.lent.now c.args.piece.now c.requires.some refl (omega arith) c.number_of.ensures (omega arith)
    is c.collect.ensures.collects c.collect.ensures.room c.collect.ensures.most
    c.lend_whole.new.gathered c.lend_whole.new.lent (omega arith) whole.1 whole.2 whole.3)

pub returns-else-lend_whole : goal.returns-else-lend_whole
returns-else-lend_whole c =
    let half = c.in-WideHalf in
    let small = c.type_inv.piece 0 in
    let is = rw half.is at c.requires.is in
    let not = c.if-lend_whole.ensures.not in
    let differs = not.0 in
    Advances-at _ (WideHalf half.count half.high) (Wide half.count) _ _ _ _ _ (More 1) half.is
    (Advances-same (WideHalf half.count half.high) (Wide half.count) c.args.gathered.now c.args.lent.now c.args.piece.now (More 1) c.collect.new.self c.lend_whole.new.gathered c.lend_whole.new.lent not.1 not.2
    (half-more half.count half.high (get_or c.args.piece.now 0 0) c.number_of.result c.args.gathered.now c.collect.new.self c.args.lent.now c.args.piece.now c.requires.some refl (omega arith) c.number_of.ensures (omega arith)
    is c.collect.ensures.collects c.collect.ensures.room c.collect.ensures.most
    (λ all. differs (omega arith))))

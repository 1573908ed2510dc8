-- Half a number, or lists that are whole or go on.
use Rattle.std.proofs.Common.{ℕ, get_or, take, refl, subst, arith}
use Rattle.planar_code.specs.declared.record_scanner.Phase.TheVariants.{Wide}
use Rattle.planar_code.specs.declared.record_scanner.Scanned.TheVariants.{More}
use Rattle.planar_code.proofs.GatherLemmas.{GathersWide}
use Rattle.planar_code.proofs.AdvanceLemmas.{half-begins, wide-more, wide-ends, Advances-same}
use Rattle.planar_code.proofs.record_scanner.take_wide.Goals as goal

pub returns-then-piece-eq1 : goal.returns-then-piece-eq1
returns-then-piece-eq1 c =
    half-begins c.args.count (get_or c.args.piece.now 0 0) c.args.gathered.now c.args.lent.now c.args.piece.now c.requires.some refl c.requires.is

pub returns-then-lend_whole : goal.returns-then-lend_whole
returns-then-lend_whole c =
    let taken = c.gather_wide-taken in
    let whole = c.if-lend_whole.ensures.whole in
    let P : ℕ → Type 0 = λ n. GathersWide n (take taken.result c.args.piece.now) c.args.gathered.now taken.new.gathered in
    wide-ends c.args.count c.args.gathered.now taken.new.gathered c.args.lent.now c.args.piece.now taken.result taken.ensures.some taken.ensures.within c.lend_whole.new.gathered c.lend_whole.new.lent c.requires.is
    (subst P c.from.ensures taken.ensures.gathers) (omega arith) whole.1 whole.2 whole.3

pub returns-else-lend_whole : goal.returns-else-lend_whole
returns-else-lend_whole c =
    let taken = c.gather_wide-taken in
    let not = c.if-lend_whole.ensures.not in
    let differs = not.0 in
    let P : ℕ → Type 0 = λ n. GathersWide n (take taken.result c.args.piece.now) c.args.gathered.now taken.new.gathered in
    Advances-same (Wide c.args.count) (Wide c.args.count) c.args.gathered.now c.args.lent.now c.args.piece.now (More taken.result) taken.new.gathered c.lend_whole.new.gathered c.lend_whole.new.lent not.1 not.2
    (wide-more c.args.count c.args.gathered.now taken.new.gathered c.args.lent.now c.args.piece.now taken.result taken.ensures.some taken.ensures.within c.requires.is
    (subst P c.from.ensures taken.ensures.gathers) (λ all. differs (omega arith)))

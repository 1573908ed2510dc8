use Rattle.std.proofs.Common.{◌≡◌, ◌+◌, ◌-◌, ℕ, suc, List, length, slice_index, slice_set, sym, ap, subst, arith}
use Rattle.map_theory.specs.Maps.{list_of}
use Rattle.schnyder_wood.specs.Tables.{AreCovered, AreParentTables}
use Rattle.schnyder_wood.proofs.Covers.{AreCovered-more}
use Rattle.schnyder_wood.proofs.Rows.{AreParentTables-begin, AreParentTables-more, row_known}
use Rattle.schnyder_wood.proofs.parents_by_rank.find_parents.Goals as goal

pub overflow_sub-end : goal.overflow_sub-end
overflow_sub-end c = let known = row_known c.args.rows.now c.loop-k.k (length c.args.firsts.now) c.list-row.result.now c.requires.run c.list-row.ensures (omega (arith, c.len-k-end.ensures, c.loop-k-test.true)) c.requires.rows in omega (arith, known.0)

pub bounds-row-0 : goal.bounds-row-0
bounds-row-0 c = let known = row_known c.args.rows.now c.loop-k.k (length c.args.firsts.now) c.list-row.result.now c.requires.run c.list-row.ensures (omega (arith, c.len-k-end.ensures, c.loop-k-test.true)) c.requires.rows in omega (arith, known.0)

pub bounds-row-end : goal.bounds-row-end
bounds-row-end c = let known = row_known c.args.rows.now c.loop-k.k (length c.args.firsts.now) c.list-row.result.now c.requires.run c.list-row.ensures (omega (arith, c.len-k-end.ensures, c.loop-k-test.true)) c.requires.rows in omega (arith, known.0)

pub bounds-covers-u : goal.bounds-covers-u
bounds-covers-u c =
    let known = row_known c.args.rows.now c.loop-k.k (length c.args.firsts.now) c.list-row.result.now c.requires.run c.list-row.ensures (omega (arith, c.len-k-end.ensures, c.loop-k-test.true)) c.requires.rows in
    let end = known.0 in
    let same = c.loop-k.auto.covers in
    let kept = c.loop-i.auto.covers in
    let l = known.1 c.loop-i.i 0 (omega (arith, c.loop-i-test.true)) in
    omega (arith, l, kept, same, c.requires.covers)

pub loop-i-preserved : goal.loop-i-preserved
loop-i-preserved c =
    let known = row_known c.args.rows.now c.loop-k.k (length c.args.firsts.now) c.list-row.result.now c.requires.run c.list-row.ensures (omega (arith, c.len-k-end.ensures, c.loop-k-test.true)) c.requires.rows in
    let k : ℕ = c.loop-k.k in
    let i : ℕ = c.loop-i.i in
    let end = known.0 in
    let before = c.loop-i-test.true in
    let same = c.loop-k.auto.covers in
    let long = c.requires.covers in
    let kept = c.loop-i.auto.covers in
    let l = known.1 i 0 (omega (arith, before)) in
    let row = list_of c.args.rows.now k in
    let there : slice_index c.list-row.result.now i ≡ slice_index row i = ap (λ (us : List ℕ). slice_index us i) c.list-row.ensures in
    let e : suc i ≡ i + 1 = omega arith in
    subst (λ j. AreCovered (k + 2) row j c.loop-k.covers (slice_set c.loop-i.covers (slice_index c.list-row.result.now i) (k + 2))) e
    (subst (λ u. AreCovered (k + 2) row (suc i) c.loop-k.covers (slice_set c.loop-i.covers u (k + 2))) (sym there) (AreCovered-more (k + 2) row i c.loop-k.covers c.loop-i.covers c.loop-i.invariant (omega (arith, l, there)) (omega arith)))

pub loop-k-init : goal.loop-k-init
loop-k-init c = λ steps h.
    let n = c.requires.rows in
    AreParentTables-begin steps (length c.args.firsts.now) c.args.firsts.now c.args.lasts.now c.args.covers.now (omega arith) c.requires.zeros

pub loop-k-preserved : goal.loop-k-preserved
loop-k-preserved c = λ steps h.
    let rows = c.args.rows.now in
    let k : ℕ = c.loop-k.k in
    let test = c.loop-k-test.true in
    let len = c.len-k-end.ensures in
    let known = row_known c.args.rows.now c.loop-k.k (length c.args.firsts.now) c.list-row.result.now c.requires.run c.list-row.ensures (omega (arith, c.len-k-end.ensures, c.loop-k-test.true)) c.requires.rows in
    let ends = known.0 in
    let size = c.requires.rows in
    let same = c.loop-k.auto.firsts in
    let same' = c.loop-k.auto.lasts in
    let lasts = c.requires.lasts in
    let n : ℕ = length c.args.firsts.now in
    let list = c.list-row.result.now in
    let row = list_of rows k in
    let made = slice_set c.loop-k.firsts (k + 2) (slice_index list 0) in
    let made' = slice_set c.loop-k.lasts (k + 2) (slice_index list (length list - 1)) in
    let past = c.loop-i-test.false in
    let stop = c.loop-i.auto.i-end in
    let all : c.loop-i.i ≡ length row - 1 = omega (arith, ap (λ (us : List ℕ). length us) c.list-row.ensures) in
    let e : suc k ≡ k + 1 = omega arith in
    subst (λ j. AreParentTables steps j n made made' c.loop-i.covers) e
    (AreParentTables-more steps rows k h (omega arith) n size c.loop-k.firsts c.loop-k.lasts c.loop-k.covers made made' c.loop-i.covers (omega arith) (omega arith) (c.loop-k.invariant steps h)
    (ap (λ (us : List ℕ). slice_set c.loop-k.firsts (k + 2) (slice_index us 0)) c.list-row.ensures)
    (ap (λ (us : List ℕ). slice_set c.loop-k.lasts (k + 2) (slice_index us (length us - 1))) c.list-row.ensures)
    (subst (λ j. AreCovered (k + 2) row j c.loop-k.covers c.loop-i.covers) all c.loop-i.invariant))

pub returns : goal.returns
returns c = λ steps h.
    let test = c.loop-k-test.false in
    let auto = c.loop-k.auto.k-end in
    let len = c.len-k-end.ensures in
    let e : c.loop-k.k ≡ length c.args.rows.now = omega arith in
    subst (λ j. AreParentTables steps j (length c.args.firsts.now) c.loop-k.firsts c.loop-k.lasts c.loop-k.covers) e (c.loop-k.invariant steps h)

use Rattle.std.proofs.Common.{set, ◌≡◌, ◌+◌, ◌-◌, ℕ, suc, length, ap, ◌∙◌, subst, arith}
use Rattle.std.proofs.lemmas.List.{length-set}
use Rattle.convex_draw.specs.declared.convex_points.spots.Spot.{Spot}
use Rattle.convex_draw.specs.Spots.{AreKept}
use Rattle.convex_draw.proofs.RunSpots.{count_two, IsPut-read, AreKept-more, AreKept-begin, setting}
use Rattle.convex_draw.proofs.convex_points.spots.put_all.Goals as goal

abbrev alone : ℕ → Spot
alone d = record { one = 0; two = 0; over = d }

pub loop-j-init : goal.loop-j-init
loop-j-init c = λ steps name h e f k m.
    let z : 0 ≡ k = omega arith in
    subst (λ k. AreKept steps name k 2 (set c.args.spots.now c.args.s (alone c.args.d))) z (AreKept-begin steps name c.args.rows.now (length c.args.spots.now) h c.args.spots.now c.args.d c.args.s e f (omega arith))

pub bounds-spots-s : goal.bounds-spots-s
bounds-spots-s c =
    let w = c.requires.run in
    let two = count_two w.0 w.1 c.args.rows.now (length c.args.spots.now) w.2 in
    let l = w.2.named.below 1 (omega arith) in
    omega (arith, w.4)

pub put_over-requires : goal.put_over-requires
put_over-requires c =
    let w = c.requires.run in
    let k : ℕ = length c.args.rows.now.rows - c.loop-j.j in
    let put = IsPut-read w.0 w.1 c.args.rows.now (length c.args.spots.now) w.2 k (c.loop-j.j - 1) c.loop-j.width c.loop-j.spots c.list-row.result.now c.list.result.now c.list-news.result.now (omega (arith, c.len-j.ensures, c.loop-j-test.true, c.loop-j.auto.j)) (c.loop-j.auto.spots ∙ length-set c.args.spots.now c.args.s (alone c.args.d)) (c.loop-j.invariant w.0 w.1 w.2 w.3 w.4 k (omega (arith, c.len-j.ensures, c.loop-j-test.true, c.loop-j.auto.j))) c.list-row.ensures c.list.ensures c.list-news.ensures in
    record { put = (setting w.0 w.1 k, put.0) }

pub overflow_add-width : goal.overflow_add-width
overflow_add-width c =
    let w = c.requires.run in
    let k : ℕ = length c.args.rows.now.rows - c.loop-j.j in
    let put = IsPut-read w.0 w.1 c.args.rows.now (length c.args.spots.now) w.2 k (c.loop-j.j - 1) c.loop-j.width c.loop-j.spots c.list-row.result.now c.list.result.now c.list-news.result.now (omega (arith, c.len-j.ensures, c.loop-j-test.true, c.loop-j.auto.j)) (c.loop-j.auto.spots ∙ length-set c.args.spots.now c.args.s (alone c.args.d)) (c.loop-j.invariant w.0 w.1 w.2 w.3 w.4 k (omega (arith, c.len-j.ensures, c.loop-j-test.true, c.loop-j.auto.j))) c.list-row.ensures c.list.ensures c.list-news.ensures in
    omega (arith, put.1)

pub overflow_add-width-in-loop-j : goal.overflow_add-width-in-loop-j
overflow_add-width-in-loop-j c =
    let w = c.requires.run in
    let k : ℕ = length c.args.rows.now.rows - c.loop-j.j in
    let put = IsPut-read w.0 w.1 c.args.rows.now (length c.args.spots.now) w.2 k (c.loop-j.j - 1) c.loop-j.width c.loop-j.spots c.list-row.result.now c.list.result.now c.list-news.result.now (omega (arith, c.len-j.ensures, c.loop-j-test.true, c.loop-j.auto.j)) (c.loop-j.auto.spots ∙ length-set c.args.spots.now c.args.s (alone c.args.d)) (c.loop-j.invariant w.0 w.1 w.2 w.3 w.4 k (omega (arith, c.len-j.ensures, c.loop-j-test.true, c.loop-j.auto.j))) c.list-row.ensures c.list.ensures c.list-news.ensures in
    omega (arith, put.1)

pub overflow_sub-width : goal.overflow_sub-width
overflow_sub-width c =
    let w = c.requires.run in
    let k : ℕ = length c.args.rows.now.rows - c.loop-j.j in
    let put = IsPut-read w.0 w.1 c.args.rows.now (length c.args.spots.now) w.2 k (c.loop-j.j - 1) c.loop-j.width c.loop-j.spots c.list-row.result.now c.list.result.now c.list-news.result.now (omega (arith, c.len-j.ensures, c.loop-j-test.true, c.loop-j.auto.j)) (c.loop-j.auto.spots ∙ length-set c.args.spots.now c.args.s (alone c.args.d)) (c.loop-j.invariant w.0 w.1 w.2 w.3 w.4 k (omega (arith, c.len-j.ensures, c.loop-j-test.true, c.loop-j.auto.j))) c.list-row.ensures c.list.ensures c.list-news.ensures in
    put.2

pub loop-j-preserved : goal.loop-j-preserved
loop-j-preserved c = λ steps name h e f m d.
    let n = c.len-j.ensures in
    let test = c.loop-j-test.true in
    let top = c.loop-j.auto.j in
    let same = c.loop-j.auto.spots ∙ length-set c.args.spots.now c.args.s (alone c.args.d) in
    let k : ℕ = length c.args.rows.now.rows - c.loop-j.j in
    let kept = c.loop-j.invariant steps name h e f k (omega arith) in
    let put = IsPut-read steps name c.args.rows.now (length c.args.spots.now) h k (c.loop-j.j - 1) c.loop-j.width c.loop-j.spots c.list-row.result.now c.list.result.now c.list-news.result.now (omega arith) same kept c.list-row.ensures c.list.ensures c.list-news.ensures in
    let r : suc k ≡ m = omega arith in
    subst (λ m. AreKept steps name m (c.loop-j.width + length c.list-news.result.now + 2 - length c.list-row.result.now) c.put_over.new.spots) r
    (AreKept-more steps name c.args.rows.now (length c.args.spots.now) h k (c.loop-j.j - 1) c.loop-j.width (c.loop-j.width + length c.list-news.result.now + 2 - length c.list-row.result.now) c.loop-j.spots c.put_over.new.spots (omega arith) same kept
    (c.put_over.ensures (setting steps name k) put.0) (omega (arith, put.2, ap length c.list-row.ensures, ap length c.list-news.ensures)))

pub returns : goal.returns
returns c = λ steps name h e f.
    let test = c.loop-j-test.false in
    c.loop-j.invariant steps name h e f (length c.args.rows.now.rows) (omega arith)

use Rattle.std.proofs.Common.{◌≡◌, ℕ, suc, ◌+◌, ◌-◌, ◌<◌, false, not, cond, drop, length, get_or, set, sym, ap, ◌∙◌, subst, arith}
use Rattle.std.proofs.lemmas.List.{get_or_default}
use Rattle.left_right_blocks.specs.Ties.{AreKept}
use Rattle.left_right_blocks.specs.declared.ties.Tie.{Tie}
use Rattle.left_right_blocks.proofs.Kept.{by_table, kept_at, below_at}
use Rattle.left_right_blocks.proofs.sides.keep_all.Goals as goal

none : Tie
none = record { edge = 0; to = 0; turn = false }

pub loop-i-preserved-then-edge-sides : goal.loop-i-preserved-then-edge-sides
unfolding none
loop-i-preserved-then-edge-sides c = λ turn below.
    let ties = c.args.ties.now in
    let k : length ties - 1 - c.loop-i.i < length ties = omega (arith, c.loop-i-test.true) in
    let b = below_at _ ties (length ties - 1 - c.loop-i.i) none below k in
    absurd (let far = c.if-edge-sides.true in let same = c.loop-i.auto.sides in omega (arith, b, far, same, c.from-edge.ensures))

pub loop-i-preserved : goal.loop-i-preserved
unfolding none
loop-i-preserved c = λ turn below.
    let ties = c.args.ties.now in
    let k : ℕ = length ties - 1 - c.loop-i.i in
    let sides = c.loop-i.sides in
    let l : k < length ties = omega (arith, c.loop-i-test.true) in
    let next : length ties - (c.loop-i.i + 1) ≡ k = omega arith in
    let more : length ties - c.loop-i.i ≡ suc k = omega (arith, c.loop-i-test.true) in
    let t : Tie = get_or ties k none in
    let is : c.turned-side.result ≡ cond t.turn (not (by_table sides t.to)) (by_table sides t.to) = c.turned-side.ensures ∙ ap (λ z. cond t.turn (not z) z) c.side_of.ensures in
    subst (λ j. AreKept (by_table (set sides c.from-edge.result c.turned-side.result)) (drop j ties)) (sym next)
    (kept_at sides ties k t (length c.args.sides.now) c.from-edge.result c.turned-side.result l (get_or_default ties k none t l) c.from-edge.ensures c.loop-i.auto.sides below turn is
    (subst (λ j. AreKept (by_table sides) (drop j ties)) more (c.loop-i.invariant turn below)))

use Rattle.std.proofs.Common.{◌≡◌, ℤ, List, length, ap, subst, arith, rules, w32, FitsSigned}
use Rattle.std.proofs.lemmas.Int.{to_z-of_z}
use Rattle.visibility.specs.Ends.{IsGreatestOf}
use Rattle.visibility.proofs.EndRows.{AreEndsBelow, AreEndsBelow-more}
use Rattle.visibility.proofs.bar_ends.right_ends.Goals as goal

pub loop-v-init : goal.loop-v-init
loop-v-init c = record { count = ap (λ (l : List ℤ). length l) c.in_ok-ends.ensures; each = λ u l. absurd (omega arith) }

pub loop-v-preserved : goal.loop-v-preserved
loop-v-preserved c =
    let fits : FitsSigned w32 c.coordinate.result = search rules in
    let grown = simp to_z-of_z at c.in_ok-push.ensures.ok in
    AreEndsBelow-more c.args.rows.now IsGreatestOf c.loop-v.v c.greatest.result c.list.result.now c.loop-v.ends c.push.new.self c.coordinate.result c.loop-v.invariant c.greatest.ensures c.list.ensures c.coordinate.ensures grown

pub returns : goal.returns
returns c =
    let end : c.loop-v.v ≡ length c.args.rows.now = omega (arith, c.loop-v-test.false, c.loop-v.auto.v-end, c.len-v-end.ensures) in
    let all = subst (λ k. AreEndsBelow c.args.rows.now IsGreatestOf k c.loop-v.ends) end c.loop-v.invariant in
    record { count = all.count; each = all.each }

use Rattle.std.proofs.Common.{◌≡◌, Bool, List, drop, length, sym, subst, arith}
use Rattle.left_right_blocks.specs.Ties.{AreKept, AreBelow}
use Rattle.left_right_blocks.proofs.Kept.{by_table, lent_whole}
use Rattle.left_right_blocks.proofs.sides.tied_sides.Goals as goal

pub returns : goal.returns
returns c = λ turn below.
    let new = c.keep_all.new.sides in
    let long : length c.deref_mut.result.now ≡ c.args.edges = omega (arith, c.deref_mut.ensures.len, c.in_ok-sides.ensures.len, c.from.ensures) in
    subst (λ (xs : List Bool). AreKept (by_table xs) c.args.ties.now) (sym (lent_whole new (drop (length new) c.in_ok-sides.sides.items) c.in_ok-sides.sides.len (omega (arith, c.keep_all.auto.sides, c.deref_mut.ensures.len))))
    (c.keep_all.ensures turn (subst (λ k. AreBelow k c.args.ties.now) (sym long) below))

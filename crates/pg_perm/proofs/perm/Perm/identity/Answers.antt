use Rattle.std.proofs.Common.{◌≡◌, sym, ap, ◌∙◌, ◌++◌, ◌∷◌, [], arith}
use Rattle.pg_perm.proofs.Perms.{IsPerm-identity, range_with_len-more}
use Rattle.pg_perm.proofs.perm.Perm.identity.Goals as goal

pub loop-i-preserved : goal.loop-i-preserved
loop-i-preserved c =
    c.in_ok-push.ensures.items ∙ (ap (λ l. l ++ c.loop-i.i ∷ []) c.loop-i.invariant ∙ sym (range_with_len-more c.loop-i.i))

pub invariant_of-result : goal.invariant_of-result
invariant_of-result c =
    let e : c.loop-i.i ≡ c.args.k = omega arith in rw (c.loop-i.invariant, e) (IsPerm-identity c.args.k (omega arith))

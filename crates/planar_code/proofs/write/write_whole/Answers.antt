-- The parts of a record make it, or what stays.
use Rattle.std.proofs.Common.{sym, ap, arith}
use Rattle.std.specs.Prelude.{nat_lt}
use Rattle.planar_code.proofs.WriteLemmas.{lists-begin, lists-more, entries-begin, entries-more, lists-done, kept, on_err}
use Rattle.planar_code.proofs.write.write_whole.Goals as goal

pub loop-v-init : goal.loop-v-init
loop-v-init c =
    let second = rw c.len.ensures.is at c.in_ok-write_number.ensures.ok in
    lists-begin (nat_lt 255 c.len-wide.result) c.args.lists.now c.args.out.now.items c.write_first.new.out.items c.write_number.new.out.items c.in_ok-write_first.ensures.ok second

pub loop-k-init : goal.loop-k-init
loop-k-init c = entries-begin (nat_lt 255 c.len-wide.result) c.list-list.result.now _ _ _ c.loop-v.invariant

pub loop-k-preserved : goal.loop-k-preserved
loop-k-preserved c =
    entries-more _ c.list-list.result.now c.args.out.now.items c.loop-k.out.items c.write_number-in-loop-k.new.out.items _ c.loop-k.k c.loop-k-test.true c.loop-k.invariant c.in_ok-write_number-2.ensures.ok

pub loop-v-preserved : goal.loop-v-preserved
loop-v-preserved c =
    lists-more _ c.args.lists.now c.list-list.result.now c.args.out.now.items c.loop-k.out.items c.write_number-in-loop-v.new.out.items c.loop-v.v c.loop-k.k (omega arith) c.list-list.ensures (omega arith) c.loop-k.invariant c.in_ok-write_number-3.ensures.ok

pub returns-in_err-write_number-2-clause-err : goal.returns-in_err-write_number-2-clause-err
returns-in_err-write_number-2-clause-err c =
    on_err c.from_residual-in_err-write_number-2.result (kept c.args.out.now.items c.loop-k.out.items c.write_number-in-loop-k.new.out.items _ c.loop-k.invariant c.in_err-write_number-2.ensures.err)

pub returns-in_err-write_number-3-clause-err : goal.returns-in_err-write_number-3-clause-err
returns-in_err-write_number-3-clause-err c =
    on_err c.from_residual-in_err-write_number-3.result (kept c.args.out.now.items c.loop-k.out.items c.write_number-in-loop-v.new.out.items _ c.loop-k.invariant c.in_err-write_number-3.ensures.err)

pub returns-clause-ok : goal.returns-clause-ok
returns-clause-ok c =
    lists-done (nat_lt 255 c.len-wide.result) c.args.lists.now c.args.out.now.items c.loop-v.out.items c.loop-v.v (sym (ap (λ n. nat_lt 255 n) c.len-wide.ensures.is)) (omega arith) c.loop-v.invariant

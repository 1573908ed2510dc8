-- One point more.
use Rattle.std.proofs.Common.{add-one, arith}
use Rattle.std.proofs.lemmas.Int.{ints}
use Rattle.pigale_shell.proofs.MadeLemmas.{total-suc}
use Rattle.pigale_shell.proofs.gen_job.sums.Goals as goal

pub loop-i-preserved : goal.loop-i-preserved
loop-i-preserved c =
    let at = c.get-point.ensures in
    let x = total-suc (λ p. p.x) c.args.points.now c.loop-i.i c.get-point.result at in
    let y = total-suc (λ p. p.y) c.args.points.now c.loop-i.i c.get-point.result at in
    let i = c.loop-i.invariant in
    record {
      x_is = rw add-one (omega (arith, ints, x, i.x_is));
      y_is = rw add-one (omega (arith, ints, y, i.y_is));
      x_least = omega (arith, ints, i.x_least);
      x_most = omega (arith, ints, i.x_most);
      y_least = omega (arith, ints, i.y_least);
      y_most = omega (arith, ints, i.y_most);
    }

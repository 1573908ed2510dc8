use Rattle.std.proofs.Common.{◌<◌, length, All, arith}
use Rattle.simple_maps.proofs.MarkLemmas.{HasMet-again, HasMet-first}
use Rattle.simple_maps.proofs.fault_search.least_twice.Goals as goal
use Rattle.simple_maps.proofs.fault_search.least_twice.Goals.{then-marks-u, else-marks-u}

pub loop-u-preserved : goal.loop-u-preserved
loop-u-preserved c =
    let within : All (λ u. u < length c.loop-u.marks) c.args.list.now = λ k d l. omega (arith, c.requires.within k d l, c.loop-u.auto.marks) in
    elim c.if-marks-u.branch [
      | then-marks-u w ↦
          rw (w.marks-is, w.twice-is, w.lesser-twice.ensures)
          (HasMet-again c.loop-u.marks c.args.mark c.args.list.now c.loop-u.u-index c.loop-u.twice within c.loop-u-test.true c.loop-u.invariant w.if-marks-u.true)
      | else-marks-u w ↦
          rw (w.marks-is, w.twice-is)
          (HasMet-first c.loop-u.marks c.args.mark c.args.list.now c.loop-u.u-index c.loop-u.twice within c.loop-u-test.true c.loop-u.invariant w.if-marks-u.false)
    ]

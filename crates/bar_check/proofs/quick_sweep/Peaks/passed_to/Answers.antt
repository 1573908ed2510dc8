use Rattle.std.proofs.Common.{◌≤◌, arith}
use Rattle.std.proofs.Math.Nat.{div-le_self}
use Rattle.bar_check.proofs.quick_sweep.Peaks.passed_to.Goals as goal

pub overflow_mul-result : goal.overflow_mul-result
overflow_mul-result c =
    let a = div-le_self c.args.k 256 in
    let b = div-le_self c.args.right 256 in
    let k = c.requires.k in
    let right = c.requires.right in
    let most : c.low_until.result ≤ 4294967297 = c.low_until.ensures.few 4294967297 (omega (arith, a, k)) (omega (arith, b, right)) in
    omega (arith, most)

pub overflow_mul-result-then-is_low-2 : goal.overflow_mul-result-then-is_low-2
overflow_mul-result-then-is_low-2 c =
    let a = div-le_self c.args.k 16 in
    let b = div-le_self c.args.right 16 in
    let k = c.requires.k in
    let right = c.requires.right in
    let end = c.min.ensures in
    let most : c.low_until-then-is_low-2.result ≤ 4294967297 = c.low_until-then-is_low-2.ensures.few 4294967297 (omega (arith, a, k)) (omega (arith, b, right, end)) in
    omega (arith, most)

use Rattle.std.proofs.Common.{arith}
use Rattle.conn_parts.proofs.counted_maps.refuse_counted.Goals as goal

pub returns-clause-plane : goal.returns-clause-plane
returns-clause-plane c =
    let count = c.requires.count in
    omega (arith, count.n, count.m, count.f, count.c, c.genus-genus.ensures, c.if-genus-gt0.false, c.args.count.bounded, c.args.count.even)

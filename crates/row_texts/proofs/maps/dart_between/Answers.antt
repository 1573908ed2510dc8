-- Both ends of a dart are numbers of vertices.
use Rattle.std.proofs.Common.{arith}
use Rattle.row_texts.proofs.maps.dart_between.Goals as goal
use Rattle.row_texts.proofs.maps.dart_between.Goals.{then-u-n-via-then-u-n, then-u-n-via-else-u-n+then-v-n}

pub returns-then-u-n-clause-ends : goal.returns-then-u-n-clause-ends
returns-then-u-n-clause-ends c dart =
    let head = c.args.map.now.known.simple.in_range _ _ dart in
    let tail = dart.0 in
    elim c.then-u-n.branch [
      | then-u-n-via-then-u-n w ↦ omega (arith, w.if-u-n, tail, c.n.ensures.count)
      | then-u-n-via-else-u-n+then-v-n w ↦ omega (arith, w.if-v-n, head, w.n-else-u-n.ensures.count)
    ]

use Rattle.std.proofs.Common.{◌≡◌, length, arith}
use Rattle.half_edges.proofs.ReserveLemmas.{IsFreer-none, IsFreer-more}
use Rattle.half_edges.proofs.edge_edits.push_free.Goals as goal

pub loop-i-init : goal.loop-i-init
loop-i-init c = record {
  freer = IsFreer-none c.args.darts.now.items c.args.free c.args.spare c.requires.paired c.requires.threaded;
  room = omega (arith, c.requires.room);
}

pub loop-i-preserved : goal.loop-i-preserved
loop-i-preserved c =
    let d_is : c.len-d.result ≡ length c.loop-i.darts.items = omega (arith, c.len-d.ensures, c.loop-i.darts.ok.0) in
    record {
      freer =
          rw (c.push_reserved-in-loop-i.ensures.items, c.push_reserved.ensures.items)
          (IsFreer-more c.args.darts.now.items c.loop-i.darts.items c.loop-i.free c.args.spare c.loop-i.i c.loop-i.invariant.freer c.len-d.result d_is);
      room = omega (arith, c.loop-i.invariant.room, c.push_reserved-in-loop-i.ensures.len, c.push_reserved.ensures.len, c.push_reserved-in-loop-i.ensures.capacity, c.push_reserved.ensures.capacity);
    }

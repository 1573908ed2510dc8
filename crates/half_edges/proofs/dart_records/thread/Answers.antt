use Rattle.half_edges.proofs.WriteLemmas.{IsThreaded-writes}
use Rattle.half_edges.proofs.dart_records.thread.Goals as goal

pub returns : goal.returns
returns c = IsThreaded-writes c.args.darts.now c.args.d c.args.twin c.args.free c.args.spare c.requires.d_in c.requires.twin_in

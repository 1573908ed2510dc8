use Rattle.half_edges.proofs.WriteLemmas.{IsSpliced-writes}
use Rattle.half_edges.proofs.dart_records.splice.Goals as goal

pub returns : goal.returns
returns c = IsSpliced-writes c.args.darts.now c.args.d c.args.before c.args.after c.args.tail c.requires.d_in c.requires.before_in c.requires.after_in c.requires.alone c.requires.alone_too

use Rattle.half_edges.proofs.WriteLemmas.{IsUnspliced-writes}
use Rattle.half_edges.proofs.dart_records.unsplice.Goals as goal

pub returns : goal.returns
returns c = IsUnspliced-writes c.args.darts.now c.args.d c.requires.d_in c.requires.prev_in c.requires.next_in

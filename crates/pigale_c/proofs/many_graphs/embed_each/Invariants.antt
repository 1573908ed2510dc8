use Rattle.std.proofs.Common.{◌≡◌, length}
use Rattle.pigale_c.specs.ManyGraphs.{AreEmbeddedTo, rows_in}
use Rattle.pigale_c.proofs.ManyLemmas.{AreLong}
use Rattle.pigale_c.proofs.many_graphs.embed_each.Given as goal

abbrev pub invariant-loop-i : goal.invariant-loop-i
invariant-loop-i l =
    AreEmbeddedTo l.graphs.vertex_ends.now l.graphs.edge_ends.now l.graphs.edges.now (rows_in l.fn.ends l.fn.neighbours l.fn.x l.fn.y) (rows_in l.ends l.neighbours l.x l.y) l.fn.statuses l.statuses l.fn.found l.found l.i
    × AreLong l.fn.statuses l.statuses l.fn.found l.found × (length l.ends ≡ length l.fn.ends) × (length l.neighbours ≡ length l.fn.neighbours) × (length l.x ≡ length l.fn.x) × (length l.y ≡ length l.fn.y)

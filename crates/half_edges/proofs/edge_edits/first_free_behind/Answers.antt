use Rattle.half_edges.proofs.FreeLemmas.{free_within}
use Rattle.half_edges.proofs.edge_edits.first_free_behind.Goals as goal

pub bounds-darts-free : goal.bounds-darts-free
bounds-darts-free c = free_within _ _ _ c.requires.some c.requires.threaded

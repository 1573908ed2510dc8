use Rattle.kuratowski.proofs.VerdictLemmas.{IsWitness-no_fault}
use Rattle.kuratowski.proofs.check.path_verdict.Goals as goal

pub returns-in-None : goal.returns-in-None
returns-in-None c =
    IsWitness-no_fault c.args.graph.now c.args.witness.now.kind c.args.witness.now.branch c.args.witness.now.paths c.requires.shape c.requires.branches (rw c.in_default.is at c.missing_edge.ensures.first) c.in-None.ensures

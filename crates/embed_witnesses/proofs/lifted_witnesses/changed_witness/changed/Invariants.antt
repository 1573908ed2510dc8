use Rattle.std.proofs.Common.{◌≡◌, map}
use Rattle.std.specs.List.{range_with_len}
use Rattle.embed_contraction.proofs.Traces.{vertices_of}
use Rattle.embed_witnesses.specs.Changes.{branch_in, path_in}
use Rattle.embed_witnesses.proofs.lifted_witnesses.changed_witness.changed.Given as goal

abbrev pub invariant-loop-j : goal.invariant-loop-j
invariant-loop-j l = l.branch ≡ vertices_of (branch_in l.change l.old.branch) l.j

abbrev pub invariant-loop-p : goal.invariant-loop-p
invariant-loop-p l = l.paths ≡ map (path_in l.change l.old.paths) (range_with_len 0 l.p)

use Rattle.std.proofs.Common.{◌≡◌, take}
use Rattle.embed_witnesses.specs.Renamed.{named, renamed_list, renamed_paths}
use Rattle.embed_witnesses.proofs.renamed_witnesses.rename.renamed.Given as goal

abbrev pub invariant-loop-i : goal.invariant-loop-i
invariant-loop-i l = l.branch ≡ renamed_list (named l.table) (take l.i l.witness.branch)

abbrev pub invariant-loop-p : goal.invariant-loop-p
invariant-loop-p l = l.paths ≡ renamed_paths (named l.table) (take l.p l.witness.paths)

use Rattle.std.proofs.Common.{◌≡◌, ◌++◌, ◌∷◌, [], take}
use Rattle.embed_witnesses.specs.Renamed.{named, renamed_list}
use Rattle.embed_witnesses.proofs.renamed_witnesses.rename.push_renamed.Given as goal

abbrev pub invariant-loop-i : goal.invariant-loop-i
invariant-loop-i l = l.paths ≡ l.fn.paths ++ renamed_list (named l.table) (take l.i l.path) ∷ []

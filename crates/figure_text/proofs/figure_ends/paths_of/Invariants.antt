-- The lists before number p are taken.
use Rattle.std.proofs.Common.{◌≡◌, take, drop, map}
use Rattle.figure_text.specs.Figures.{ids}
use Rattle.figure_text.proofs.figure_ends.paths_of.Given as goal

abbrev pub invariant-loop-p : goal.invariant-loop-p
invariant-loop-p l = l.paths ≡ map ids (drop 1 (take l.p l.draft.lists))

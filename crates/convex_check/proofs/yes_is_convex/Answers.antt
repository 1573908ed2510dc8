use Rattle.convex_check.proofs.VerdictLemmas.{yes_is_convex as law}
use Rattle.convex_check.proofs.yes_is_convex.Goals as goal

pub returns : goal.returns
returns c = law

use Rattle.euler_faces.proofs.SearchLemmas.{unset_after}
use Rattle.euler_faces.proofs.euler_counts.Counter.clear.Goals as goal

pub returns-in_ok-resize-2-clause-unset : goal.returns-in_ok-resize-2-clause-unset
returns-in_ok-resize-2-clause-unset c = λ u. unset_after 65535 _ _ _ _ u c.clear.ensures.items c.in_ok-resize.ensures.items

pub returns-else-len-n-clause-unset : goal.returns-else-len-n-clause-unset
returns-else-len-n-clause-unset c = λ u. unset_after 65535 _ _ _ _ u c.clear.ensures.items c.in_ok-resize.ensures.items

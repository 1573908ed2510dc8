use Rattle.std.proofs.Common.{◌≢◌, AllPairs, reverse, sym, ap, ◌∙◌, subst}
use Rattle.std.proofs.lemmas.List.{reverse-reverse}
use Rattle.canon_order.proofs.Counters.{AllPairs-from_reverse}
use Rattle.canon_order.proofs.order.reversed_order.Goals as goal

pub of-requires-clause-distinct : goal.of-requires-clause-distinct
of-requires-clause-distinct c = AllPairs-from_reverse _ (subst (AllPairs ◌≢◌) (sym (ap reverse c.in_ok-at.ensures ∙ reverse-reverse c.args.taken.now)) c.requires.distinct)

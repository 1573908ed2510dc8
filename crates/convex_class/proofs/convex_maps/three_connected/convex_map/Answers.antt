use Rattle.std.proofs.Common.{ℕ, MatchOption, sym, subst}
use Rattle.graph_search.specs.Cuts.{IsCutVertex, IsSeparatingPair, IsLeastPair}
use Rattle.convex_class.proofs.BiconnectedLemmas.{IsThreeConnected-biconnected}
use Rattle.convex_class.proofs.convex_maps.three_connected.convex_map.Goals as goal

pub separating_pair_by-requires-clause-uncut : goal.separating_pair_by-requires-clause-uncut
separating_pair_by-requires-clause-uncut c = λ v. subst (λ lists. ¬ IsCutVertex lists v) (sym c.in_ok-map.ensures.lists) (c.in_ok-map.ensures.served.uncut v)

pub returns-in-None-clause-served : goal.returns-in-None-clause-served
returns-in-None-clause-served c =
    let lists = c.in_ok-map.map.lists in
    let none = subst (λ found. MatchOption found ((u v : ℕ) → ¬ IsSeparatingPair lists u v) (λ p. IsLeastPair lists p.0.0 p.1.0)) c.in-None.is c.in_ok-u.ensures in
    IsThreeConnected-biconnected c.args.lists.now c.in_ok-map.ensures.served (λ u v. subst (λ l. ¬ IsSeparatingPair l u v) c.in_ok-map.ensures.lists (none u v))

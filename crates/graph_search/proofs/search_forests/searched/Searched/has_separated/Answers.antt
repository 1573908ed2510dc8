use Rattle.std.proofs.Common.{◌≡◌, ℕ, List, Contains, length, get_or, take, ap, ◌∙◌, subst, arith}
use Rattle.std.proofs.Math.Seq.{take-length}
use Rattle.std.proofs.lemmas.List.Elements.{Contains-get_or}
use Rattle.graph_search.specs.Flags.{HasSeparatedChild}
use Rattle.graph_search.proofs.search_forests.searched.Searched.has_separated.Goals as goal

pub is_separated-requires-clause-u_in : goal.is_separated-requires-clause-u_in
is_separated-requires-clause-u_in c =
    let s = c.args.self.now in
    let list = c.list-list.result.now in
    let u = get_or list c.loop-u.u-index 0 in
    s.in_range c.args.v u (c.requires, subst (λ (us : List ℕ). Contains us u) c.list-list.ensures (Contains-get_or list c.loop-u.u-index 0 c.loop-u-test.true))

pub returns : goal.returns
returns c =
    let s = c.args.self.now in
    let list = c.list-list.result.now in
    let whole : c.loop-u.u-index ≡ length list = omega (arith, c.loop-u-test.false) in
    subst (λ (us : List ℕ). ¬ HasSeparatedChild s.number.now s.parent.now s.low.now c.args.v us) (ap (λ k. take k list) whole ∙ (take-length list ∙ c.list-list.ensures)) c.loop-u.invariant

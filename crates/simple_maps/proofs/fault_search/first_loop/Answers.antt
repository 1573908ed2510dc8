use Rattle.std.proofs.Common.{◌≡◌, ◌==◌, ap, sym, ◌∙◌, arith, below_more, true, false}
use Rattle.std.specs.List.{list_any}
use Rattle.map_theory.specs.Maps.{list_of}
use Rattle.simple_maps.specs.Faults.{own_number}
use Rattle.simple_maps.proofs.FaultLemmas.{first_from_found, first_from_none, own_number_found, own_number_none}
use Rattle.simple_maps.proofs.fault_search.first_loop.Goals as goal

pub returns-then-holds : goal.returns-then-holds
returns-then-holds c =
    let lists = c.args.lists.now in
    let v = c.loop-v.v in
    let own : list_any (λ w. w == v) (list_of lists v) ≡ true =
    ap (λ us. list_any (λ w. w == v) us) (sym c.list.ensures) ∙ sym c.holds.ensures ∙ c.if-holds.true in
    first_from_found own_number lists v v (omega arith) c.loop-v.invariant (own_number_found v (list_of lists v) own)

pub loop-v-preserved : goal.loop-v-preserved
loop-v-preserved c =
    let lists = c.args.lists.now in
    let v = c.loop-v.v in
    let own : list_any (λ w. w == v) (list_of lists v) ≡ false =
    ap (λ us. list_any (λ w. w == v) us) (sym c.list.ensures) ∙ sym c.holds.ensures ∙ c.if-holds.false in
    below_more _ _ c.loop-v.invariant (own_number_none v (list_of lists v) own)

pub returns : goal.returns
returns c =
    first_from_none own_number c.args.lists.now (λ v l. c.loop-v.invariant v (omega (arith, l)))

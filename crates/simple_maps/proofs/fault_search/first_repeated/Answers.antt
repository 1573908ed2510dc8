use Rattle.std.proofs.Common.{◌≡◌, length, ap, sym, ◌∙◌, arith, Some}
use Rattle.map_theory.specs.Maps.{list_of}
use Rattle.simple_maps.specs.Faults.{least_repeated}
use Rattle.simple_maps.proofs.FaultLemmas.{first_from_found, first_from_none}
use Rattle.simple_maps.proofs.MarkLemmas.{entries_within}
use Rattle.simple_maps.proofs.fault_search.first_repeated.Goals as goal

pub least_twice-requires-clause-within : goal.least_twice-requires-clause-within
least_twice-requires-clause-within c =
    entries_within c.args.lists.now c.loop-v.v c.list.result.now (length c.deref_mut.result.now) c.requires.in_range (omega arith) c.list.ensures
    (ap length c.deref_mut.ensures.value ∙ c.loop-v.invariant.count)

pub returns-in-Some : goal.returns-in-Some
returns-in-Some c =
    let lists = c.args.lists.now in
    let v = c.loop-v.v in
    let found : least_repeated v (list_of lists v) ≡ Some c.in-Some.u =
    ap (λ us. least_repeated v us) (sym c.list.ensures) ∙ sym c.least_twice.ensures.least ∙ c.in-Some.is in
    sym (first_from_found least_repeated lists v c.in-Some.u (omega arith) c.loop-v.invariant.none found)

pub returns : goal.returns
returns c =
    sym (first_from_none least_repeated c.args.lists.now (λ v l. c.loop-v.invariant.none v (omega (arith, l))))

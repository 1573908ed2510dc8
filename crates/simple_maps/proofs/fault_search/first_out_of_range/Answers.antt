use Rattle.std.proofs.Common.{◌≡◌, length, ap, sym, ◌∙◌, arith, Some, leb}
use Rattle.map_theory.specs.Maps.{list_of}
use Rattle.simple_maps.specs.Faults.{least_out_of_range, least_where}
use Rattle.simple_maps.proofs.FaultLemmas.{first_from_found, first_from_none}
use Rattle.simple_maps.proofs.fault_search.first_out_of_range.Goals as goal

pub returns-in-Some : goal.returns-in-Some
returns-in-Some c =
    let lists = c.args.lists.now in
    let found : least_out_of_range (length lists) c.loop-v.v (list_of lists c.loop-v.v) ≡ Some c.in-Some.u =
    ap (λ n. least_where (leb n) (list_of lists c.loop-v.v)) (sym c.len.ensures.is)
    ∙ ap (λ us. least_where (leb c.len.result) us) (sym c.list.ensures)
    ∙ sym c.least_beyond.ensures ∙ c.in-Some.is in
    sym (first_from_found (least_out_of_range (length lists)) lists c.loop-v.v c.in-Some.u (omega arith) c.loop-v.invariant found)

pub returns : goal.returns
returns c =
    let lists = c.args.lists.now in
    sym (first_from_none (least_out_of_range (length lists)) lists (λ v l. c.loop-v.invariant v (omega (arith, l))))

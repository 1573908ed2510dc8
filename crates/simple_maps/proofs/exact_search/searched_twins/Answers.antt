use Rattle.std.proofs.Common.{sym, ◌∙◌}
use Rattle.simple_maps.proofs.FaultLemmas.{first_fault_out_of_range, first_fault_loop, first_fault_repeated, first_fault_one_sided, IsSimpleMap-from_HasNoFault}
use Rattle.simple_maps.proofs.exact_search.searched_twins.Goals as goal

pub returns-in-Some-clause-fault : goal.returns-in-Some-clause-fault
returns-in-Some-clause-fault c =
    first_fault_out_of_range c.args.lists.now c.in-Some.v c.in-Some.u (sym c.first_out_of_range.ensures ∙ c.in-Some.is)

pub returns-in-Some-first_loop-clause-fault : goal.returns-in-Some-first_loop-clause-fault
returns-in-Some-first_loop-clause-fault c =
    first_fault_loop c.args.lists.now c.in-Some-first_loop.v c.in-Some-first_loop.v (sym c.first_out_of_range.ensures ∙ c.in_default.is) c.in-Some-first_loop.ensures

pub returns-in-Some-2-clause-fault : goal.returns-in-Some-2-clause-fault
returns-in-Some-2-clause-fault c =
    first_fault_repeated c.args.lists.now c.in-Some-2.v c.in-Some-2.u (sym c.first_out_of_range.ensures ∙ c.in_default.is) c.in_default-first_loop.ensures (sym c.in_ok-v.ensures ∙ c.in-Some-2.is)

pub returns-in-Some-3-clause-fault : goal.returns-in-Some-3-clause-fault
returns-in-Some-3-clause-fault c =
    first_fault_one_sided c.args.lists.now c.in-Some-3.v c.in-Some-3.u (sym c.first_out_of_range.ensures ∙ c.in_default.is) c.in_default-first_loop.ensures (sym c.in_ok-v.ensures ∙ c.in_default-2.is) (sym c.in_ok-v-2.ensures ∙ c.in-Some-3.is)

pub push_slots-requires-clause-simple : goal.push_slots-requires-clause-simple
push_slots-requires-clause-simple c =
    IsSimpleMap-from_HasNoFault c.args.lists.now c.requires.some_list (record {
      in_range = sym c.first_out_of_range.ensures ∙ c.in_default.is;
      no_loop = c.in_default-first_loop.ensures;
      no_repeat = sym c.in_ok-v.ensures ∙ c.in_default-2.is;
      both_ways = sym c.in_ok-v-2.ensures ∙ c.in_default-3.is;
    })

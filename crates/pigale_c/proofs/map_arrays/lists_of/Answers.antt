-- There are as many lists as ends.
use Rattle.std.proofs.Common.{◌≡◌, ap, ◌∙◌, arith, rules, length}
use Rattle.pigale_c.specs.Arrays.{lists_in, IsGivenMap}
use Rattle.pigale_c.proofs.ArrayLemmas.{length-lists_in}
use Rattle.pigale_c.proofs.map_arrays.lists_of.Goals as goal

pub returns-clause-count : goal.returns-clause-count
returns-clause-count c =
    let is : c.from_parts-lists.result ≡ lists_in c.args.ends.now c.args.neighbours.now = search rules in
    ap length is ∙ length-lists_in c.args.ends.now c.args.neighbours.now

pub returns-clause-some_list : goal.returns-clause-some_list
returns-clause-some_list c =
    let is : c.from_parts-lists.result ≡ lists_in c.args.ends.now c.args.neighbours.now = search rules in
    let given : IsGivenMap c.args.ends.now c.args.neighbours.now = search rules in
    let count : length c.from_parts-lists.result ≡ length c.args.ends.now = ap length is ∙ length-lists_in c.args.ends.now c.args.neighbours.now in
    omega arith

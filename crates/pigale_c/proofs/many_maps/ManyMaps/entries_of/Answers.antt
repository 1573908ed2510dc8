-- The neighbours of a map begin before they end.
use Rattle.std.proofs.Common.{ℕ, suc, ap, ◌∙◌, arith}
use Rattle.pigale_c.specs.ManyMaps.{begin_of}
use Rattle.pigale_c.proofs.ManyLemmas.{entries_rise}
use Rattle.pigale_c.proofs.many_maps.ManyMaps.entries_of.Goals as goal

pub returns-clause-order : goal.returns-clause-order
returns-clause-order c =
    let maps = c.args.self.now in
    let r = entries_rise maps.map_ends.now maps.ends.now maps.neighbours.now c.args.i (suc c.args.i) c.requires.given (omega arith) (omega (arith, c.requires.inside)) in
    let from = c.begin.ensures ∙ ap (λ (k : ℕ). begin_of maps.ends.now k) c.lists_of-lists.ensures.from in
    let to = c.begin-2.ensures ∙ ap (λ (k : ℕ). begin_of maps.ends.now k) c.lists_of-lists.ensures.to in
    omega (arith, r.0, from, to)

pub returns-clause-within : goal.returns-clause-within
returns-clause-within c =
    let maps = c.args.self.now in
    let r = entries_rise maps.map_ends.now maps.ends.now maps.neighbours.now c.args.i (suc c.args.i) c.requires.given (omega arith) (omega (arith, c.requires.inside)) in
    let to = c.begin-2.ensures ∙ ap (λ (k : ℕ). begin_of maps.ends.now k) c.lists_of-lists.ensures.to in
    omega (arith, r.1, to)

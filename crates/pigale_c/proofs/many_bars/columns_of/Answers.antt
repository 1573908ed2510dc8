-- The columns of a map stand within those of all.
use Rattle.std.proofs.Common.{ℕ, ◌/◌, ◌-◌, ◌+◌, ap, ap₂, arith}
use Rattle.pigale_c.proofs.ManyFigureLemmas.{columns_within}
use Rattle.pigale_c.proofs.many_bars.columns_of.Goals as goal

pub returns-clause-from : goal.returns-clause-from
returns-clause-from c = ap (λ (k : ℕ). k / 2) c.entries_of-entries.ensures.from

pub returns-clause-to : goal.returns-clause-to
returns-clause-to c = ap₂ (λ (from to : ℕ). from / 2 + (to - from) / 2) c.entries_of-entries.ensures.from c.entries_of-entries.ensures.to

pub returns-clause-within : goal.returns-clause-within
returns-clause-within c =
    let maps = c.args.maps.now in
    let to = ap₂ (λ (from to : ℕ). from / 2 + (to - from) / 2) c.entries_of-entries.ensures.from c.entries_of-entries.ensures.to in
    omega (arith, to, columns_within maps.map_ends.now maps.ends.now maps.neighbours.now c.args.i c.requires.given c.requires.inside)

-- No list of a part ends before the part begins.
use Rattle.std.proofs.Common.{ℕ, ◌-◌, List, map, drop, slice_range, ap, ap₂, ◌∙◌, arith}
use Rattle.std.proofs.lemmas.List.{take_all, length-take-le, length-drop}
use Rattle.pigale_c.specs.ManyMaps.{begin_of, entry_of_map}
use Rattle.pigale_c.proofs.ManyLemmas.{ends_behind}
use Rattle.pigale_c.proofs.many_maps.ManyMaps.own_ends.Goals as goal

pub overflow_sub-end : goal.overflow_sub-end
overflow_sub-end c =
    let ends = c.args.self.now.ends.now in
    let lists = c.lists_of-lists.result in
    let bounds = c.lists_of-lists.ensures in
    let size = length-take-le (lists.to - lists.from) (drop lists.from ends) (omega (arith, bounds.within, length-drop lists.from ends)) in
    omega (arith, c.begin-base.ensures, ends_behind ends _ lists.from lists.to c.loop-end.end-index 0 c.requires.given.lists bounds.order bounds.within (omega (arith, size, c.loop-end-test.true)))

pub returns : goal.returns
returns c =
    let lists = c.lists_of-lists.result in
    let bounds = c.lists_of-lists.ensures in
    let all = c.args.self.now.ends.now in
    let ends = slice_range all lists.from lists.to in
    c.loop-end.invariant
    ∙ ap (λ (list : List ℕ). map (λ (end : ℕ). end - c.begin-base.result) list) (take_all c.loop-end.end-index ends (omega arith))
    ∙ ap (λ (base : ℕ). map (λ (end : ℕ). end - base) ends) (c.begin-base.ensures ∙ ap (λ (k : ℕ). begin_of all k) bounds.from)
    ∙ ap₂ (λ (from to : ℕ). map (λ (end : ℕ). end - entry_of_map c.args.self.now.map_ends.now all c.args.i) (slice_range all from to)) bounds.from bounds.to

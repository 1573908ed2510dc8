use Rattle.std.proofs.Common.{ℕ, List, Contains, sym, ap, ◌∙◌, subst, arith}
use Rattle.map_theory.specs.Maps.{list_of, entry_after}
use Rattle.map_theory.proofs.DartLemmas.{Contains-entry_after}
use Rattle.rect_class.proofs.frame_finder.next_on_face.Goals as goal

pub list-requires : goal.list-requires
list-requires c = omega (arith, c.requires.simple.in_range c.args.u.0 c.args.v.0 c.requires.dart, c.from.ensures)

pub next-requires : goal.next-requires
next-requires c =
    subst (λ (us : List ℕ). Contains us c.args.u.0) (sym (c.list.ensures ∙ ap (list_of c.args.lists.now) c.from.ensures)) (c.requires.simple.both_ways c.args.u.0 c.args.v.0 c.requires.dart).1

pub returns-clause-dart : goal.returns-clause-dart
returns-clause-dart c =
    let lists = c.args.lists.now in
    let u = c.args.u.0 in
    let v = c.args.v.0 in
    let back = c.requires.simple.both_ways u v c.requires.dart in
    let is = c.next.ensures ∙ ap (entry_after u) (c.list.ensures ∙ ap (list_of lists) c.from.ensures) in
    (back.0, subst (Contains (list_of lists v)) (sym is) (Contains-entry_after u (list_of lists v) back.1))

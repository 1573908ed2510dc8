use Rattle.std.proofs.Common.{◌≡◌, ◌∙◌, suc, sym, subst, ap, add-one, arith, rules, pos, SFits}
use Rattle.std.specs.Int.{w32}
use Rattle.std.proofs.lemmas.Int.{to_z-of_z}
use Rattle.pg_plane.specs.Range.{IsWithin}
use Rattle.fpp_shift.specs.OffsetTreesRows.{far}
use Rattle.fpp_shift.proofs.OffsetTreesRowLemmas.{at-inside, at-link, next-inside, next-is, at-end, before-end, far-next}
use Rattle.fpp_shift.proofs.offset_trees.tree_growth.walk.Goals as goal

pub loop-passed-init : goal.loop-passed-init
loop-passed-init g c = record {
  here = λ row m is. (is.some, sym is.begin, search rules);
  most = omega arith;
  least = omega arith;
}

pub to_right-next-requires-clause-at : goal.to_right-next-requires-clause-at
to_right-next-requires-clause-at g c =
    let is = c.requires.2 in
    let h = c.loop-passed.invariant.here c.requires.0 c.requires.1 is in
    at-inside _ _ _ _ _ is _ _ h.0 h.1

pub to_right-next-requires-clause-link : goal.to_right-next-requires-clause-link
to_right-next-requires-clause-link g c =
    let is = c.requires.2 in
    let h = c.loop-passed.invariant.here c.requires.0 c.requires.1 is in
    (c.requires.0 (suc c.loop-passed.passed), at-link _ _ _ _ _ is _ _ h.0 h.1)

pub offset_of-requires : goal.offset_of-requires
offset_of-requires g c =
    let is = c.requires.2 in
    let h = c.loop-passed.invariant.here c.requires.0 c.requires.1 is in
    let next = next-is _ _ _ _ _ is _ _ h.0 h.1 c.to_right-next.result c.to_right-next.ensures.link in
    let l = next-inside _ _ _ _ _ is _ _ h.0 h.1 in
    omega (arith, next, l)

pub wider-width-requires : goal.wider-width-requires
wider-width-requires g c =
    let is = c.requires.2 in
    let h = c.loop-passed.invariant.here c.requires.0 c.requires.1 is in
    let next = next-is _ _ _ _ _ is _ _ h.0 h.1 c.to_right-next.result c.to_right-next.ensures.link in
    let fits : SFits w32 c.offset_of.result = search rules in
    let sum = far-next _ _ _ _ _ is _ _ h.0 h.1 c.to_right-next.result _ _ next h.2 (to_z-of_z w32 c.offset_of.result fits ∙ c.offset_of.ensures.offset) in
    subst (IsWithin (pos 1048576)) (sym sum) (is.near (suc c.loop-passed.passed) h.0)

pub loop-passed-preserved : goal.loop-passed-preserved
loop-passed-preserved g c = record {
  here = λ row m is.
      let h = c.loop-passed.invariant.here row m is in
      let next = next-is _ _ _ _ _ is _ _ h.0 h.1 c.to_right-next.result c.to_right-next.ensures.link in
      let fits : SFits w32 c.offset_of.result = search rules in
      let wide : SFits w32 c.wider-width.result = search rules in
      let sum = far-next _ _ _ _ _ is _ _ h.0 h.1 c.to_right-next.result _ _ next h.2 (to_z-of_z w32 c.offset_of.result fits ∙ c.offset_of.ensures.offset) in
      let later = before-end _ _ _ _ _ is _ _ h.0 h.1 (λ e. c.if-next-q.false (next ∙ e)) in
      (omega (arith, later), rw add-one next, rw add-one (to_z-of_z w32 c.wider-width.result wide ∙ c.wider-width.ensures ∙ sum));
  most = omega (arith, c.loop-passed.invariant.most, c.to_right-next.ensures.steps, c.offset_of.ensures.steps);
  least = omega (arith, c.loop-passed.invariant.least, c.to_right-next.ensures.steps, c.offset_of.ensures.steps);
}

pub returns-then-next-q-clause-width : goal.returns-then-next-q-clause-width
returns-then-next-q-clause-width g c = λ row m is.
    let h = c.loop-passed.invariant.here row m is in
    let next = next-is _ _ _ _ _ is _ _ h.0 h.1 c.to_right-next.result c.to_right-next.ensures.link in
    let fits : SFits w32 c.offset_of.result = search rules in
    let wide : SFits w32 c.wider-width.result = search rules in
    let sum = far-next _ _ _ _ _ is _ _ h.0 h.1 c.to_right-next.result _ _ next h.2 (to_z-of_z w32 c.offset_of.result fits ∙ c.offset_of.ensures.offset) in
    let end = at-end _ _ _ _ _ is _ _ h.0 h.1 (sym next ∙ c.if-next-q.true) in
    to_z-of_z w32 c.wider-width.result wide ∙ c.wider-width.ensures ∙ sum ∙ ap (far c.args.tree.now row) (sym end)

pub returns-then-next-q-clause-before : goal.returns-then-next-q-clause-before
returns-then-next-q-clause-before g c = λ row m is.
    let h = c.loop-passed.invariant.here row (suc m) is in
    let next = next-is _ _ _ _ _ is _ _ h.0 h.1 c.to_right-next.result c.to_right-next.ensures.link in
    let end = at-end _ _ _ _ _ is _ _ h.0 h.1 (sym next ∙ c.if-next-q.true) in
    let same : c.loop-passed.passed ≡ m = omega (arith, end) in
    h.1 ∙ ap row same

pub returns-then-next-q-clause-steps : goal.returns-then-next-q-clause-steps
returns-then-next-q-clause-steps g c = λ row m is.
    let h = c.loop-passed.invariant.here row m is in
    omega (arith, h.0, c.loop-passed.invariant.most, c.to_right-next.ensures.steps, c.offset_of.ensures.steps)

pub unreachable-requires : goal.unreachable-requires
unreachable-requires g c =
    let is = c.requires.2 in
    let h = c.loop-passed.invariant.here c.requires.0 c.requires.1 is in
    omega (arith, h.0, is.short, c.loop-passed-test.false, c.len-passed-end.ensures)

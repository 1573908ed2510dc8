use Rattle.std.proofs.Common.{◌≡◌, ◌++◌, ℕ, List, Contains, length, get_or, ap, sym, ◌∙◌, subst, arith}
use Rattle.std.proofs.lemmas.List.Elements.{Contains-get_or}
use Rattle.std.specs.List.{filter}
use Rattle.map_lists.proofs.CutLemmas.{length-cut}
use Rattle.rect_class.specs.Upper.{has_degree, AreUpperRows}
use Rattle.rect_class.proofs.UpperLemmas.{AreUpperCut-none, AreUpperCut-more}
use Rattle.rect_class.proofs.upper_neighbours.upper_rows.Goals as goal

pub put_row-requires : goal.put_row-requires
put_row-requires c = λ k d l.
    let u : ℕ = get_or c.list.result.now k d in
    c.requires.in_range c.loop-v.v u (omega (arith, c.loop-v-test.true, c.len-v-end.ensures.is), subst (λ (us : List ℕ). Contains us u) c.list.ensures (Contains-get_or {X = ℕ} c.list.result.now k d l))

pub loop-v-init : goal.loop-v-init
loop-v-init c = AreUpperCut-none c.args.lists.now c.in_ok-ends.ends.items c.in_ok-entries.entries.items c.in_ok-ends.ensures.items c.in_ok-entries.ensures.items

pub loop-v-preserved : goal.loop-v-preserved
loop-v-preserved c =
    let lists = c.args.lists.now in
    let old = c.loop-v.entries.items in
    let grown = c.in_ok-put_row.ensures ∙ ap (λ (us : List ℕ). old ++ filter (has_degree lists (length us)) us) c.list.ensures in
    AreUpperCut-more lists c.loop-v.v _ c.loop-v.ends.items _ old c.put_row.new.entries.items c.loop-v.invariant grown c.in_ok-push.ensures.items (omega (arith, c.len.ensures))

pub from_parts-requires : goal.from_parts-requires
from_parts-requires c =
    let h = c.loop-v.invariant in
    record {
      cuts = h.cuts;
      few = omega (arith, h.number, length-cut 0 c.loop-v.ends.items c.loop-v.entries.items, c.loop-v.auto.v-end, c.len-v-end.ensures.is, c.len-v-end.ensures.few);
    }

pub returns : goal.returns
returns c =
    let lists = c.args.lists.now in
    let h = c.loop-v.invariant in
    let all : c.loop-v.v ≡ length lists = omega (arith, c.loop-v-test.false, c.loop-v.auto.v-end, c.len-v-end.ensures.is) in
    subst (AreUpperRows lists) (sym c.from_parts.ensures) (record {
      count = h.number ∙ all;
      each = λ v l. h.each v (omega (arith, l, all));
    })

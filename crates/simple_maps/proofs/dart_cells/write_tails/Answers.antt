-- The notes are added up to the tails.
use Rattle.std.proofs.Common.{◌≡◌, ◌≢◌, ◌<◌, ◌+◌, ◌-◌, length, get_or, set, sym, ap, ◌∙◌, inl, inr, arith, length-set, get_or-set_same, get_or-set_other}
use Rattle.std.proofs.lemmas.Bool.{cases_eq}
use Rattle.map_lists.proofs.CutLemmas.{AreCuts-at}
use Rattle.simple_maps.proofs.CellLemmas.{ending_at, ending_at-le, ended_before, ended_before-zero, ended_before-more, ended_before-le, tail-is}
use Rattle.simple_maps.proofs.dart_cells.write_tails.Goals as goal

pub overflow_add-tails : goal.overflow_add-tails
overflow_add-tails c =
    let ends = c.args.ends.now in
    let end = get_or ends c.note.v 0 in
    omega (arith, c.note.invariant.noted end c.if-end-tails.true, ending_at-le ends c.note.v end, c.note-test.true, c.requires.few_lists)

pub sum-init : goal.sum-init
sum-init c =
    let ends = c.args.ends.now in
    let h = c.note.invariant in
    let all : c.note.v ≡ length ends - 1 = omega (arith, c.note-test.false, c.note.auto.v-end, c.requires.some_list) in
    record {
      count = h.count;
      tail = sym (ended_before-zero ends (length ends - 1));
      done = λ k l. absurd (omega (arith, l));
      noted = λ k a b. h.noted k b ∙ ap (λ m. ending_at ends m k) all;
    }

pub overflow_add-tail : goal.overflow_add-tail
overflow_add-tail c =
    let ends = c.args.ends.now in
    let h = c.sum.invariant in
    let d = c.sum.d in
    omega (arith, h.tail, h.noted d (omega arith) (omega (arith, h.count, c.sum-test.true)), ended_before-more ends (length ends - 1) d, ended_before-le ends (length ends - 1) (d + 1), c.requires.few_lists)

pub sum-preserved : goal.sum-preserved
sum-preserved c =
    let ends = c.args.ends.now in
    let m = length ends - 1 in
    let h = c.sum.invariant in
    let d = c.sum.d in
    let tails = c.sum.tails in
    let inside : d < length tails = omega (arith, h.count, c.sum-test.true) in
    let here : c.sum.tail + get_or tails d 0 ≡ ended_before ends m (d + 1) = omega (arith, h.tail, h.noted d (omega arith) inside, ended_before-more ends m d) in
    record {
      count = length-set tails d (c.sum.tail + get_or tails d 0) ∙ h.count;
      tail = here;
      done = λ k l. elim (cases_eq k d) [
        | inl e ↦ ap (λ j. get_or (set tails d (c.sum.tail + get_or tails d 0)) j 0) e ∙ (get_or-set_same tails d (c.sum.tail + get_or tails d 0) 0 inside ∙ (here ∙ ap (λ j. ended_before ends m (j + 1)) (sym e)))
        | inr ne ↦ get_or-set_other tails d k (c.sum.tail + get_or tails d 0) 0 ne ∙ h.done k (omega arith)
      ];
      noted = λ k a b.
          let ne : k ≢ d = omega arith in
          get_or-set_other tails d k (c.sum.tail + get_or tails d 0) 0 ne ∙ h.noted k (omega arith) (omega (arith, b, length-set tails d (c.sum.tail + get_or tails d 0)));
    }

pub returns : goal.returns
returns c = λ w d l a b.
    let ends = c.args.ends.now in
    let total = length c.args.tails.now in
    let h = c.sum.invariant in
    h.done d (omega (arith, b, (AreCuts-at 0 ends total w c.requires.cuts l).1, c.sum-test.false, c.sum.auto.d-end, h.count)) ∙ tail-is ends total c.requires.cuts w d l a b

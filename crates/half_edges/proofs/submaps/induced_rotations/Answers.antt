use Rattle.std.proofs.Common.{◌<◌, ◌++◌, ◌∷◌, [], length, get_or, take, sym, ap, ◌∙◌, arith}
use Rattle.std.proofs.lemmas.List.{length-map, length-take-le}
use Rattle.half_edges.specs.Induced.{induced_list, kept_lists}
use Rattle.half_edges.proofs.InducedLemmas.{entries_flagged, length-kept_lists-le, induced_more_yes, induced_more_no}
use Rattle.half_edges.proofs.submaps.induced_rotations.Goals as goal
use Rattle.half_edges.proofs.submaps.induced_rotations.Goals.{then-keep-v+in_ok-kept_entries+in_ok-push, else-keep-v}

pub kept_entries-requires-clause-within : goal.kept_entries-requires-clause-within
kept_entries-requires-clause-within c =
    let l : c.loop-v.v < length c.args.lists.now = omega (arith, c.len-count.ensures.is) in
    entries_flagged c.args.lists.now c.args.keep.now c.loop-v.v c.list.result.now c.requires.simple c.requires.flags l c.list.ensures

pub loop-v-preserved : goal.loop-v-preserved
loop-v-preserved c =
    let i = c.loop-v.v in
    let keep = c.args.keep.now in
    let lists = c.args.lists.now in
    let l : i < length lists = omega (arith, c.len-count.ensures.is) in
    let k : i < length keep = omega (arith, c.requires.flags) in
    elim c.if-keep-v.branch [
      | then-keep-v+in_ok-kept_entries+in_ok-push w ↦
          w.part-is ∙ w.in_ok-push.ensures.ok
          ∙ ap (λ xs. c.loop-v.part ++ xs ∷ []) (w.deref-then-keep-v.ensures.value ∙ w.in_ok-kept_entries.ensures ∙ ap (λ us. induced_list keep us) w.list.ensures)
          ∙ ap (λ xss. xss ++ induced_list keep (get_or lists i []) ∷ []) c.loop-v.invariant ∙ sym (induced_more_yes keep lists i k l w.if-keep-v.true)
      | else-keep-v w ↦ w.part-is ∙ c.loop-v.invariant ∙ sym (induced_more_no keep lists i k l w.if-keep-v.false)
    ]

pub from_lists-requires : goal.from_lists-requires
from_lists-requires c =
    let keep = c.args.keep.now in
    let lists = c.args.lists.now in
    let kept = kept_lists (take c.loop-v.v keep) (take c.loop-v.v lists) in
    omega (arith, c.loop-v.auto.v-end, c.len-count.ensures.few, ap length c.loop-v.invariant, length-map kept (induced_list keep), length-kept_lists-le (take c.loop-v.v keep) (take c.loop-v.v lists), length-take-le c.loop-v.v lists (omega (arith, c.loop-v.auto.v-end, c.len-count.ensures.is)))

use Rattle.std.proofs.Common.{◌++◌, ◌∷◌, [], ℕ, List, map, sym, ap, ◌∙◌, arith}
use Rattle.std.specs.List.{range_with_len}
use Rattle.std.proofs.lemmas.List.FromFn.{map-range_with_len_more}
use Rattle.embed_witnesses.specs.Merged.{old_number}
use Rattle.embed_witnesses.proofs.merged_ends.renumbered_witnesses.old_numbers.Goals as goal

pub loop-v-preserved : goal.loop-v-preserved
loop-v-preserved c =
    let f : ℕ → ℕ = λ v. old_number c.args.n c.args.b v in
    let v = c.loop-v.v in
    c.in_ok-push.ensures.items
    ∙ (ap (λ (xs : List ℕ). xs ++ c.old_number.result ∷ []) c.loop-v.invariant
    ∙ (ap (λ (w : ℕ). map f (range_with_len 0 v) ++ w ∷ []) c.old_number.ensures
    ∙ sym (map-range_with_len_more f 0 v v (omega arith))))

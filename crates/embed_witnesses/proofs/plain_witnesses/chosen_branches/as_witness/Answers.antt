use Rattle.std.specs.List.{range_with_len}
use Rattle.std.proofs.Common.{◌≡◌, map, ◌++◌, ◌∷◌, [], List, sym, ap, ◌∙◌, subst, arith, rules}
use Rattle.std.proofs.lemmas.List.FromFn.{map-range_with_len_more}
use Rattle.map_lists.specs.declared.ids.VertexId.{VertexId}
use Rattle.kuratowski.specs.Witnesses.{IsWitness}
use Rattle.embed_witnesses.specs.Plain.{chosen_at, plain_path, plain_branch, plain_paths}
use Rattle.embed_witnesses.proofs.plain_witnesses.chosen_branches.as_witness.Goals as goal

pub loop-i-preserved : goal.loop-i-preserved
loop-i-preserved c =
    let f = chosen_at c.args.chosen.now in
    c.in_ok-push.ensures.ok
    ∙ (ap (λ (vs : List VertexId). vs ++ record { 0 = c.chosen_at.result } ∷ []) c.loop-i.invariant
    ∙ (ap (λ v. map (λ i. record { 0 = f i }) (range_with_len 0 c.loop-i.i) ++ record { 0 = v } ∷ []) c.chosen_at.ensures
    ∙ sym (map-range_with_len_more {X = VertexId} (λ i. record { 0 = f i }) 0 c.loop-i.i c.loop-i.i (omega arith))))

pub loop-p-preserved : goal.loop-p-preserved
loop-p-preserved c =
    let f = plain_path c.args.kind c.args.chosen.now in
    c.in_ok-push_path.ensures
    ∙ (ap (λ (ps : List (List VertexId)). ps ++ f c.loop-p.p ∷ []) c.loop-p.invariant ∙ sym (map-range_with_len_more f 0 c.loop-p.p c.loop-p.p (omega arith)))

pub returns-else-is_yes : goal.returns-else-is_yes
returns-else-is_yes c =
    let kind = c.args.kind in
    let chosen = c.args.chosen.now in
    let branch : c.loop-i.branch ≡ plain_branch kind chosen = c.loop-i.invariant ∙ ap (λ n. map (λ i. record { 0 = chosen_at chosen i }) (range_with_len 0 n)) (omega (arith, c.loop-i-test.false, c.loop-i.auto.i-end, c.branch_count-i-end.ensures)) in
    let paths : c.loop-p.paths ≡ plain_paths kind chosen = c.loop-p.invariant ∙ ap (λ n. map (plain_path kind chosen) (range_with_len 0 n)) (omega (arith, c.loop-p-test.false, c.loop-p.auto.p-end, c.path_count-p-end.ensures)) in
    subst (λ b. ¬ IsWitness c.args.graph.now kind b (plain_paths kind chosen)) branch (subst (λ ps. ¬ IsWitness c.args.graph.now kind c.loop-i.branch ps) paths (search rules))

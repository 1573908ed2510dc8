use Rattle.std.proofs.Common.{◌≡◌, ◌++◌, ◌∷◌, [], List, map, sym, ap, ◌∙◌, arith}
use Rattle.std.specs.List.{range_with_len}
use Rattle.std.proofs.lemmas.List.FromFn.{map-range_with_len_more}
use Rattle.map_lists.specs.declared.ids.VertexId.{VertexId}
use Rattle.kuratowski.specs.Witnesses.{branch_count}
use Rattle.embed_contraction.specs.Traces.{path_count}
use Rattle.embed_contraction.proofs.Traces.{vertices_of}
use Rattle.embed_witnesses.specs.Changes.{branch_in, path_in}
use Rattle.embed_witnesses.proofs.lifted_witnesses.changed_witness.changed.Goals as goal

pub loop-j-preserved : goal.loop-j-preserved
loop-j-preserved c =
    let f = branch_in c.args.change c.args.old.now.branch in
    c.in_ok-push.ensures.ok
    ∙ (ap (λ (vs : List VertexId). vs ++ record { 0 = c.branch_of.result } ∷ []) c.loop-j.invariant
    ∙ (ap (λ v. vertices_of f c.loop-j.j ++ record { 0 = v } ∷ []) c.branch_of.ensures
    ∙ sym (map-range_with_len_more {X = VertexId} (λ i. record { 0 = f i }) 0 c.loop-j.j c.loop-j.j (omega arith))))

pub loop-p-preserved : goal.loop-p-preserved
loop-p-preserved c =
    let f = path_in c.args.change c.args.old.now.paths in
    c.in_ok-push_changed.ensures
    ∙ (ap (λ (ps : List (List VertexId)). ps ++ f c.loop-p.p ∷ []) c.loop-p.invariant ∙ sym (map-range_with_len_more f 0 c.loop-p.p c.loop-p.p (omega arith)))

pub returns : goal.returns
returns c =
    let change = c.args.change in
    let old = c.args.old.now in
    let kind = c.kind_of-kind.result in
    let branches : c.loop-j.j ≡ branch_count kind = omega (arith, c.loop-j-test.false, c.loop-j.auto.j-end, c.branch_count-j-end.ensures) in
    let paths : c.loop-p.p ≡ path_count kind = omega (arith, c.loop-p-test.false, c.loop-p.auto.p-end, c.path_count-p-end.ensures) in
    record {
      kind = c.kind_of-kind.ensures;
      branch = c.loop-j.invariant ∙ ap (vertices_of (branch_in change old.branch)) (branches ∙ ap branch_count c.kind_of-kind.ensures);
      paths = c.loop-p.invariant ∙ ap (λ n. map (path_in change old.paths) (range_with_len 0 n)) (paths ∙ ap path_count c.kind_of-kind.ensures);
    }

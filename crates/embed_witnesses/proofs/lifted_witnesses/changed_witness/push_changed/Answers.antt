use Rattle.std.proofs.Common.{◌≡◌, ◌++◌, ◌∷◌, [], suc, ◌+◌, List, sym, ap, ◌∙◌, arith}
use Rattle.std.proofs.lemmas.List.FromFn.{map-range_with_len_more}
use Rattle.map_lists.specs.declared.ids.VertexId.{VertexId}
use Rattle.embed_contraction.proofs.Traces.{vertices_of}
use Rattle.embed_witnesses.specs.Changes.{vertex_in}
use Rattle.embed_witnesses.proofs.lifted_witnesses.changed_witness.push_changed.Goals as goal

pub loop-i-preserved : goal.loop-i-preserved
loop-i-preserved c =
    let f = vertex_in c.args.change c.args.paths.now c.args.p in
    let i = c.loop-i.i in
    let next : suc i + 1 ≡ suc (i + 1) = omega arith in
    let more = sym (map-range_with_len_more {X = VertexId} (λ k. record { 0 = f k }) 0 (suc i) (i + 1) (omega arith)) in
    c.in_ok-append-2.ensures.ok c.args.new.now (vertices_of f (suc i)) c.loop-i.invariant
    ∙ ap (λ (vs : List VertexId). c.args.new.now ++ vs ∷ []) (ap (λ v. vertices_of f (suc i) ++ record { 0 = v } ∷ []) c.vertex_of_change-in-loop-i.ensures ∙ (more ∙ ap (vertices_of f) next))
